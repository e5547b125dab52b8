use Rattle.std.proofs.Common.{◌≡◌, ◌∙◌, refl, get_or, arith, ap, sym, subst}
use Rattle.network_laws.specs.Network.{edge_at}
use Rattle.net_simplex.specs.Rooted.{above, beyond}
use Rattle.net_simplex.specs.Rerooting.{AreDistinct}
use Rattle.net_simplex.proofs.Rewalking.{own_child, way_distinct, way_small, way_begins, up_there, up_earlier, up_wide, up_small, up_within, up_place, up_size, up_parent, edge_there, way_goes_on}
use Rattle.net_simplex.proofs.Writing.{written}
use Rattle.net_simplex.proofs.rerooting.reroot_path.Goals as goal

pub plant_all-requires : goal.plant_all-requires
plant_all-requires c =
    let y = c.requires.way.1 in
    let s = way_small _ _ _ _ _ _ _ _ _ y c.args.from y.from_there y.from_below in
    let f = y.walk.fits c.args.from y.from_there in
    let e = y.as_before c.args.from y.from_there y.from_below in
    let r = c.requires.room in
    let l = c.requires.next in
    let few = c.requires.few in
    rw (c.deref.ensures.value, c.deref_mut.ensures.value, c.deref_mut-2.ensures.value, c.branch_of-part.ensures.low, c.branch_of-part.ensures.held)
    (record {
      few = omega (arith, few, l);
      range = omega arith;
      there = omega (arith, f, e);
      room = omega (arith, s, r, l);
      nodes = (c.args.tree.now.place.items, subst (λ m. AreDistinct m c.args.tree.now.order.items c.args.tree.now.place.items) (sym y.walk.place_each) (way_distinct _ _ _ _ _ _ _ _ _ y));
    })

pub way-init : goal.way-init
way-init c =
    let place = written c.args.tree.now.place c.plant_all.new.place (omega arith) in
    let next = written c.args.walk.now.next c.plant_all.new.next (omega arith) in
    let planted = rw (c.deref.ensures.value, c.deref_mut.ensures.value, c.deref_mut-2.ensures.value, c.branch_of-part.ensures.low, c.branch_of-part.ensures.held) at c.plant_all.ensures in (
      refl,
      refl,
      λ was y. (
        rw (place, next, c.size_of-many.ensures) (way_begins _ _ _ _ _ _ _ _ _ y c.args.base c.args.by _ _ _ c.requires.next c.requires.room planted),
        c.branch_of-part.ensures.link,
        c.branch_of-part.ensures.low,
        c.branch_of-part.ensures.held ∙ y.as_before c.args.from y.from_there y.from_below,
        c.size_of-many.ensures ∙ y.as_before c.args.child y.child_there (own_child _ _ _ _ _ _ _ _ _ y),
      ),
    )

pub far_end-v-requires : goal.far_end-v-requires
far_end-v-requires c =
    let y = c.requires.way.1 in
    let i = c.way.invariant.2 c.requires.way.0 y in
    let t = i.0 in
    let ne = c.if-v-child.false in
    let a = edge_there _ _ _ _ _ _ _ _ _ y _ _ _ _ _ _ _ t ne in
    let b = i.1 in
    omega (arith, a, b)

pub reroot_next-part-requires : goal.reroot_next-part-requires
reroot_next-part-requires c =
    let y = c.requires.way.1 in
    let i = c.way.invariant.2 c.requires.way.0 y in
    let t = i.0 in
    let ne = c.if-v-child.false in
    let v = c.way.v in
    let a = up_there _ _ _ _ _ _ _ _ _ y _ _ _ _ _ _ _ t ne in
    let e : c.far_end-v.result ≡ above c.args.edges.now c.args.tree.now.parent.items v = c.far_end-v.ensures ∙ ap (λ k. beyond (edge_at c.args.edges.now k) v) i.1 in
    let lp = t.place_each in
    let ep = ap (λ z. get_or c.way.tree.place.items z 0) e ∙ up_place _ _ _ _ _ _ _ _ _ y _ _ _ _ _ _ _ t ne in
    let es = ap (λ z. get_or c.way.walk.size.items z 0) e ∙ up_size _ _ _ _ _ _ _ _ _ y _ _ _ _ _ _ _ t ne in
    let low = i.2 in
    let held = i.3 in
    let many = i.4 in
    let early = up_earlier _ _ _ _ _ _ _ _ _ y _ _ _ _ _ _ _ t ne in
    let wide = up_wide _ _ _ _ _ _ _ _ _ y _ _ _ _ _ _ _ t ne in
    let small = up_small _ _ _ _ _ _ _ _ _ y _ _ _ _ _ _ _ t ne in
    let inside = up_within _ _ _ _ _ _ _ _ _ y _ _ _ _ _ _ _ t ne in
    let f = y.walk.fits (above c.args.edges.now c.args.tree.now.parent.items v) a in
    let oc = y.as_before c.args.child y.child_there (own_child _ _ _ _ _ _ _ _ _ y) in
    let room = c.requires.room in
    rw c.way.invariant.1
    (record {
      few = c.requires.few;
      next = t.next_each;
      there = omega (arith, a, e, lp);
      size = t.size_each ∙ sym lp;
      parent = t.parent_each ∙ sym lp;
      begins = omega (arith, ep, low, early);
      ends = omega (arith, ep, es, low, held, wide);
      in_order = omega (arith, ep, es, f);
      room = omega (arith, es, inside, oc, room);
      block = omega (arith, held, many, small, inside);
      nodes = (c.args.tree.now.place.items, subst (λ m. AreDistinct m c.args.tree.now.order.items c.args.tree.now.place.items) (sym lp) (way_distinct _ _ _ _ _ _ _ _ _ y));
    })

pub way-preserved : goal.way-preserved
way-preserved c = (
  c.reroot_next-part.ensures.marks ∙ c.way.invariant.0,
  c.reroot_next-part.ensures.order ∙ c.way.invariant.1,
  λ was y.
      let i = c.way.invariant.2 was y in
      let t = i.0 in
      let ne = c.if-v-child.false in
      let v = c.way.v in
      let e : c.far_end-v.result ≡ above c.args.edges.now c.args.tree.now.parent.items v = c.far_end-v.ensures ∙ ap (λ k. beyond (edge_at c.args.edges.now k) v) i.1 in (
        way_goes_on _ _ _ _ _ _ _ _ _ y _ _ _ _ _ _ _ t ne _ _ _ _ _ _ _ _ _ e i.1 i.2 i.3 i.4 (rw c.way.invariant.1 at c.reroot_next-part.ensures.rerooted),
        c.reroot_next-part.ensures.link ∙ (ap (λ z. get_or c.way.tree.parent.items z 0) e ∙ (up_parent _ _ _ _ _ _ _ _ _ y _ _ _ _ _ _ _ t ne ∙ sym (ap (λ z. get_or c.args.tree.now.parent.items z 0) e))),
        c.reroot_next-part.ensures.low ∙ (ap (λ z. get_or c.way.tree.place.items z 0) e ∙ (up_place _ _ _ _ _ _ _ _ _ y _ _ _ _ _ _ _ t ne ∙ sym (ap (λ z. get_or c.args.tree.now.place.items z 0) e))),
        c.reroot_next-part.ensures.held ∙ (ap (λ z. get_or c.way.walk.size.items z 0) e ∙ (up_size _ _ _ _ _ _ _ _ _ y _ _ _ _ _ _ _ t ne ∙ sym (ap (λ z. get_or was z 0) e))),
        i.4,
      ),
)

pub way-smaller : goal.way-smaller
way-smaller c =
    let y = c.requires.way.1 in
    let i = c.way.invariant.2 c.requires.way.0 y in
    let t = i.0 in
    let ne = c.if-v-child.false in
    let a = ap (λ z. get_or c.args.tree.now.place.items z 0) (c.far_end-v.ensures ∙ ap (λ k. beyond (edge_at c.args.edges.now k) c.way.v) i.1) in
    let b = up_earlier _ _ _ _ _ _ _ _ _ y _ _ _ _ _ _ _ t ne in
    omega (arith, a, b)

pub returns-then-v-child : goal.returns-then-v-child
returns-then-v-child c = record {
  rerooted = λ was y. rw c.if-v-child.true at (c.way.invariant.2 was y).0;
  marks = c.way.invariant.0;
  order = c.way.invariant.1;
}
