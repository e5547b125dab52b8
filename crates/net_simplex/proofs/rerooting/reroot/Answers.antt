use Rattle.std.proofs.Common.{◌∙◌, length, get_or, arith, refl, ap, sym, subst, inl, inr}
use Rattle.network_laws.specs.Network.{edge_at}
use Rattle.net_simplex.specs.Rooted.{beyond}
use Rattle.net_simplex.specs.Rerooting.{AreDistinct}
use Rattle.net_simplex.proofs.Walking.{before_it, behind_it}
use Rattle.net_simplex.proofs.Replanting.{to_there, to_aside, upper_there, enough, room, keeps_size, own_child, is_way_up, all_distinct, walk_after, rooted_after}
use Rattle.net_simplex.proofs.Writing.{written}
use Rattle.net_simplex.proofs.rerooting.reroot.Goals as goal

pub upper-above-requires : goal.upper-above-requires
upper-above-requires c =
    let x = c.requires.exchanges.1 in
    let p = x.rooted.parent_each in
    let l = x.child_there in
    record { node = omega (arith, p, l); there = (x.rooted.hangs c.args.child x.child_there refl x.child_hangs).is_there }

pub resize-requires : goal.resize-requires
resize-requires c =
    let x = c.requires.exchanges.1 in
    let f = x.walk.fits c.args.child x.child_there in
    rw (c.deref_mut.ensures.value, c.size_of-many.ensures, c.upper-above.ensures, c.far_end-to.ensures)
    (record {
      few = c.requires.few;
      block = omega (arith, f);
      parent = x.rooted.parent_each;
      walk = x.walk;
      edges = λ v l b. (x.rooted.hangs v l refl b).is_there;
      from = upper_there _ _ _ _ _ _ _ _ _ _ _ x c.requires.ends;
      to = to_there _ _ _ _ _ _ _ _ _ _ _ x c.requires.ends;
      held = enough _ _ _ _ _ _ _ _ _ _ _ x c.requires.ends;
    })

pub begin_at-base-requires : goal.begin_at-base-requires
begin_at-base-requires c =
    let a = to_aside _ _ _ _ _ _ _ _ _ _ _ c.requires.exchanges.1 c.requires.ends in
    rw (c.place_of-start.ensures, c.size_of-many.ensures, c.place_of-after.ensures, c.far_end-to.ensures) (λ l. omega (arith, l, a))

pub reroot_path-requires : goal.reroot_path-requires
reroot_path-requires c =
    let x = c.requires.exchanges.1 in
    let size = written c.args.walk.now.size c.resize.new.size (omega arith) in
    let sizes = rw (c.deref_mut.ensures.value, c.size_of-many.ensures, c.upper-above.ensures, c.far_end-to.ensures) at c.resize.ensures.sizes in
    let r = room _ _ _ _ _ _ _ _ _ _ _ x c.requires.ends in
    let k = keeps_size _ _ _ _ _ _ _ _ _ _ _ x c.requires.ends c.resize.new.size sizes c.args.child x.child_there (own_child _ _ _ _ _ _ _ _ _ _ _ x c.requires.ends) in
    let b = rw (c.place_of-start.ensures, c.size_of-many.ensures, c.place_of-after.ensures, c.far_end-to.ensures) at c.begin_at-base.ensures in
    rw size
    (record {
      few = c.requires.few;
      next = c.requires.next;
      room = omega (arith, r, k, b);
      way = (c.args.walk.now.size.items, is_way_up _ _ _ _ _ _ _ _ _ _ _ x c.requires.ends c.resize.new.size c.resize.ensures.same sizes);
    })

pub settle-requires : goal.settle-requires
settle-requires c =
    let x = c.requires.exchanges.1 in
    let order = c.args.tree.now.order.items in
    let place = c.args.tree.now.place.items in
    let child = c.args.child in
    let size = written c.args.walk.now.size c.resize.new.size (omega arith) in
    let sizes = rw (c.deref_mut.ensures.value, c.size_of-many.ensures, c.upper-above.ensures, c.far_end-to.ensures) at c.resize.ensures.sizes in
    let t = c.reroot_path.ensures.rerooted c.args.walk.now.size.items (rw size (is_way_up _ _ _ _ _ _ _ _ _ _ _ x c.requires.ends c.resize.new.size c.resize.ensures.same sizes)) in
    let l = (x.walk.placed (beyond (edge_at c.args.edges.now c.args.by) c.args.from) (to_there _ _ _ _ _ _ _ _ _ _ _ x c.requires.ends)).0 in
    let a = to_aside _ _ _ _ _ _ _ _ _ _ _ x c.requires.ends in
    rw (c.deref_mut-2.ensures.value, c.deref_mut-3.ensures.value, c.deref_mut-4.ensures.value, c.reroot_path.ensures.order, c.place_of-start.ensures, c.size_of-many.ensures, c.place_of-after.ensures, c.far_end-to.ensures)
    (record {
      few = c.requires.few;
      next = t.next_each;
      place = t.place_each;
      block = x.walk.fits child x.child_there;
      after = omega (arith, l);
      aside = elim a [
        | inl o ↦ inl (omega (arith, o))
        | inr o ↦ inr (omega (arith, o))
      ];
      some = x.walk.some child x.child_there;
      nodes = (place, subst (λ m. AreDistinct m order place) (sym t.place_each) (all_distinct _ _ _ _ _ _ _ _ _ _ _ x c.requires.ends));
      others = λ p lp o.
          let w = x.walk.in_order p lp in
          let u = get_or order p 0 in
          let is = w.1 in
          (t.outside u w.0 (elim o [
            | inl b ↦ before_it (get_or place child 0) (get_or c.args.walk.now.size.items child 0) (get_or place u 0) (omega (arith, b, is))
            | inr b ↦ behind_it (get_or place child 0) (get_or c.args.walk.now.size.items child 0) (get_or place u 0) (omega (arith, b, is))
          ])).0 ∙ w.1;
    })

pub returns : goal.returns
returns c =
    let x = c.requires.exchanges.1 in
    let size = written c.args.walk.now.size c.resize.new.size (omega arith) in
    let sizes = rw (c.deref_mut.ensures.value, c.size_of-many.ensures, c.upper-above.ensures, c.far_end-to.ensures) at c.resize.ensures.sizes in
    let b = rw (c.place_of-start.ensures, c.size_of-many.ensures, c.place_of-after.ensures, c.far_end-to.ensures) at c.begin_at-base.ensures in
    let t = rw (size, b) at (c.reroot_path.ensures.rerooted c.args.walk.now.size.items (rw size (is_way_up _ _ _ _ _ _ _ _ _ _ _ x c.requires.ends c.resize.new.size c.resize.ensures.same sizes))) in
    let s = rw (c.deref_mut-2.ensures.value, c.deref_mut-3.ensures.value, c.deref_mut-4.ensures.value, c.reroot_path.ensures.order, c.place_of-start.ensures, c.size_of-many.ensures, c.place_of-after.ensures, c.far_end-to.ensures) at c.settle.ensures in
    let order = written c.reroot_path.new.tree.order c.settle.new.order (omega arith) in
    let place = written c.reroot_path.new.tree.place c.settle.new.place (omega arith) in
    let next = written c.reroot_path.new.walk.next c.settle.new.next (omega arith) in
    rw (order, place, next)
    (record {
      marks = c.reroot_path.ensures.marks;
      rooted = rw c.reroot_path.ensures.marks (rooted_after _ _ _ _ _ _ _ _ _ _ _ x c.requires.ends _ _ _ _ _ sizes t _ _ s);
      walk = (walk_after _ _ _ _ _ _ _ _ _ _ _ x c.requires.ends _ _ _ _ _ sizes t _ _ s, c.settle.auto.next ∙ (ap length c.deref_mut-3.ensures.value ∙ t.next_each));
    })
