use Rattle.std.proofs.Common.{◌≡◌, suc, ◌+◌, ◌-◌, ◌∙◌, length, get_or, arith, ap, sym, subst}
use Rattle.net_simplex.specs.Rooted.{above}
use Rattle.net_simplex.specs.Walks.{ArePlacedTo}
use Rattle.net_simplex.proofs.Placing.{placed_start, v_there, v_edge, p_there, ends_before, placed_more, placed_end, some_wide}
use Rattle.net_simplex.proofs.first_walk.place_all.Goals as goal

pub loop-i-init : goal.loop-i-init
loop-i-init c = placed_start (length c.args.order.now) c.args.edges.now c.args.tree.now c.args.order.now c.args.place.now c.args.parent.now c.requires.rooted c.requires.ends c.args.size.now c.requires.sizes c.args.place.now c.args.next.now c.requires.rooted.place_each c.requires.next

pub bounds-parent-v : goal.bounds-parent-v
bounds-parent-v c =
    let n = length c.args.order.now in
    let i = c.loop-i.i in
    let t = c.loop-i-test.true in
    let some = c.loop-i.auto.i in
    let count : n - i ≡ suc (n - suc i) = omega (arith, t) in
    let s = subst (λ k. ArePlacedTo n c.args.order.now c.args.place.now (above c.args.edges.now c.args.parent.now) c.args.size.now i k c.loop-i.place c.loop-i.next) count c.loop-i.invariant in
    let l = v_there n c.args.edges.now c.args.tree.now c.args.order.now c.args.place.now c.args.parent.now c.requires.rooted c.requires.ends c.args.size.now c.requires.sizes i (n - suc i) some t (omega (arith, t)) c.loop-i.place c.loop-i.next s in
    let e = c.requires.rooted.parent_each in
    omega (arith, l, e)

pub far_end-u-requires : goal.far_end-u-requires
far_end-u-requires c =
    let n = length c.args.order.now in
    let i = c.loop-i.i in
    let t = c.loop-i-test.true in
    let some = c.loop-i.auto.i in
    let count : n - i ≡ suc (n - suc i) = omega (arith, t) in
    let s = subst (λ k. ArePlacedTo n c.args.order.now c.args.place.now (above c.args.edges.now c.args.parent.now) c.args.size.now i k c.loop-i.place c.loop-i.next) count c.loop-i.invariant in
    v_edge n c.args.edges.now c.args.tree.now c.args.order.now c.args.place.now c.args.parent.now c.requires.rooted c.requires.ends c.args.size.now c.requires.sizes i (n - suc i) some t (omega (arith, t)) c.loop-i.place c.loop-i.next s

pub take_place-requires : goal.take_place-requires
take_place-requires c =
    let n = length c.args.order.now in
    let i = c.loop-i.i in
    let t = c.loop-i-test.true in
    let some = c.loop-i.auto.i in
    let count : n - i ≡ suc (n - suc i) = omega (arith, t) in
    let s = subst (λ k. ArePlacedTo n c.args.order.now c.args.place.now (above c.args.edges.now c.args.parent.now) c.args.size.now i k c.loop-i.place c.loop-i.next) count c.loop-i.invariant in
    let l = v_there n c.args.edges.now c.args.tree.now c.args.order.now c.args.place.now c.args.parent.now c.requires.rooted c.requires.ends c.args.size.now c.requires.sizes i (n - suc i) some t (omega (arith, t)) c.loop-i.place c.loop-i.next s in
    let u = p_there n c.args.edges.now c.args.tree.now c.args.order.now c.args.place.now c.args.parent.now c.requires.rooted c.requires.ends c.args.size.now c.requires.sizes i (n - suc i) some t (omega (arith, t)) c.loop-i.place c.loop-i.next s in
    let f = ends_before n c.args.edges.now c.args.tree.now c.args.order.now c.args.place.now c.args.parent.now c.requires.rooted c.requires.ends c.args.size.now c.requires.sizes i (n - suc i) some t (omega (arith, t)) c.loop-i.place c.loop-i.next s in
    let w = some_wide n c.args.edges.now c.args.tree.now c.args.order.now c.args.place.now c.args.parent.now c.requires.rooted c.requires.ends c.args.size.now c.requires.sizes (get_or c.args.order.now i 0) l in
    let e = s.place_each in
    let is = c.far_end-u.ensures in
    let isn = ap (λ z. get_or c.loop-i.next z 0) is in
    let few = c.requires.few in
    record {
      node = omega (arith, l, e);
      upper = omega (arith, u, e, is);
      size = c.requires.sizes.size_each ∙ sym e;
      next = s.next_each ∙ sym e;
      fits = omega (arith, f, isn, few);
      more = omega (arith, f, isn, few, w);
    }

pub loop-i-preserved : goal.loop-i-preserved
loop-i-preserved c =
    let n = length c.args.order.now in
    let i = c.loop-i.i in
    let t = c.loop-i-test.true in
    let some = c.loop-i.auto.i in
    let up = above c.args.edges.now c.args.parent.now in
    let count : n - i ≡ suc (n - suc i) = omega (arith, t) in
    let next : suc i ≡ i + 1 = omega arith in
    let s = subst (λ k. ArePlacedTo n c.args.order.now c.args.place.now up c.args.size.now i k c.loop-i.place c.loop-i.next) count c.loop-i.invariant in
    let m = placed_more n c.args.edges.now c.args.tree.now c.args.order.now c.args.place.now c.args.parent.now c.requires.rooted c.requires.ends c.args.size.now c.requires.sizes i (n - suc i) some t (omega (arith, t)) c.loop-i.place c.loop-i.next s c.far_end-u.result c.take_place.new.place c.take_place.new.next c.far_end-u.ensures c.take_place.ensures in
    subst (λ j. ArePlacedTo n c.args.order.now c.args.place.now up c.args.size.now j (n - j) c.take_place.new.place c.take_place.new.next) next m

pub returns : goal.returns
returns c = placed_end (length c.args.order.now) c.args.edges.now c.args.tree.now c.args.order.now c.args.place.now c.args.parent.now c.requires.rooted c.requires.ends c.args.size.now c.requires.sizes c.loop-i.i c.loop-i.place c.loop-i.next c.loop-i-test.false c.loop-i.invariant
