use Rattle.std.proofs.Common.{◌≡◌, ◌+◌, ◌-◌, ◌<◌, length, arith, sym, subst, ◌∙◌}
use Rattle.network_laws.specs.Network.{EndsBelow}
use Rattle.net_simplex.specs.Cuts.{AreLifted}
use Rattle.net_simplex.proofs.Folding.{lift_start, lv, other, k_there, lifted_more, lifted_all}
use Rattle.net_simplex.proofs.cuts.lift_all.Goals as goal

pub loop-left-init : goal.loop-left-init
loop-left-init c =
    let n : c.len-left.result ≡ length c.args.tree.now.order.items = omega arith in
    rw n (omega arith, lift_start (length c.args.tree.now.order.items) c.args.edges.now c.args.tree.now.marks.items c.args.tree.now.order.items c.args.tree.now.place.items c.args.tree.now.parent.items c.requires.rooted c.requires.spanning c.requires.ends c.args.excess.now c.args.cut.now c.requires.excess c.requires.cut c.requires.tells c.requires.small)

pub lift-requires : goal.lift-requires
lift-requires c =
    let n = length c.args.tree.now.order.items in
    let edges = c.args.edges.now in
    let tree = c.args.tree.now.marks.items in
    let order = c.args.tree.now.order.items in
    let place = c.args.tree.now.place.items in
    let parent = c.args.tree.now.parent.items in
    let r = c.requires.rooted in
    let p = c.loop-left.left - 1 in
    let t = c.loop-left-test.true in
    let b = c.loop-left.invariant.0 in
    let some : 0 < p = omega (arith, t) in
    let there : p < n = omega (arith, t, b) in
    let one : c.loop-left.left ≡ p + 1 = omega (arith, t) in
    let s = subst (λ i. AreLifted n edges tree order place parent i c.loop-left.excess c.loop-left.cut) one c.loop-left.invariant.1 in
    let pe = r.parent_each in
    let small = s.small in
    let w = c.requires.weights in
    rw c.node_at.ensures
    (record {
      node = let l = lv n edges tree order place parent r c.requires.spanning c.requires.ends p some there c.loop-left.excess c.loop-left.cut s in omega (arith, l, pe);
      there = k_there n edges tree order place parent r c.requires.spanning c.requires.ends p some there c.loop-left.excess c.loop-left.cut s;
      excess = s.number_each ∙ sym pe;
      ends = subst (λ x. EndsBelow x edges) (sym pe) c.requires.ends;
      cut = s.cut_each;
      other = other n edges tree order place parent r c.requires.spanning c.requires.ends p some there c.loop-left.excess c.loop-left.cut s;
      small = omega (arith, small, w);
    })

pub loop-left-preserved : goal.loop-left-preserved
loop-left-preserved c =
    let n = length c.args.tree.now.order.items in
    let edges = c.args.edges.now in
    let tree = c.args.tree.now.marks.items in
    let order = c.args.tree.now.order.items in
    let place = c.args.tree.now.place.items in
    let parent = c.args.tree.now.parent.items in
    let p = c.loop-left.left - 1 in
    let t = c.loop-left-test.true in
    let b = c.loop-left.invariant.0 in
    let some : 0 < p = omega (arith, t) in
    let there : p < n = omega (arith, t, b) in
    let one : c.loop-left.left ≡ p + 1 = omega (arith, t) in
    let s = subst (λ i. AreLifted n edges tree order place parent i c.loop-left.excess c.loop-left.cut) one c.loop-left.invariant.1 in
    (omega (arith, b), lifted_more n edges tree order place parent c.requires.rooted c.requires.spanning c.requires.ends p some there c.loop-left.excess c.loop-left.cut s c.lift.new.excess c.lift.new.cut (rw c.node_at.ensures at c.lift.ensures))

pub returns : goal.returns
returns c = lifted_all (length c.args.tree.now.order.items) c.args.edges.now c.args.tree.now.marks.items c.args.tree.now.order.items c.args.tree.now.place.items c.args.tree.now.parent.items c.requires.rooted c.requires.spanning c.requires.ends c.loop-left.left c.loop-left.excess c.loop-left.cut (let t = c.loop-left-test.false in omega (arith, t)) c.loop-left.invariant.1
