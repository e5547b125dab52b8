use Rattle.std.proofs.Common.{rules, ◌∙◌, ◌+◌, FitsSigned, w64, length, get_or, arith, subst, sym, ap}
use Rattle.std.proofs.lemmas.Int.{to_z-of_z}
use Rattle.network_laws.specs.Layering.{layer_of}
use Rattle.net_simplex.specs.Chosen.{lower_of, IsLowest}
use Rattle.net_simplex.proofs.Departing.{lowest_start, lowest_more, lowest_end, there}
use Rattle.net_simplex.proofs.chain.leaving.Goals as goal

pub loop-v-init : goal.loop-v-init
loop-v-init c = (omega arith, lowest_start (length c.args.tree.now.parent.items) c.args.edges.now c.args.tree.now.marks.items c.args.tree.now.order.items c.args.tree.now.place.items c.args.tree.now.parent.items c.requires.rooted c.requires.spanning c.requires.ends c.args.cut.now)

pub bounds-cut-k : goal.bounds-cut-k
bounds-cut-k c =
    let t = c.loop-v-test.true in
    let h = there (length c.args.tree.now.parent.items) c.args.edges.now c.args.tree.now.marks.items c.args.tree.now.order.items c.args.tree.now.place.items c.args.tree.now.parent.items c.requires.rooted c.requires.spanning c.requires.ends c.args.cut.now c.loop-v.v c.loop-v.invariant.0 (omega (arith, t)) in
    let a = h.0 in
    let n = c.requires.same in
    rw c.parent_of-k.ensures (omega (arith, a, n))

pub loop-v-preserved : goal.loop-v-preserved
loop-v-preserved c =
    let i = c.loop-v.v in
    let t = c.loop-v-test.true in
    let k = get_or c.args.tree.now.parent.items i 0 in
    let z = layer_of c.args.cut.now k in
    let f : FitsSigned w64 z = search rules in
    let is = rw (c.parent_of-k.ensures, to_z-of_z w64 z f) at c.is_negative.ensures in
    let more = lowest_more (length c.args.tree.now.parent.items) c.args.edges.now c.args.tree.now.marks.items c.args.tree.now.order.items c.args.tree.now.place.items c.args.tree.now.parent.items c.requires.rooted c.requires.spanning c.requires.ends c.args.cut.now i c.loop-v.invariant.0 (omega (arith, t)) c.loop-v.lowest c.loop-v.invariant.1 in
    (omega arith, subst (λ o. IsLowest c.args.tree.now.marks.items c.args.tree.now.parent.items c.args.cut.now (i + 1) o) (sym ((rw c.parent_of-k.ensures at c.lower-lowest.ensures) ∙ ap (lower_of c.loop-v.lowest k) is)) more)

pub returns : goal.returns
returns c = lowest_end (length c.args.tree.now.parent.items) c.args.edges.now c.args.tree.now.marks.items c.args.tree.now.order.items c.args.tree.now.place.items c.args.tree.now.parent.items c.requires.rooted c.requires.spanning c.requires.ends c.args.cut.now c.loop-v.v c.loop-v.lowest (let t = c.loop-v-test.false in omega (arith, t)) c.loop-v.invariant.1
