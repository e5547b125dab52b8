use Rattle.std.specs.Prelude.{FitsSigned}
use Rattle.std.proofs.lemmas.Int.{ints, to_z-of_z}
use Rattle.std.proofs.Common.{w64, rules, ◌≡◌, pos, ◌+ℤ◌, get_or, arith}
use Rattle.network_laws.proofs.Depths.{lowered_start, lowered_more}
use Rattle.network_laws.proofs.lower.lower_all.Goals as goal

pub loop-v-init : goal.loop-v-init
loop-v-init c = lowered_start c.args.parts.now c.args.least.now c.args.layers.now

pub loop-v-preserved : goal.loop-v-preserved
loop-v-preserved c =
    let parts = c.args.parts.now in
    let least = c.args.least.now in
    let v = c.loop-v.v in
    let z = c.lowered.result in
    let f : FitsSigned w64 (get_or c.loop-v.layers v (pos 0)) = search rules in
    let g : FitsSigned w64 (get_or least (get_or parts v 0) (pos 0)) = search rules in
    let h : FitsSigned w64 z = search rules in
    let is : z +ℤ get_or least (get_or parts v 0) (pos 0) ≡ get_or c.loop-v.layers v (pos 0) = let t = c.lowered.ensures in omega (arith, ints, t) in
    rw (to_z-of_z w64 z h) (lowered_more parts least c.args.layers.now c.loop-v.layers v z (omega arith) c.loop-v.invariant is)

pub lowered-requires-clause-le : goal.lowered-requires-clause-le
lowered-requires-clause-le c =
    let parts = c.args.parts.now in
    let v = c.loop-v.v in
    let f : FitsSigned w64 (get_or c.loop-v.layers v (pos 0)) = search rules in
    let g : FitsSigned w64 (get_or c.args.least.now (get_or parts v 0) (pos 0)) = search rules in
    let a = c.requires.no_more v c.loop-v-test.true in
    let b = c.loop-v.invariant.kept v (omega arith) in
    omega (arith, ints, a, b)
