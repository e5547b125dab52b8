use Rattle.std.proofs.Common.{refl, arith, pos, get_or, FitsSigned, w64, to_z-of_z}
use Rattle.std.proofs.lemmas.Int.{ints}
use Rattle.unit_blocks.proofs.TopLemmas.{floors_start, floors_more}
use Rattle.unit_blocks.proofs.tops.lower_floors.Goals as goal

pub loop-u-init : goal.loop-u-init
loop-u-init c = floors_start _ _ _ _ refl c.requires.from_zero

pub loop-u-preserved : goal.loop-u-preserved
loop-u-preserved c =
    let small = c.requires.small c.loop-u.u in
    let fits : FitsSigned w64 (get_or c.args.offsets.now c.loop-u.u (pos 0)) = omega (arith, ints, small.low, small.high) in
    floors_more c.args.blocks.now c.args.offsets.now _ c.loop-u.u c.loop-u.floor _ (c.requires.in_range c.loop-u.u 0 c.loop-u-test.true) c.loop-u.invariant
    (rw (to_z-of_z fits) at c.lower_floor.ensures)
