use Rattle.std.proofs.Common.{arith, refl}
use Rattle.working_frame.proofs.MapLemmas.{change_next}
use Rattle.level_io.specs.Changed.{number_at}
use Rattle.level_io.proofs.writing.rename.Goals as goal

pub loop-i-preserved : goal.loop-i-preserved
loop-i-preserved c =
    let test = c.loop-i-test.true in
    let long = c.loop-i.auto.places in
    change_next (number_at c.args.numbers.now) c.args.places.now c.loop-i.places c.loop-i.i 0 _ c.loop-i.invariant (omega (arith, test, long)) refl
