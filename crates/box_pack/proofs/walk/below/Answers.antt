use Rattle.std.proofs.Common.{arith}
use Rattle.std.proofs.lemmas.Int.{ints}
use Rattle.box_pack.proofs.Filling.{same_cursor}
use Rattle.box_pack.proofs.walk.below.Goals as goal

pub returns : goal.returns
returns c = same_cursor _ _ _ _ _ _ (omega (arith, ints)) (omega (arith, ints)) (omega (arith, ints))
