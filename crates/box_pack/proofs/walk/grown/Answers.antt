use Rattle.std.proofs.Common.{arith}
use Rattle.std.proofs.lemmas.Int.{ints, clamps}
use Rattle.box_pack.proofs.Filling.{same_size}
use Rattle.box_pack.proofs.walk.grown.Goals as goal

pub returns : goal.returns
returns c = same_size _ _ _ _ (omega (arith, ints, clamps)) (omega (arith, ints, clamps))
