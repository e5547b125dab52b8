use Rattle.std.proofs.Common.{arith}
use Rattle.std.proofs.lemmas.Int.{ints, clamps}
use Rattle.drawing_types.proofs.SameShapes.{same_point}
use Rattle.working_frame.proofs.Growing.{same_reach}
use Rattle.working_frame.proofs.spanning.joined.Goals as goal

pub returns : goal.returns
returns c =
    same_reach _ _
    (same_point _ _ (omega (arith, ints, clamps)) (omega (arith, ints, clamps)))
    (same_point _ _ (omega (arith, ints, clamps)) (omega (arith, ints, clamps)))
