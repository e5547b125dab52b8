use Rattle.std.proofs.Common.{arith}
use Rattle.std.proofs.lemmas.Int.{ints}
use Rattle.drawing_types.proofs.SameShapes.{same_point}
use Rattle.level_io.proofs.rotating.rotated_place.Goals as goal

pub returns-in-Left : goal.returns-in-Left
returns-in-Left c = rw c.in-Left.is (same_point _ _ (omega (arith, ints)) (omega (arith, ints)))

pub returns-in-Up : goal.returns-in-Up
returns-in-Up c = rw c.in-Up.is (same_point _ _ (omega (arith, ints)) (omega (arith, ints)))
