use Rattle.std.proofs.Common.{arith}
use Rattle.std.proofs.lemmas.Int.{ints}
use Rattle.drawing_types.proofs.SameShapes.{same_point}
use Rattle.working_frame.proofs.moving.moved_point.Goals as goal

pub returns : goal.returns
returns c =
    let a = c.requires.point in
    let b = c.requires.by in
    same_point _ _ (omega (arith, ints)) (omega (arith, ints))
