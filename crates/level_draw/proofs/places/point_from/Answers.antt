use Rattle.std.proofs.Common.{arith}
use Rattle.std.proofs.lemmas.Int.{ints}
use Rattle.drawing_types.proofs.SameShapes.{same_point}
use Rattle.level_draw.proofs.places.point_from.Goals as goal

pub overflow_add-result : goal.overflow_add-result
overflow_add-result c =
    let a = c.requires.corner in
    let b = c.requires.by in
    omega (arith, ints)

pub overflow_add-result-2 : goal.overflow_add-result-2
overflow_add-result-2 c =
    let a = c.requires.corner in
    let b = c.requires.by in
    omega (arith, ints)

pub returns-clause-value : goal.returns-clause-value
returns-clause-value c =
    let a = c.requires.corner in
    let b = c.requires.by in
    same_point _ _ (omega (arith, ints)) (omega (arith, ints))

pub returns-clause-near : goal.returns-clause-near
returns-clause-near c =
    let a = c.requires.corner in
    let b = c.requires.by in
    record {
      x = record { above = omega (arith, ints); below = omega (arith, ints) };
      y = record { above = omega (arith, ints); below = omega (arith, ints) };
    }
