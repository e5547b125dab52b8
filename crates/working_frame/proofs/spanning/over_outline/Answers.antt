use Rattle.std.proofs.Common.{arith}
use Rattle.std.proofs.lemmas.Int.{ints}
use Rattle.drawing_types.specs.declared.shape.Point.{Point}
use Rattle.drawing_types.specs.Shapes.{right_of, bottom_of}
use Rattle.drawing_types.proofs.SameShapes.{same_point}
use Rattle.working_frame.proofs.Growing.{over_two}
use Rattle.working_frame.proofs.spanning.over_outline.Goals as goal

pub returns : goal.returns
returns c =
    let r = c.args.outline.now in
    let near = c.requires in
    let low : Point = record { x = r.x; y = r.y } in
    let high : Point = record { x = right_of r; y = bottom_of r } in
    over_two c.args.reach c.with_point-begun.result c.with_point.result low high _ _ c.with_point-begun.ensures c.with_point.ensures
    (same_point _ low (omega (arith, ints)) (omega (arith, ints))) (same_point _ high (omega (arith, ints)) (omega (arith, ints)))
