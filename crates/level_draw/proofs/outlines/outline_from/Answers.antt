use Rattle.std.proofs.Common.{arith}
use Rattle.std.proofs.lemmas.Int.{ints}
use Rattle.drawing_types.proofs.SameShapes.{same_rect}
use Rattle.level_draw.proofs.outlines.outline_from.Goals as goal

pub returns : goal.returns
returns c =
    let x = c.requires.outline_near.x in
    let y = c.requires.outline_near.y in
    let u = c.requires.corner_near.x in
    let v = c.requires.corner_near.y in
    same_rect _ _ (omega (arith, ints)) (omega (arith, ints)) (omega (arith, ints)) (omega (arith, ints))
