use Rattle.std.proofs.Common.{arith}
use Rattle.std.proofs.lemmas.Int.{to_z-of_z}
use Rattle.drawing_types.proofs.SegmentBounds.{EntersRect-spans, spans-EntersRect}
use Rattle.drawing_types.proofs.segments.segment_enters_rect.Goals as goal

pub returns-then-enters_span : goal.returns-then-enters_span
returns-then-enters_span c =
    (λ h. grind (arith, to_z-of_z, spans-EntersRect), λ m. let s = EntersRect-spans _ _ _ m in grind (arith, to_z-of_z))

pub returns-else-enters_span : goal.returns-else-enters_span
returns-else-enters_span c =
    (λ h. grind (arith, to_z-of_z), λ m. let s = EntersRect-spans _ _ _ m in grind (arith, to_z-of_z))
