use Rattle.std.proofs.Common.{arith}
use Rattle.std.proofs.lemmas.Int.{to_z-of_z}
use Rattle.drawing_types.proofs.SegmentBounds.{MeetsRect-spans, spans-MeetsRect}
use Rattle.drawing_types.proofs.segments.segment_meets_rect.Goals as goal

pub returns-then-meets_span : goal.returns-then-meets_span
returns-then-meets_span c =
    (λ h. grind (arith, to_z-of_z, spans-MeetsRect), λ m. let s = MeetsRect-spans _ _ _ m in grind (arith, to_z-of_z))

pub returns-else-meets_span : goal.returns-else-meets_span
returns-else-meets_span c =
    (λ h. grind (arith, to_z-of_z), λ m. let s = MeetsRect-spans _ _ _ m in grind (arith, to_z-of_z))
