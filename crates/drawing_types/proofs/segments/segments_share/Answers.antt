use Rattle.std.proofs.Common.{arith}
use Rattle.std.proofs.lemmas.Int.{to_z-of_z}
use Rattle.drawing_types.proofs.SegmentBounds.{Share-piece, piece-Share}
use Rattle.drawing_types.proofs.segments.segments_share.Goals as goal

pub returns : goal.returns
returns c =
    (λ h. piece-Share _ _ _ _ (grind (arith, to_z-of_z)), λ m. let s = Share-piece _ _ _ _ m in grind (arith, to_z-of_z))
