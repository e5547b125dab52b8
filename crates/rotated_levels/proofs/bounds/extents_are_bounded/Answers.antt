use Rattle.rotated_levels.proofs.Bounded.{extents_bounded}
use Rattle.rotated_levels.proofs.bounds.extents_are_bounded.Goals as goal

pub returns : goal.returns
returns c = extents_bounded
