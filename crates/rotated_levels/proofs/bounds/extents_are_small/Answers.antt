use Rattle.rotated_levels.proofs.Bounded.{extents_small}
use Rattle.rotated_levels.proofs.bounds.extents_are_small.Goals as goal

pub returns : goal.returns
returns c = extents_small
