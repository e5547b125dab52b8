use Rattle.rotated_levels.proofs.SideLemmas.{sides_rotate_back}
use Rattle.rotated_levels.proofs.docks.sides_rotate_back.Goals as goal

pub returns : goal.returns
returns c = sides_rotate_back
