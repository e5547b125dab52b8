use Rattle.rotated_levels.proofs.DockLemmas.{docks_rotate_back}
use Rattle.rotated_levels.proofs.docks.docks_rotate_back.Goals as goal

pub returns : goal.returns
returns c = docks_rotate_back
