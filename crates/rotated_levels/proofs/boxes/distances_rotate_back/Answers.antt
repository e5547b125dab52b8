use Rattle.rotated_levels.proofs.OutlineLemmas.{distances_rotate_back}
use Rattle.rotated_levels.proofs.boxes.distances_rotate_back.Goals as goal

pub returns : goal.returns
returns c = distances_rotate_back
