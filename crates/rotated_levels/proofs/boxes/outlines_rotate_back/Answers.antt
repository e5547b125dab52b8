use Rattle.rotated_levels.proofs.OutlineLemmas.{outlines_rotate_back}
use Rattle.rotated_levels.proofs.boxes.outlines_rotate_back.Goals as goal

pub returns : goal.returns
returns c = outlines_rotate_back
