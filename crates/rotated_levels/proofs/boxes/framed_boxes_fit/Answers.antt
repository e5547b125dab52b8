use Rattle.rotated_levels.proofs.FrameLemmas.{framed_boxes_fit}
use Rattle.rotated_levels.proofs.boxes.framed_boxes_fit.Goals as goal

pub returns : goal.returns
returns c = framed_boxes_fit
