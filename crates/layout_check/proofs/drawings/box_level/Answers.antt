use Rattle.layout_check.proofs.BoxDrawing.{boxes_are_drawn, boxes_are_spoilt}
use Rattle.layout_check.proofs.drawings.box_level.Goals as goal

pub returns-clause-drawn : goal.returns-clause-drawn
returns-clause-drawn c = boxes_are_drawn

pub returns-clause-spoilt : goal.returns-clause-spoilt
returns-clause-spoilt c = boxes_are_spoilt
