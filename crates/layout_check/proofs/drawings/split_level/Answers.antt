use Rattle.layout_check.proofs.SplitDrawing.{split_is_drawn, split_is_spoilt}
use Rattle.layout_check.proofs.drawings.split_level.Goals as goal

pub returns-clause-drawn : goal.returns-clause-drawn
returns-clause-drawn c = split_is_drawn

pub returns-clause-spoilt : goal.returns-clause-spoilt
returns-clause-spoilt c = split_is_spoilt
