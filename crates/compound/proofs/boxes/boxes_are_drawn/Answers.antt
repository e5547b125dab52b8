use Rattle.compound.proofs.BoxLevelLemmas.{boxes_are_drawn}
use Rattle.compound.proofs.boxes.boxes_are_drawn.Goals as goal

pub returns : goal.returns
returns c = boxes_are_drawn
