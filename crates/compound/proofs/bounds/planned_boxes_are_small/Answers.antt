use Rattle.compound.proofs.NestedLemmas.{planned_boxes_are_small}
use Rattle.compound.proofs.bounds.planned_boxes_are_small.Goals as goal

pub returns : goal.returns
returns c = planned_boxes_are_small
