use Rattle.compound.proofs.NestedLemmas.{planned_levels_have_room}
use Rattle.compound.proofs.bounds.planned_levels_have_room.Goals as goal

pub returns : goal.returns
returns c = planned_levels_have_room
