use Rattle.compound.proofs.PartedLevelLemmas.{parted_levels_are_drawn}
use Rattle.compound.proofs.parts.parted_levels_are_drawn.Goals as goal

pub returns : goal.returns
returns c = parted_levels_are_drawn
