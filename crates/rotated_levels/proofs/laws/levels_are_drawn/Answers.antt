use Rattle.rotated_levels.proofs.LevelLemmas.{levels_are_drawn}
use Rattle.rotated_levels.proofs.laws.levels_are_drawn.Goals as goal

pub returns : goal.returns
returns c = levels_are_drawn
