use Rattle.level_io.proofs.LevelLemmas.{levels_of_leaves_are_levels}
use Rattle.level_io.proofs.laws.levels_of_leaves_are_levels.Goals as goal

pub returns : goal.returns
returns c = levels_of_leaves_are_levels
