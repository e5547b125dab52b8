use Rattle.level_parts.proofs.LevelLemmas.{is_level}
use Rattle.level_parts.proofs.laws.parts_are_levels.Goals as goal

pub returns : goal.returns
returns c = is_level
