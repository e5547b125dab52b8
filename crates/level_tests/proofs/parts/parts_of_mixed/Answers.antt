use Rattle.level_model.specs.Conditions.{plain_level}
use Rattle.level_tests.proofs.SmallLevels.{mixed_is}
use Rattle.level_tests.proofs.parts.parts_of_mixed.Goals as goal

pub split-requires : goal.split-requires
split-requires c = mixed_is (plain_level c.in_ok-level.level) c.in_ok-level.ensures
