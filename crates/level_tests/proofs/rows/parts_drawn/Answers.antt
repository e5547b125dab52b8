use Rattle.std.proofs.Common.{arith}
use Rattle.std.proofs.lemmas.Int.{ints}
use Rattle.level_model.specs.Conditions.{plain_level}
use Rattle.level_tests.proofs.SmallLevels.{mixed_is}
use Rattle.level_tests.proofs.rows.parts_drawn.Goals as goal

pub layout_parts-requires : goal.layout_parts-requires
layout_parts-requires c = record { level = mixed_is (plain_level c.in_ok-level.level) c.in_ok-level.ensures; component = record { above = omega (arith, ints); below = omega (arith, ints) } }
