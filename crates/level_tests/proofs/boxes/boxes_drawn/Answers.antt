use Rattle.level_model.specs.Conditions.{plain_level}
use Rattle.level_split.proofs.ExampleLemmas.{level_is}
use Rattle.level_tests.proofs.boxes.boxes_drawn.Goals as goal

pub layout_boxes-requires : goal.layout_boxes-requires
layout_boxes-requires c = level_is c.args.way (plain_level c.in_ok-level.level) c.in_ok-level.ensures
