use Rattle.serde_json.specs.View.{view}
use Rattle.elk_json.specs.Seen.{seen}
use Rattle.elk_json.proofs.BuildLaws.{port_size, width_far, height_far, x_far, y_far}
use Rattle.elk_json.proofs.build.port_of.Goals as goal

pub size_of-requires-clause-width : goal.size_of-requires-clause-width
size_of-requires-clause-width c = width_far (view c.args.element.now.value.now) (port_size (seen c.args.element.now) c.requires.port c.requires.in_range)

pub size_of-requires-clause-height : goal.size_of-requires-clause-height
size_of-requires-clause-height c = height_far (view c.args.element.now.value.now) (port_size (seen c.args.element.now) c.requires.port c.requires.in_range)

pub place_of-requires-clause-x : goal.place_of-requires-clause-x
place_of-requires-clause-x c = x_far (seen c.args.element.now) c.requires.port c.requires.in_range

pub place_of-requires-clause-y : goal.place_of-requires-clause-y
place_of-requires-clause-y c = y_far (seen c.args.element.now) c.requires.port c.requires.in_range
