use Rattle.dock_table.proofs.LaneLemmas.{both_numbered}
use Rattle.dock_table.proofs.lanes.number_both.Goals as goal

pub returns-clause-places : goal.returns-clause-places
returns-clause-places c =
    both_numbered c.args.sides.now c.args.north c.args.south c.args.places.now c.number_lanes-after_north.new.places c.number_lanes-after_south.new.places c.requires.as_long c.requires.few_north c.requires.few_south c.requires.few
    c.number_lanes-after_north.ensures.numbered c.number_lanes-after_south.ensures.numbered
