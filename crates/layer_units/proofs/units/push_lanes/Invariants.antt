use Rattle.std.proofs.Common.{◌≡◌}
use Rattle.layer_units.specs.Numbered.{lane_on}
use Rattle.layer_units.specs.Grown.{grown}
use Rattle.layer_units.proofs.units.push_lanes.Given as goal

abbrev pub invariant-loop-lane : goal.invariant-loop-lane
invariant-loop-lane l = l.units.items ≡ grown (lane_on l.run) l.initial.units.items l.lane
