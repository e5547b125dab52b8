use Rattle.level_model.specs.Conditions.{plain_level}
use Rattle.layer_units.specs.Passing.{ArePassed, spot_lists}
use Rattle.layer_units.proofs.passing.port_spots.Given as goal

abbrev pub invariant-loop-edge : goal.invariant-loop-edge
invariant-loop-edge l = ArePassed (plain_level l.level) l.marks l.edge (spot_lists l.spots)
