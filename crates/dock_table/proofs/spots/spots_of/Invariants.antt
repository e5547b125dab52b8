use Rattle.level_model.specs.Conditions.{plain_level}
use Rattle.dock_table.specs.Rows.{AreSpotsTo}
use Rattle.dock_table.proofs.spots.spots_of.Given as goal

abbrev pub invariant-loop-edge : goal.invariant-loop-edge
invariant-loop-edge l = AreSpotsTo (plain_level l.level) l.courses l.edge l.spots
