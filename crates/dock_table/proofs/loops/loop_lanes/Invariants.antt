use Rattle.level_model.specs.Conditions.{plain_level}
use Rattle.dock_table.specs.Ends.{AreLoopLanes, upright}
use Rattle.dock_table.proofs.loops.loop_lanes.Given as goal

abbrev pub invariant-loop-e : goal.invariant-loop-e
invariant-loop-e l = AreLoopLanes (plain_level l.level) l.ends (upright l.north) l.e l.lanes
