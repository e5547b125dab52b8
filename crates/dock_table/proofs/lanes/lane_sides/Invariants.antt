use Rattle.std.proofs.Common.{◌≡◌, ◌<◌, ℕ, length}
use Rattle.dock_table.specs.Lanes.{lane_at, lane_in}
use Rattle.dock_table.proofs.lanes.lane_sides.Given as goal

abbrev pub invariant-loop-j : goal.invariant-loop-j
invariant-loop-j l = record { as_long : length l.sides.items ≡ l.j; side_is : (k : ℕ) → k < l.j → lane_in l.sides.items k ≡ lane_at l.size.height l.docks l.spots k }
