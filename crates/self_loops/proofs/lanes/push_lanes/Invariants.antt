use Rattle.std.proofs.Common.{◌≡◌, ◌++◌, map, drop}
use Rattle.std.specs.Prelude.{List, ℕ}
use Rattle.std.specs.List.{filter}
use Rattle.drawing_types.specs.declared.shape.Side.{Side}
use Rattle.self_loops.specs.declared.lanes.LoopLane.{LoopLane}
use Rattle.self_loops.specs.Loops.{passes}
use Rattle.self_loops.proofs.lanes.push_lanes.Given as goal

abbrev lanes_on : ℕ → List Side → List LoopLane
lanes_on edge sides = map (λ s. record { edge = edge; side = s }) sides

abbrev pub invariant-loop-side : goal.invariant-loop-side
invariant-loop-side l =
    l.lanes.items ++ lanes_on l.ends.edge (filter (passes l.ends.source l.ends.target) (drop l.side-index l.side-items)) ≡ l.initial.lanes.items ++ lanes_on l.ends.edge (filter (passes l.ends.source l.ends.target) l.side-items)
