use Rattle.std.proofs.Common.{◌≡◌, drop}
use Rattle.std.specs.List.{list_any}
use Rattle.drawing_types.specs.Shapes.{is_side}
use Rattle.self_loops.proofs.lanes.passes.Given as goal

abbrev pub invariant-loop-passed : goal.invariant-loop-passed
invariant-loop-passed l = list_any (is_side l.side) (drop l.passed-index l.passed-items) ≡ list_any (is_side l.side) l.passed-items
