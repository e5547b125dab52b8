use Rattle.std.proofs.Common.{◌≡◌, ◌++◌, drop}
use Rattle.self_loops.specs.Loops.{lanes_of_all}
use Rattle.self_loops.proofs.lanes.lanes_of_loops.Given as goal

abbrev pub invariant-loop-ends : goal.invariant-loop-ends
invariant-loop-ends l = l.lanes.items ++ lanes_of_all (drop l.ends-index l.loops) ≡ lanes_of_all l.loops
