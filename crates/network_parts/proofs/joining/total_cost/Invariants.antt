use Rattle.std.proofs.Common.{◌≡◌, take}
use Rattle.std.specs.List.{sum_by}
use Rattle.network_laws.specs.declared.network.Solution.{Solution}
use Rattle.network_parts.proofs.joining.total_cost.Given as goal

abbrev pub invariant-loop-solution : goal.invariant-loop-solution
invariant-loop-solution l = l.total ≡ sum_by (λ (s : Solution). s.cost) (take l.solution-index l.solutions)
