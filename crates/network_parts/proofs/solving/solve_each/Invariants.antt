use Rattle.network_parts.specs.Answers.{AreSolved}
use Rattle.network_parts.specs.Dividing.{rows_of, sizes_of}
use Rattle.network_parts.proofs.solving.solve_each.Given as goal

abbrev pub invariant-loop-net : goal.invariant-loop-net
invariant-loop-net l = AreSolved (sizes_of l.networks) (rows_of l.networks) l.net-index l.solutions.items
