use Rattle.std.proofs.Common.{drop}
use Rattle.cycle_break.specs.Ways.{edge_keys}
use Rattle.cycle_break.specs.Reversed.{Settled}
use Rattle.cycle_break.proofs.orienting.settle.Given as goal

abbrev pub invariant-listed : goal.invariant-listed
invariant-listed l = Settled l.arena l.kept (edge_keys l.edges.items) (edge_keys (drop l.edge-index l.listed))
