use Rattle.std.proofs.Common.{take}
use Rattle.cycle_break.specs.Ways.{edge_keys}
use Rattle.cycle_break.specs.Reversed.{ReversesListed}
use Rattle.cycle_break.proofs.orienting.turn_all.Given as goal

abbrev pub invariant-edges : goal.invariant-edges
invariant-edges l = ReversesListed l.initial.arena l.arena (edge_keys (take l.edge-index l.edges))
