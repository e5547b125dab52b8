use Rattle.cycle_break.specs.Ways.{node_keys}
use Rattle.cycle_break.proofs.Sorting.{SourcesTo}
use Rattle.cycle_break.proofs.ordering.sources.Given as goal

abbrev pub invariant-loop-at : goal.invariant-loop-at
invariant-loop-at l = SourcesTo l.arena (node_keys l.ready.items) l.at
