use Rattle.level_nets.specs.Held.{plain_gaps}
use Rattle.level_nets.specs.Routed.{AreEmpty}
use Rattle.level_nets.proofs.routing.empty_gaps.Given as goal

abbrev pub invariant-loop : goal.invariant-loop
invariant-loop l = AreEmpty l.counter (plain_gaps l.gaps.items)
