use Rattle.std.proofs.Common.{◌<◌, length}
use Rattle.std.specs.List.{All}
use Rattle.network_laws.proofs.order.first_ready.Given as goal

abbrev pub invariant-loop-v : goal.invariant-loop-v
invariant-loop-v l = All (λ v. v < length l.counts) l.ready.items
