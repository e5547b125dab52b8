use Rattle.std.proofs.Common.{◌≡◌, ℕ, ◌<◌, ◌*◌, pos, ◌+ℤ◌, length, get_or}
use Rattle.ns_place.specs.Flows.{flow_at}
use Rattle.ns_place.proofs.flows.link_flows.Given as goal

abbrev pub invariant-loop-k : goal.invariant-loop-k
invariant-loop-k l = (length l.flows.items ≡ l.k) × ((k : ℕ) → k < l.k → flow_at l.flows.items k +ℤ pos (get_or l.weights k 0) ≡ pos (get_or l.flow (2 * k) 0))
