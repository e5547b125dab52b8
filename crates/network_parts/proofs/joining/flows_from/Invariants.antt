use Rattle.std.proofs.Common.{◌≡◌, ◌<◌, ℕ, length, slice_index}
use Rattle.network_laws.specs.Network.{edge_at}
use Rattle.network_parts.specs.Divided.{links_to}
use Rattle.network_parts.specs.Answers.{flow_in}
use Rattle.network_parts.proofs.joining.flows_from.Given as goal

abbrev pub invariant-loop-edge : goal.invariant-loop-edge
invariant-loop-edge l =
    (length l.flow.items ≡ l.edge-index)
    × ((k : ℕ) → k < length l.next → slice_index l.next k ≡ length (links_to l.numbers l.edges k l.edge-index))
    × ((e : ℕ) → e < l.edge-index
    → slice_index l.flow.items e ≡ slice_index (flow_in l.solutions (slice_index l.numbers (edge_at l.edges e).tail)) (length (links_to l.numbers l.edges (slice_index l.numbers (edge_at l.edges e).tail) e)))
