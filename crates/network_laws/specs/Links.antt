-- The edges of each node in the order of their numbers, as a chain from one to the next.
use Rattle.std.specs.Prelude.{◌≡◌, ◌≢◌, ℕ, suc, ◌<◌, ◌≤◌, List, length, slice_index}
use Rattle.network_laws.specs.declared.network.NetEdge.{NetEdge}
use Rattle.network_laws.specs.declared.links.End.{End}
use Rattle.network_laws.specs.declared.links.End.TheVariants.{Tail, Head}
use Rattle.network_laws.specs.Network.{edge_at}

-- the node at one end of an edge, and the one at the other
abbrev pub end_of : End → NetEdge → ℕ
end_of Tail e = e.tail
end_of Head e = e.head

abbrev pub far_of : End → NetEdge → ℕ
far_of Tail e = e.head
far_of Head e = e.tail

-- k is the lowest-numbered edge from `from` on with this end at v, or the number of edges where there is none
pub record IsNextAt (edges : List NetEdge) (end : End) (v from k : ℕ) : Type 0 where
  pub not_before : from ≤ k
  pub in_range : k ≤ length edges
  pub here : k < length edges → end_of end (edge_at edges k) ≡ v
  pub none_between : (j : ℕ) → from ≤ j → j < k → end_of end (edge_at edges j) ≢ v

-- each node's first edge, and after each edge the next one with the same node at this end
pub record AreLinks (nodes : ℕ) (edges : List NetEdge) (end : End) (first next : List ℕ) : Type 0 where
  pub node_each : length first ≡ nodes
  pub edge_each : length next ≡ length edges
  pub begins : (v : ℕ) → v < nodes → IsNextAt edges end v 0 (slice_index first v)
  pub goes_on : (k : ℕ) → k < length edges → IsNextAt edges end (end_of end (edge_at edges k)) (suc k) (slice_index next k)

-- the edges from number i on are linked
pub record AreLinksFrom (nodes : ℕ) (edges : List NetEdge) (end : End) (i : ℕ) (first next : List ℕ) : Type 0 where
  pub node_each : length first ≡ nodes
  pub edge_each : length next ≡ length edges
  pub begins : (v : ℕ) → v < nodes → IsNextAt edges end v i (slice_index first v)
  pub goes_on : (k : ℕ) → i ≤ k → k < length edges → IsNextAt edges end (end_of end (edge_at edges k)) (suc k) (slice_index next k)
