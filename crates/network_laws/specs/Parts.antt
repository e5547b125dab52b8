-- The connected parts of a network, numbered by their least nodes.
use Rattle.std.specs.Prelude.{◌≡◌, ℕ, ◌<◌, ◌≤◌, ◌↔◌, List, length, slice_index}
use Rattle.network_laws.specs.declared.network.NetEdge.{NetEdge}
use Rattle.network_laws.specs.Network.{edge_at, InOnePart}

-- equal numbers are one part, and each lower number belongs to a part with an earlier node:
-- so the parts are numbered 0, 1, 2 in the order of their least nodes
pub record ArePartNumbers (nodes : ℕ) (edges : List NetEdge) (numbers : List ℕ) : Type 0 where
  pub number_for_each : length numbers ≡ nodes
  pub in_range : (v : ℕ) → v < nodes → slice_index numbers v < nodes
  pub same_part : (u v : ℕ) → u < nodes → v < nodes → (slice_index numbers u ≡ slice_index numbers v) ↔ InOnePart edges u v
  pub by_least : (v n : ℕ) → v < nodes → n < slice_index numbers v → (u : ℕ) × (u < v) × (slice_index numbers u ≡ n)

-- each node has the name of a node of its part that is no later
pub record AreNames (nodes : ℕ) (edges : List NetEdge) (names : List ℕ) : Type 0 where
  pub name_for_each : length names ≡ nodes
  pub no_later : (v : ℕ) → v < nodes → slice_index names v ≤ v
  pub in_part : (v : ℕ) → v < nodes → InOnePart edges (slice_index names v) v

-- the ends of the first edges have one name
abbrev pub HaveOneName : List NetEdge → List ℕ → ℕ → Type 0
HaveOneName edges names i =
    (k : ℕ) → k < i → slice_index names (edge_at edges k).tail ≡ slice_index names (edge_at edges k).head

-- the first nodes are numbered by the names: a node that is its own name gets the next number
pub record AreNumberedTo (names numbers : List ℕ) (count i : ℕ) : Type 0 where
  pub as_long : length numbers ≡ length names
  pub no_more : count ≤ i
  pub by_name : (v : ℕ) → v < i → slice_index numbers v ≡ slice_index numbers (slice_index names v)
  pub below : (v : ℕ) → v < i → slice_index numbers v < count
  pub rising : (u v : ℕ) → u < v → v < i → slice_index names v ≡ v → slice_index numbers u < slice_index numbers v
  pub by_least : (v n : ℕ) → v < i → n < slice_index numbers v → (u : ℕ) × (u < v) × (slice_index numbers u ≡ n)
  pub all_taken : (n : ℕ) → n < count → (u : ℕ) × (u < i) × (slice_index numbers u ≡ n)

-- all nodes are numbered
abbrev pub NumbersAll : List ℕ → List ℕ → Type 0
NumbersAll names numbers = (count : ℕ) × AreNumberedTo names numbers count (length names)
