-- Cut values as sums over the nodes of a part.
use Rattle.std.specs.Prelude.{◌≡◌, ℕ, suc, ◌+◌, ◌*◌, ◌<◌, ◌≤◌, cond, Bool, true, ◌==◌, ℤ, pos, negsuc, ◌+ℤ◌, ◌-ℤ◌, List, [], ◌∷◌, length}
use Rattle.std.specs.Prelude.{set, take, slice_index}
use Rattle.std.specs.List.{sum_by}
use Rattle.network_laws.specs.declared.network.NetEdge.{NetEdge}
use Rattle.network_laws.specs.Layering.{layer_of}
use Rattle.network_laws.specs.Linked.{is_marked}
use Rattle.net_simplex.specs.Tree.{cut_of, cut_value}
use Rattle.net_simplex.specs.Rooted.{above}

-- the sum of the numbers of a set of nodes
abbrev pub sum_in : (ℕ → Bool) → List ℤ → ℤ
sum_in inside [] = pos 0
sum_in inside (z ∷ zs) = cond (inside 0) z (pos 0) +ℤ sum_in (λ v. inside (suc v)) zs

-- how far a number is from 0
abbrev pub size_of : ℤ → ℕ
size_of (pos n) = n
size_of (negsuc n) = suc n

abbrev pub sizes : List ℤ → ℕ
sizes [] = 0
sizes (z ∷ zs) = size_of z + sizes zs

-- for each set of nodes the numbers have the weight that leaves it less the weight that enters it as sum
abbrev pub TellsWeights : List NetEdge → List ℤ → Type 0
TellsWeights edges excess = (inside : ℕ → Bool) → sum_in inside excess ≡ cut_of edges inside

-- an edge's weight leaves its tail and comes in at its head
abbrev pub tallied : List ℤ → NetEdge → List ℤ
tallied excess e =
    set (set excess e.tail (layer_of excess e.tail +ℤ pos e.weight)) e.head
    (layer_of (set excess e.tail (layer_of excess e.tail +ℤ pos e.weight)) e.head +ℤ (pos 0 -ℤ pos e.weight))

-- the weights of the first edges
pub record IsTallied (nodes : ℕ) (edges : List NetEdge) (i : ℕ) (excess : List ℤ) : Type 0 where
  pub number_each : length excess ≡ nodes
  pub tells : TellsWeights (take i edges) excess
  pub small : sizes excess ≤ 2 * sum_by (λ (e : NetEdge). e.weight) (take i edges)

-- the number of v goes to the node on which it hangs, and is the cut value of the edge between
pub record Lifts (e : NetEdge) (k v u : ℕ) (excess cut excess' cut' : List ℤ) : Type 0 where
  pub excess_is : excess' ≡ set (set excess v (pos 0)) u (layer_of excess u +ℤ layer_of excess v)
  pub cut_is : cut' ≡ set cut k (cond (e.tail == v) (layer_of excess v) (pos 0 -ℤ layer_of excess v))

-- the nodes from place p on are lifted: their edges have their cut values
pub record AreLifted (nodes : ℕ) (edges : List NetEdge) (tree : List Bool) (order place parent : List ℕ) (p : ℕ)
    (excess cut : List ℤ) : Type 0 where
  pub number_each : length excess ≡ nodes
  pub cut_each : length cut ≡ length edges
  pub conserved : (inside : ℕ → Bool)
      → ((v : ℕ) → v < nodes → p ≤ slice_index place v → inside v ≡ inside (above edges parent v))
      → sum_in inside excess ≡ cut_of edges inside
  pub none_left : (v : ℕ) → v < nodes → p ≤ slice_index place v → layer_of excess v ≡ pos 0
  pub cuts : (v : ℕ) → v < nodes → p ≤ slice_index place v
      → layer_of cut (slice_index parent v) ≡ cut_value nodes edges tree (slice_index parent v)
  pub small : sizes excess ≤ 2 * sum_by (λ (e : NetEdge). e.weight) edges

-- the cut value of each tree edge
abbrev pub AreCutValues : ℕ → List NetEdge → List Bool → List ℤ → Type 0
AreCutValues nodes edges tree cut =
    (length cut ≡ length edges) × ((k : ℕ) → k < length edges → is_marked tree k ≡ true → layer_of cut k ≡ cut_value nodes edges tree k)
