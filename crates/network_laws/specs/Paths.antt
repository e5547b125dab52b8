-- The greatest sums of `least` over paths.
use Rattle.std.specs.Prelude.{◌≡◌, ℕ, zero, suc, ◌+◌, ◌<◌, ◌≤◌, ℤ, pos, cond, List, [], ◌∷◌, length, set, Bool, true, false, slice_index_or}
use Rattle.std.specs.List.{sum}
use Rattle.network_laws.specs.declared.network.NetEdge.{NetEdge}
use Rattle.network_laws.specs.Network.{edge_at}
use Rattle.network_laws.specs.Layering.{layer_of}

-- an edge leads from a to b and has this `least`
pub record HasLeast (edges : List NetEdge) (a b size : ℕ) : Type 0 where
  pub number : ℕ
  pub is_there : number < length edges
  pub from_is : (edge_at edges number).tail ≡ a
  pub to_is : (edge_at edges number).head ≡ b
  pub size_is : (edge_at edges number).least ≡ size

-- a path of n edges from a to b whose `least` have this sum
abbrev pub Path : List NetEdge → ℕ → ℕ → ℕ → ℕ → Type 0
Path edges a b total zero = (a ≡ b) × (total ≡ 0)
Path edges a b total (suc n) = (c before size : ℕ) × Path edges a c before n × HasLeast edges c b size × (total ≡ before + size)

-- each node stands at the greatest sum over the paths that end there
pub record AreGreatestSums (nodes : ℕ) (edges : List NetEdge) (layers : List ℤ) : Type 0 where
  pub layer_for_each : length layers ≡ nodes
  pub attained : (v : ℕ) → v < nodes → (a n total : ℕ) × Path edges a v total n × (layer_of layers v ≡ pos total)
  pub none_above : (v a n total s : ℕ) → v < nodes → Path edges a v total n → layer_of layers v ≡ pos s → total ≤ s

abbrev pub sum_at : List ℕ → ℕ → ℕ
sum_at sums v = slice_index_or sums v 0

-- each number is the sum over a path that ends there
abbrev pub ArePathSums : List NetEdge → List ℕ → Type 0
ArePathSums edges sums = (v : ℕ) → v < length sums → (a n : ℕ) × Path edges a v (sum_at sums v) n

-- the first edges keep their `least`
abbrev pub KeepLeast : List NetEdge → List ℕ → ℕ → Type 0
KeepLeast edges sums i =
    (k : ℕ) → k < i → sum_at sums (edge_at edges k).tail + (edge_at edges k).least ≤ sum_at sums (edge_at edges k).head

-- one edge's head is raised where it stood too low
abbrev pub RaisesHead : List ℕ → NetEdge → List ℕ → Bool → Type 0
RaisesHead old e new false = (new ≡ old) × (sum_at old e.tail + e.least ≤ sum_at old e.head)
RaisesHead old e new true = (new ≡ set old e.head (sum_at old e.tail + e.least)) × (sum_at old e.head < sum_at old e.tail + e.least)

-- the first edges are passed once
pub record RaisedOnce (edges : List NetEdge) (i : ℕ) (old new : List ℕ) (changed : Bool) : Type 0 where
  pub as_long : length new ≡ length old
  pub paths : ArePathSums edges new
  pub unchanged : changed ≡ false → (new ≡ old) × KeepLeast edges old i
  pub more : changed ≡ true → sum old < sum new

-- the sum of `least` over marked edges
abbrev pub marked_sum : List NetEdge → List Bool → ℕ
marked_sum [] marks = 0
marked_sum (e ∷ es) [] = 0
marked_sum (e ∷ es) (b ∷ bs) = cond b e.least 0 + marked_sum es bs
