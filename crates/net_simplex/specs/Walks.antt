-- A walk over a tree: each node takes the next place, then what hangs on it, so that the part of a node is an interval of
-- places. (Gansner, Koutsofios, North, Vo 1993: the numbers `low` and `lim`.)
use Rattle.std.specs.Prelude.{◌≡◌, ◌≢◌, ℕ, zero, suc, ◌+◌, ◌-◌, ◌<◌, ◌≤◌, ◌==◌, cond, not, ◌&&◌, nat_lt, Bool, true, List, length, set}
use Rattle.std.specs.Prelude.{slice_index}
use Rattle.network_laws.specs.declared.network.NetEdge.{NetEdge}
use Rattle.net_simplex.specs.declared.tree.Tree.{Tree}
use Rattle.net_simplex.specs.declared.tree.Walk.{Walk}
use Rattle.net_simplex.specs.Rooted.{above}

-- whether q is one of the `many` numbers from p on
abbrev pub between : ℕ → ℕ → ℕ → Bool
between p many q = not (nat_lt q p) && nat_lt q (p + many)

-- whether u hangs on v, u = v included: its place is one of the `size` ones from the place of v on
abbrev pub part : List ℕ → List ℕ → ℕ → ℕ → Bool
part place size v u = between (slice_index place v) (slice_index size v) (slice_index place u)

-- a walk over the tree in which v hangs on `up v`: it begins at node 0, and takes the part of each node without a break
pub record IsWalk (nodes : ℕ) (order place size : List ℕ) (up : ℕ → ℕ) : Type 0 where
  pub order_each : length order ≡ nodes
  pub place_each : length place ≡ nodes
  pub size_each : length size ≡ nodes
  pub root_first : slice_index order 0 ≡ 0
  pub in_order : (p : ℕ) → p < nodes → (slice_index order p < nodes) × (slice_index place (slice_index order p) ≡ p)
  pub placed : (v : ℕ) → v < nodes → (slice_index place v < nodes) × (slice_index order (slice_index place v) ≡ v)
  pub some : (v : ℕ) → v < nodes → 0 < slice_index size v
  pub fits : (v : ℕ) → v < nodes → slice_index place v + slice_index size v ≤ nodes
  pub up_there : (v : ℕ) → v < nodes → 0 < slice_index place v → up v < nodes
  pub up_other : (v : ℕ) → v < nodes → 0 < slice_index place v → up v ≢ v
  pub climbs : (v u : ℕ) → v < nodes → u < nodes → 0 < slice_index place u → u ≢ v → part place size v u ≡ part place size v (up u)

-- a walk over the tree, and room for the next order
abbrev pub HasWalk : ℕ → List NetEdge → Tree → Walk → Type 0
HasWalk nodes edges t w = IsWalk nodes t.order.items t.place.items w.size.items (above edges t.parent.items) × (length w.next.items ≡ nodes)

-- the new place of a place outside the block of `many` places from `start` on, where the block goes to before place `after`
abbrev pub moved : ℕ → ℕ → ℕ → ℕ → ℕ
moved start many after p = cond (nat_lt p start) (cond (nat_lt p after) p (p + many)) (cond (nat_lt p after) (p - many) p)

-- the first place of the block then
abbrev pub first_place : ℕ → ℕ → ℕ → ℕ
first_place start many after = cond (nat_lt start after) (after - many) after

-- the sum of the sizes of those that hang on v at `count` places from i on
abbrev pub hung_size : List ℕ → (ℕ → ℕ) → List ℕ → ℕ → ℕ → ℕ → ℕ
hung_size order up size v i zero = 0
hung_size order up size v i (suc count) =
    cond (up (slice_index order i) == v) (slice_index size (slice_index order i)) 0 + hung_size order up size v (suc i) count

abbrev pub sum_to : (ℕ → ℕ) → ℕ → ℕ
sum_to f zero = 0
sum_to f (suc n) = sum_to f n + f n

-- what hangs on a node at the last `count` places, from place i on, is counted in
pub record AreSizesTo (nodes : ℕ) (order : List ℕ) (up : ℕ → ℕ) (i count : ℕ) (size : List ℕ) : Type 0 where
  pub size_each : length size ≡ nodes
  pub sums : (v : ℕ) → v < nodes → slice_index size v ≡ 1 + hung_size order up size v i count
  pub total : sum_to (λ j. slice_index size (slice_index order j)) i ≡ nodes

-- each node counts itself and what hangs on it
pub record AreSizes (nodes : ℕ) (order : List ℕ) (up : ℕ → ℕ) (size : List ℕ) : Type 0 where
  pub size_each : length size ≡ nodes
  pub sums : (v : ℕ) → v < nodes → slice_index size v ≡ 1 + hung_size order up size v 1 (nodes - 1)
  pub all : slice_index size 0 ≡ nodes

-- the nodes at the places below i of the old order have their new places; `next` tells the place of what comes next on each
pub record ArePlacedTo (nodes : ℕ) (order old : List ℕ) (up : ℕ → ℕ) (size : List ℕ) (i count : ℕ) (place next : List ℕ) : Type 0 where
  pub place_each : length place ≡ nodes
  pub next_each : length next ≡ nodes
  pub root : slice_index place 0 ≡ 0
  pub begins : (v : ℕ) → v < nodes → slice_index old v < i → slice_index place v < slice_index next v
  pub room : (v : ℕ) → v < nodes → slice_index old v < i
      → slice_index next v + hung_size order up size v i count ≡ slice_index place v + slice_index size v
  pub nested : (p v : ℕ) → p < nodes → v < nodes → slice_index old p < i → slice_index old v < i → p ≢ v
      → part place size p v ≡ true
      → (slice_index place p < slice_index place v) × (slice_index place v + slice_index size v ≤ slice_index next p)
  pub climbs : (v u : ℕ) → v < nodes → u < nodes → slice_index old v < i → slice_index old u < i → 0 < slice_index old u → u ≢ v
      → part place size v u ≡ part place size v (up u)
  pub fits : (v : ℕ) → v < nodes → slice_index old v < i → slice_index place v + slice_index size v ≤ nodes

-- each node has its place in the walk
pub record AreWalkPlaces (nodes : ℕ) (up : ℕ → ℕ) (size place : List ℕ) : Type 0 where
  pub place_each : length place ≡ nodes
  pub root : slice_index place 0 ≡ 0
  pub fits : (v : ℕ) → v < nodes → slice_index place v + slice_index size v ≤ nodes
  pub apart : (u v : ℕ) → u < nodes → v < nodes → slice_index place u ≡ slice_index place v → u ≡ v
  pub climbs : (v u : ℕ) → v < nodes → u < nodes → u ≢ 0 → u ≢ v → part place size v u ≡ part place size v (up u)

-- `v`, which hangs on u, takes the next place there
pub record TakesPlace (v u : ℕ) (size place next place' next' : List ℕ) : Type 0 where
  pub place_is : place' ≡ set place v (slice_index next u)
  pub next_is : next' ≡ set (set next u (slice_index next u + slice_index size v)) v (slice_index next u + 1)
