-- How a tree hangs anew when one edge is exchanged for another: the edges on the way up from the new edge to the old one
-- turn round, and the block of places of the part goes to behind the node on which it hangs then.
use Rattle.std.specs.Prelude.{◌≡◌, ◌≢◌, ℕ, ◌+◌, ◌-◌, ◌<◌, ◌≤◌, cond, Bool, true, false, ◌⊎◌, List, length, set, slice_index}
use Rattle.network_laws.specs.declared.network.NetEdge.{NetEdge}
use Rattle.network_laws.specs.Network.{edge_at}
use Rattle.network_laws.specs.Linked.{is_marked}
use Rattle.net_simplex.specs.Rooted.{beyond, above, IsRooted}
use Rattle.net_simplex.specs.Walks.{part, IsWalk, moved, first_place}

-- the edge of `child` leaves and `by` enters, which joins `from` below the child to a node that is not below it
pub record Exchanges (nodes : ℕ) (edges : List NetEdge) (tree tree' : List Bool) (order place size parent : List ℕ)
    (child from by : ℕ) : Type 0 where
  pub rooted : IsRooted nodes edges tree order place parent
  pub walk : IsWalk nodes order place size (above edges parent)
  pub child_there : child < nodes
  pub child_hangs : 0 < slice_index place child
  pub from_there : from < nodes
  pub from_below : part place size child from ≡ true
  pub by_there : by < length edges
  pub by_end : ((edge_at edges by).tail ≡ from) ⊎ ((edge_at edges by).head ≡ from)
  pub by_outside : part place size child (beyond (edge_at edges by) from) ≡ false
  pub by_marked : is_marked tree' by ≡ true
  pub others_stay : (k : ℕ) → k < length edges → is_marked tree k ≡ true → k ≢ slice_index parent child → is_marked tree' k ≡ true

-- the block of `many` nodes has gone from what q hangs on to what `to` hangs on, both included
abbrev pub AreResized : ℕ → List ℕ → List ℕ → ℕ → ℕ → ℕ → List ℕ → Type 0
AreResized nodes place size many q to size' =
    (v : ℕ) → v < nodes → slice_index size' v + cond (part place size v q) many 0 ≡ slice_index size v + cond (part place size v to) many 0

-- on the way up between q and `to` those from q to `low` and from `to` to `high` have been resized
pub record AreResizedTo (nodes : ℕ) (place size : List ℕ) (many q to low high : ℕ) (size' : List ℕ) : Type 0 where
  pub size_each : length size' ≡ nodes
  pub low_there : low < nodes
  pub high_there : high < nodes
  pub low_holds : part place size low q ≡ true
  pub sizes : (v : ℕ) → v < nodes
      → slice_index size' v + cond (part place size v q) many 0 + cond (part place size v high) many 0
      ≡ slice_index size v + cond (part place size v to) many 0 + cond (part place size v low) many 0

-- the nodes at the places from `low` to before `high` take the places from `at` on
pub record Plants (order : List ℕ) (low high at : ℕ) (next place next' place' : List ℕ) : Type 0 where
  pub next_each : length next' ≡ length next
  pub place_each : length place' ≡ length place
  pub planted : (d : ℕ) → low + d < high
      → (slice_index place' (slice_index order (low + d)) ≡ at + d) × (slice_index next' (at + d) ≡ slice_index order (low + d))
  pub next_others : (q : ℕ) → ((q < at) ⊎ (at + high ≤ q + low)) → slice_index next' q ≡ slice_index next q
  pub place_others : (u : ℕ) → ((i : ℕ) → low ≤ i → i < high → slice_index order i ≢ u) → slice_index place' u ≡ slice_index place u

-- on the way from `from` up to the child y hung on by x, and hangs on x now: its part is all but that of x
pub record IsRerooted (nodes : ℕ) (place size parent : List ℕ) (up : ℕ → ℕ) (child from base v y x : ℕ)
    (place' size' parent' : List ℕ) : Type 0 where
  pub there : x < nodes
  pub in_part : part place size child x ≡ true
  pub on_way : part place size x from ≡ true
  pub up_is : up x ≡ y
  pub not_child : x ≢ child
  pub place_is : slice_index place' y ≡ base + slice_index size x
  pub size_is : slice_index size' y + slice_index size x ≡ slice_index size child
  pub parent_is : slice_index parent' y ≡ slice_index parent x
  pub first : (u : ℕ) → u < nodes → part place size x u ≡ true → slice_index place' u < base + slice_index size x
  pub last : (u : ℕ) → u < nodes → part place size v u ≡ true → part place size x u ≡ false
      → base + slice_index size x ≤ slice_index place' u

-- the way is rerooted up to v, whose part is planted at the places from `base` on
pub record IsRerootedTo (nodes : ℕ) (place size parent : List ℕ) (up : ℕ → ℕ) (child from base by v : ℕ)
    (resized place' size' parent' next' : List ℕ) : Type 0 where
  pub there : v < nodes
  pub in_part : part place size child v ≡ true
  pub on_way : part place size v from ≡ true
  pub place_each : length place' ≡ nodes
  pub size_each : length size' ≡ nodes
  pub parent_each : length parent' ≡ nodes
  pub next_each : length next' ≡ nodes
  pub planted : (u : ℕ) → u < nodes → part place size v u ≡ true
      → (base ≤ slice_index place' u) × (slice_index place' u < base + slice_index size v) × (slice_index next' (slice_index place' u) ≡ u)
  pub filled : (q : ℕ) → base ≤ q → q < base + slice_index size v
      → (slice_index next' q < nodes) × (part place size v (slice_index next' q) ≡ true) × (slice_index place' (slice_index next' q) ≡ q)
  pub outside : (u : ℕ) → u < nodes → part place size v u ≡ false
      → (slice_index place' u ≡ slice_index place u) × (slice_index size' u ≡ slice_index resized u)
      × (slice_index parent' u ≡ slice_index parent u)
  pub off : (y : ℕ) → y < nodes → part place size v y ≡ true → part place size y from ≡ false
      → (slice_index size' y ≡ slice_index resized y) × (slice_index parent' y ≡ slice_index parent y)
      × ((u : ℕ) → u < nodes → part place size y u ≡ true
      → slice_index place' u + slice_index place y ≡ slice_index place u + slice_index place' y)
  pub start : (slice_index place' from ≡ base) × (slice_index size' from ≡ slice_index size child) × (slice_index parent' from ≡ by)
  pub way : (y : ℕ) → y < nodes → part place size v y ≡ true → part place size y from ≡ true → y ≢ from
      → (x : ℕ) × IsRerooted nodes place size parent up child from base v y x place' size' parent'

-- the block of `many` places from `start` on is taken from `next`, where it stands at its new places, and the other nodes
-- have theirs
pub record Settles (nodes : ℕ) (order place next : List ℕ) (start many after : ℕ) (order' place' : List ℕ) : Type 0 where
  pub order_each : length order' ≡ nodes
  pub place_each : length place' ≡ nodes
  pub block : (q : ℕ) → first_place start many after ≤ q → q < first_place start many after + many
      → slice_index order' q ≡ slice_index next q
  pub others : (p : ℕ) → p < nodes → ((p < start) ⊎ (start + many ≤ p))
      → (slice_index order' (moved start many after p) ≡ slice_index order p)
      × (slice_index place' (slice_index order p) ≡ moved start many after p)
  pub kept : (u : ℕ) → ((p : ℕ) → p < nodes → ((p < start) ⊎ (start + many ≤ p)) → slice_index order p ≢ u)
      → slice_index place' u ≡ slice_index place u

-- the nodes of an order are different ones
pub record AreDistinct (nodes : ℕ) (order was : List ℕ) : Type 0 where
  pub nodes_are : (p : ℕ) → p < length order → (slice_index order p < nodes) × (slice_index was (slice_index order p) ≡ p)

-- from `from` a way leads up to the child; the sizes may have changed outside the child's part
pub record IsWayUp (nodes : ℕ) (edges : List NetEdge) (order place size parent : List ℕ) (child from : ℕ) (resized : List ℕ) : Type 0 where
  pub walk : IsWalk nodes order place size (above edges parent)
  pub parent_each : length parent ≡ nodes
  pub edges_there : (v : ℕ) → v < nodes → 0 < slice_index place v → slice_index parent v < length edges
  pub child_there : child < nodes
  pub child_hangs : 0 < slice_index place child
  pub from_there : from < nodes
  pub from_below : part place size child from ≡ true
  pub resized_each : length resized ≡ nodes
  pub as_before : (v : ℕ) → v < nodes → part place size child v ≡ true → slice_index resized v ≡ slice_index size v

-- the next node y of the way is planted around the part of the node before, which has `held` places from `low` on: what y
-- holds besides comes behind it
pub record RerootsNext (order : List ℕ) (y link low held base many : ℕ)
    (place size parent next place' size' parent' next' : List ℕ) : Type 0 where
  pub next_between : List ℕ
  pub place_between : List ℕ
  pub before : Plants order (slice_index place y) low (base + held) next place next_between place_between
  pub behind : Plants order (low + held) (slice_index place y + slice_index size y) (base + held + (low - slice_index place y))
      next_between place_between next' place'
  pub size_is : size' ≡ set size y (many - held)
  pub parent_is : parent' ≡ set parent y link

-- of two nodes of the way between q and `to` the later one goes up
abbrev pub ResizesLater : List NetEdge → List ℕ → List ℕ → ℕ → ℕ → ℕ → List ℕ → ℕ → ℕ → List ℕ → Type 0
ResizesLater edges place parent many low high size low' high' size' =
    ((slice_index place high < slice_index place low) × (low' ≡ above edges parent low) × (high' ≡ high)
    × (size' ≡ set size low (slice_index size low - many)))
    ⊎ ((slice_index place low ≤ slice_index place high) × (low' ≡ low) × (high' ≡ above edges parent high)
    × (size' ≡ set size high (slice_index size high + many)))
