-- A tree that hangs from node 0: the nodes in an order in which each comes after the one that it hangs on.
use Rattle.std.specs.Prelude.{◌≡◌, ◌≢◌, ℕ, zero, suc, ◌+◌, ◌<◌, ◌==◌, ◌⊎◌, cond, not, Bool, true, false, List, length, slice_index}
use Rattle.network_laws.specs.declared.network.NetEdge.{NetEdge}
use Rattle.network_laws.specs.Network.{edge_at}
use Rattle.network_laws.specs.Linked.{is_marked}
use Rattle.net_simplex.specs.declared.tree.Tree.{Tree}

-- the end of an edge that is not v
abbrev pub beyond : NetEdge → ℕ → ℕ
beyond e v = cond (e.tail == v) e.head e.tail

-- the node on which v hangs
abbrev pub above : List NetEdge → List ℕ → ℕ → ℕ
above edges parent v = beyond (edge_at edges (slice_index parent v)) v

-- how many of the nodes below n pass a test
abbrev pub holding : (ℕ → Bool) → ℕ → ℕ
holding test zero = 0
holding test (suc n) = cond (test n) 1 0 + holding test n

-- a tree edge ends at v, and its other end is held and comes earlier
pub record HangsBy (edges : List NetEdge) (tree : List Bool) (held : ℕ → Bool) (place : List ℕ) (v k : ℕ) : Type 0 where
  pub is_there : k < length edges
  pub has_mark : is_marked tree k ≡ true
  pub at_end : ((edge_at edges k).tail ≡ v) ⊎ ((edge_at edges k).head ≡ v)
  pub holds : held (beyond (edge_at edges k) v) ≡ true
  pub earlier : slice_index place (beyond (edge_at edges k) v) < slice_index place v

-- the held nodes hang from node 0, in an order of which the first `count` places are taken
pub record IsPlanted (nodes : ℕ) (edges : List NetEdge) (tree : List Bool) (held : ℕ → Bool) (count : ℕ)
    (order place parent : List ℕ) : Type 0 where
  pub order_each : length order ≡ nodes
  pub place_each : length place ≡ nodes
  pub parent_each : length parent ≡ nodes
  pub counted : count ≡ holding held nodes
  pub begun : 0 < count
  pub root_first : slice_index order 0 ≡ 0
  pub no_parent : slice_index parent 0 ≡ length edges
  pub in_order : (p : ℕ) → p < count
      → (slice_index order p < nodes) × (slice_index place (slice_index order p) ≡ p) × (held (slice_index order p) ≡ true)
  pub placed : (v : ℕ) → v < nodes → held v ≡ true → (slice_index place v < count) × (slice_index order (slice_index place v) ≡ v)
  pub hangs : (v : ℕ) → v < nodes → held v ≡ true → 0 < slice_index place v → HangsBy edges tree held place v (slice_index parent v)

abbrev pub all_held : ℕ → Bool
all_held v = true

-- all nodes hang from node 0
abbrev pub IsRooted : ℕ → List NetEdge → List Bool → List ℕ → List ℕ → List ℕ → Type 0
IsRooted nodes edges tree order place parent = IsPlanted nodes edges tree all_held nodes order place parent

-- the same of a `Tree`
abbrev pub Hangs : ℕ → List NetEdge → Tree → Type 0
Hangs nodes edges t = IsRooted nodes edges t.marks.items t.order.items t.place.items t.parent.items

-- the nodes that hang on `child`, with itself, as a test
pub record IsBelow (nodes : ℕ) (edges : List NetEdge) (place parent : List ℕ) (child : ℕ) (below : ℕ → Bool) : Type 0 where
  pub at_child : below child ≡ true
  pub at_root : below 0 ≡ false
  pub others : (v : ℕ) → v < nodes → 0 < slice_index place v → v ≢ child → below v ≡ below (above edges parent v)

-- the tail's part, where the root is in it and where it isn't
abbrev pub part_from : Bool → (ℕ → Bool) → ℕ → Bool
part_from root_in below v = cond root_in (not (below v)) (below v)
