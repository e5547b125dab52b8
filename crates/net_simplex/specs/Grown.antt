-- The first tree while it grows, as the code keeps it: the nodes of the tree stand at layers counted from node 0, and a
-- number tells how much higher they stand.
use Rattle.std.specs.Prelude.{◌≡◌, ◌≢◌, slice_index, ℕ, ◌<◌, Bool, true, false, ℤ, pos, ◌+ℤ◌, ◌-ℤ◌, ◌≤ℤ◌, ◌<ℤ◌, ◌^◌, List, length}
use Rattle.std.specs.Prelude.{replicate, set}
use Rattle.network_laws.specs.declared.network.NetEdge.{NetEdge}
use Rattle.network_laws.specs.Network.{InOnePart}
use Rattle.network_laws.specs.Layering.{layer_of}
use Rattle.network_laws.specs.Paths.{marked_sum}
use Rattle.flow_dual.specs.Rounds.{all_least}
use Rattle.net_simplex.specs.declared.tree.Tree.{Tree}
use Rattle.net_simplex.specs.Pivots.{Growing, is_in, shifted}
use Rattle.net_simplex.specs.Answer.{IsGrowing}
use Rattle.net_simplex.specs.Rooted.{IsPlanted}

-- every node is joined to node 0
abbrev pub IsConnected : ℕ → List NetEdge → Type 0
IsConnected nodes edges = (v : ℕ) → v < nodes → InOnePart edges 0 v

-- the tree that the code's lists tell
abbrev pub growing_of : List Bool → List Bool → ℤ → List ℤ → Growing
growing_of tree reached by layers = record { tree = tree; reached = reached; layers = shifted (is_in reached) by layers }

-- what the code keeps; no node of the tree is farther from node 0 than the tree's edges are long, and none outside is
-- higher than all edges together
pub record IsGrown (nodes : ℕ) (edges : List NetEdge) (count : ℕ) (tree reached : List Bool) (by : ℤ) (layers : List ℤ)
    (order place parent : List ℕ) : Type 0 where
  pub layer_each : length layers ≡ nodes
  pub growing : IsGrowing nodes edges (growing_of tree reached by layers)
  pub planted : IsPlanted nodes edges tree (is_in reached) count order place parent
  pub root : layer_of layers 0 ≡ pos 0
  pub inside_from : (v : ℕ) → v < nodes → is_in reached v ≡ true → pos 0 ≤ℤ (layer_of layers v +ℤ pos (marked_sum edges tree))
  pub inside_to : (v : ℕ) → v < nodes → is_in reached v ≡ true → layer_of layers v ≤ℤ pos (marked_sum edges tree)
  pub outside_from : (v : ℕ) → v < nodes → is_in reached v ≡ false → pos 0 ≤ℤ layer_of layers v
  pub outside_to : (v : ℕ) → v < nodes → is_in reached v ≡ false → layer_of layers v ≤ℤ pos (all_least edges)

-- the same of a `Tree`
abbrev pub Grows : ℕ → List NetEdge → ℕ → Tree → List Bool → ℤ → List ℤ → Type 0
Grows nodes edges count t reached by layers =
    IsGrown nodes edges count t.marks.items reached by layers t.order.items t.place.items t.parent.items

-- a tree of no edges yet
pub record IsBare (nodes edges : ℕ) (t : Tree) : Type 0 where
  pub none_marked : t.marks.items ≡ replicate edges false
  pub order_each : length t.order.items ≡ nodes
  pub place_each : length t.place.items ≡ nodes
  pub parent_each : length t.parent.items ≡ nodes

-- a layer that sums of two still fit
pub record IsSmall (z : ℤ) : Type 0 where
  pub from : pos 0 <ℤ (z +ℤ pos (2 ^ 62))
  pub to : z <ℤ pos (2 ^ 62)

-- node v joins the tree by edge k, at this layer
pub record Joins (v k : ℕ) (at : ℤ) (filled : ℕ) (layers : List ℤ) (order place parent : List ℕ) (layers' : List ℤ)
    (order' place' parent' : List ℕ) (by : ℤ) : Type 0 where
  pub layers_are : layers' ≡ set layers v at
  pub order_is : order' ≡ set order filled v
  pub place_is : place' ≡ set place v filled
  pub parent_is : parent' ≡ set parent v k
  pub by_is : by ≡ layer_of layers v -ℤ at

-- the outer end of edge k joins the tree
pub record Attaches (e : NetEdge) (k filled : ℕ) (tree reached : List Bool) (layers : List ℤ) (order place parent : List ℕ)
    (tree' reached' : List Bool) (layers' : List ℤ) (order' place' parent' : List ℕ) (by : ℤ) : Type 0 where
  pub tree_is : tree' ≡ set tree k true
  pub reached_is : reached' ≡ set (set reached e.tail true) e.head true
  pub from_tail : is_in reached e.tail ≡ true
      → Joins e.head k (layer_of layers e.tail +ℤ pos e.least) filled layers order place parent layers' order' place' parent' by
  pub from_head : is_in reached e.tail ≡ false
      → Joins e.tail k (layer_of layers e.head -ℤ pos e.least) filled layers order place parent layers' order' place' parent' by

-- one node is reached more, the one that stands last in the order; the layers of the others stay
pub record ReachesOneMore (nodes filled : ℕ) (reached : List Bool) (layers : List ℤ) (order' : List ℕ) (reached' : List Bool)
    (layers' : List ℤ) : Type 0 where
  pub node : slice_index order' filled < nodes
  pub was_out : is_in reached (slice_index order' filled) ≡ false
  pub is_held : is_in reached' (slice_index order' filled) ≡ true
  pub others : (v : ℕ) → v < nodes → v ≢ slice_index order' filled
      → (is_in reached' v ≡ is_in reached v) × (layer_of layers' v ≡ layer_of layers v)
