-- What the code keeps of a state of the chain.
use Rattle.std.specs.Prelude.{◌≡◌, ℕ, ◌<◌, Bool, ℤ, pos, ◌+ℤ◌, List, length, Some}
use Rattle.network_laws.specs.declared.network.NetEdge.{NetEdge}
use Rattle.network_laws.specs.Layering.{layer_of}
use Rattle.net_simplex.specs.declared.tree.Tree.{Tree}
use Rattle.net_simplex.specs.Tree.{State, IsState}
use Rattle.net_simplex.specs.Pivots.{pivot}
use Rattle.net_simplex.specs.Rooted.{IsRooted}

abbrev pub kept_state : List Bool → List ℤ → State
kept_state tree layers = record { tree = tree; layers = layers }

-- a state whose layers are counted from node 0, and the tree as it hangs
pub record IsKept (nodes : ℕ) (edges : List NetEdge) (tree : List Bool) (layers : List ℤ) (order place parent : List ℕ) : Type 0 where
  pub is : IsState nodes edges (kept_state tree layers)
  pub root : layer_of layers 0 ≡ pos 0
  pub rooted : IsRooted nodes edges tree order place parent

-- the same of a `Tree`
abbrev pub Keeps : ℕ → List NetEdge → Tree → List ℤ → Type 0
Keeps nodes edges t layers = IsKept nodes edges t.marks.items layers t.order.items t.place.items t.parent.items

-- the state has this tree, and these layers but for a number by which all are moved
pub record StandsFor (nodes : ℕ) (s : State) (tree : List Bool) (layers : List ℤ) : Type 0 where
  pub tree_is : s.tree ≡ tree
  pub layer_each : length s.layers ≡ nodes
  pub by : ℤ
  pub layers_are : (v : ℕ) → v < nodes → layer_of s.layers v ≡ layer_of layers v +ℤ by

-- a pivot leads to what the new tree and layers stand for
abbrev pub PivotsTo : ℕ → List NetEdge → List Bool → List ℤ → List Bool → List ℤ → Type 0
PivotsTo nodes edges tree layers tree' layers' =
    (t : State) × (pivot nodes edges (kept_state tree layers) ≡ Some t) × StandsFor nodes t tree' layers'
