-- What each call changes, and that all else stays, in order.
use Rattle.std.specs.Prelude.{◌⊎◌, ◌≡◌, ◌≢◌, ◌↔◌, ◌≤◌, ℕ, ◌+◌, ◌==◌, ◌||◌, cond, not, Bool, true, false, List, [], ◌∷◌, ◌++◌, map, filter}
use Rattle.std.specs.Prelude.{Option, Some, None}
use Rattle.graph_arena.specs.Graph.{Graph, Ends, lists_at, ends_at, IsNode, out_list, in_list}

-- nothing changed
pub record IsSame (old new : Graph) : Type 0 where
  pub same_nodes : (v : ℕ) → lists_at new v ≡ lists_at old v
  pub same_edges : (e : ℕ) → ends_at new e ≡ ends_at old e

-- the rooms fell by at most so many
pub record LeavesRoom (old new : Graph) (nodes edges : ℕ) : Type 0 where
  pub for_nodes : old.node_room ≤ new.node_room + nodes
  pub for_edges : old.edge_room ≤ new.edge_room + edges

-- a node came, with no edges
pub record AddsNode (old new : Graph) (v : ℕ) : Type 0 where
  pub was_free : lists_at old v ≡ None
  pub alone : lists_at new v ≡ Some (record { outward = []; inward = [] })
  pub other_nodes : (u : ℕ) → u ≢ v → lists_at new u ≡ lists_at old u
  pub same_edges : (e : ℕ) → ends_at new e ≡ ends_at old e

-- an edge came, last in both lists
pub record AddsEdge (old new : Graph) (e tail head : ℕ) : Type 0 where
  pub was_free : ends_at old e ≡ None
  pub ends : ends_at new e ≡ Some (record { tail = tail; head = head })
  pub other_edges : (k : ℕ) → k ≢ e → ends_at new k ≡ ends_at old k
  pub at_tail : out_list new tail ≡ out_list old tail ++ e ∷ []
  pub at_head : in_list new head ≡ in_list old head ++ e ∷ []
  pub other_outs : (v : ℕ) → v ≢ tail → out_list new v ≡ out_list old v
  pub other_ins : (v : ℕ) → v ≢ head → in_list new v ≡ in_list old v
  pub same_nodes : (v : ℕ) → IsNode new v ↔ IsNode old v

-- the list with the key's first entry left out
abbrev pub without : ℕ → List ℕ → List ℕ
without k [] = []
without k (x ∷ xs) = cond (x == k) xs (x ∷ without k xs)

-- an edge from tail to head went out of both its lists
pub record RemovesEdge (old new : Graph) (e tail head : ℕ) : Type 0 where
  pub gone : ends_at new e ≡ None
  pub other_edges : (k : ℕ) → k ≢ e → ends_at new k ≡ ends_at old k
  pub at_tail : out_list new tail ≡ without e (out_list old tail)
  pub at_head : in_list new head ≡ without e (in_list old head)
  pub other_outs : (v : ℕ) → v ≢ tail → out_list new v ≡ out_list old v
  pub other_ins : (v : ℕ) → v ≢ head → in_list new v ≡ in_list old v
  pub same_nodes : (v : ℕ) → IsNode new v ↔ IsNode old v

-- an edge from tail to head was reversed: it left both its lists, and is last in the two others
pub record Reverses (old new : Graph) (e tail head : ℕ) : Type 0 where
  pub is_reversed : ends_at new e ≡ Some (record { tail = head; head = tail })
  pub other_edges : (k : ℕ) → k ≢ e → ends_at new k ≡ ends_at old k
  pub left_tail : tail ≢ head → out_list new tail ≡ without e (out_list old tail)
  pub left_head : tail ≢ head → in_list new head ≡ without e (in_list old head)
  pub at_head : out_list new head ≡ without e (out_list old head) ++ e ∷ []
  pub at_tail : in_list new tail ≡ without e (in_list old tail) ++ e ∷ []
  pub other_outs : (v : ℕ) → v ≢ tail → v ≢ head → out_list new v ≡ out_list old v
  pub other_ins : (v : ℕ) → v ≢ tail → v ≢ head → in_list new v ≡ in_list old v
  pub same_nodes : (v : ℕ) → IsNode new v ↔ IsNode old v

-- one key in the stead of another
abbrev pub renamed : ℕ → ℕ → ℕ → ℕ
renamed e by k = cond (k == e) by k

-- An edge e from tail to head ends at a new node, and a new edge leads from there to the head, in e's old place
-- in the head's list.
pub record Splits (old new : Graph) (e node edge tail head : ℕ) : Type 0 where
  pub node_was_free : lists_at old node ≡ None
  pub edge_was_free : ends_at old edge ≡ None
  pub near : ends_at new e ≡ Some (record { tail = tail; head = node })
  pub far : ends_at new edge ≡ Some (record { tail = node; head = head })
  pub other_edges : (k : ℕ) → k ≢ e → k ≢ edge → ends_at new k ≡ ends_at old k
  pub at_node : lists_at new node ≡ Some (record { outward = edge ∷ []; inward = e ∷ [] })
  pub at_head : in_list new head ≡ map (renamed e edge) (in_list old head)
  pub other_outs : (v : ℕ) → v ≢ node → out_list new v ≡ out_list old v
  pub other_ins : (v : ℕ) → v ≢ node → v ≢ head → in_list new v ≡ in_list old v
  pub same_nodes : (v : ℕ) → v ≢ node → (IsNode new v ↔ IsNode old v)

-- the edge begins or ends at the node
abbrev pub touches : Option Ends → ℕ → Bool
touches None v = false
touches (Some x) v = (x.tail == v) || (x.head == v)

-- only edges at the node went, and the others keep their order
pub record Peels (old new : Graph) (v : ℕ) : Type 0 where
  pub edges : (e : ℕ) → (ends_at new e ≡ ends_at old e) ⊎ ((ends_at new e ≡ None) × (touches (ends_at old e) v ≡ true))
  pub outs : (u : ℕ)
      → filter (λ e. not (touches (ends_at old e) v)) (out_list new u) ≡ filter (λ e. not (touches (ends_at old e) v)) (out_list old u)
  pub ins : (u : ℕ)
      → filter (λ e. not (touches (ends_at old e) v)) (in_list new u) ≡ filter (λ e. not (touches (ends_at old e) v)) (in_list old u)
  pub same_nodes : (u : ℕ) → IsNode new u ↔ IsNode old u

-- a node went, with all its edges
pub record RemovesNode (old new : Graph) (v : ℕ) : Type 0 where
  pub gone : lists_at new v ≡ None
  pub taken_edges : (e : ℕ) → touches (ends_at old e) v ≡ true → ends_at new e ≡ None
  pub other_edges : (e : ℕ) → touches (ends_at old e) v ≡ false → ends_at new e ≡ ends_at old e
  pub outs : (u : ℕ) → u ≢ v → out_list new u ≡ filter (λ e. not (touches (ends_at old e) v)) (out_list old u)
  pub ins : (u : ℕ) → u ≢ v → in_list new u ≡ filter (λ e. not (touches (ends_at old e) v)) (in_list old u)
  pub same_nodes : (u : ℕ) → u ≢ v → (IsNode new u ↔ IsNode old u)
