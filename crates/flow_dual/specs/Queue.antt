-- A queue of steps, of which the nearest is taken.
use Rattle.std.specs.Prelude.{◌≡◌, ℕ, ◌<◌, ◌≤◌, Bool, true, false, ◌⊎◌, ℤ, pos, ◌+ℤ◌, List, ◌∷◌, ◌++◌, length, slice_index}
use Rattle.std.specs.declared.cmp.Ordering.{Ordering}
use Rattle.std.specs.Ordering.{ordering_then, nat_cmp}
use Rattle.std.specs.List.{All, Contains}
use Rattle.std.specs.BinaryHeap.{IsHeap, heap_items}
use Rattle.std.specs.List.Sorted.{IsPermutation}
use Rattle.network_laws.specs.declared.network.NetEdge.{NetEdge}
use Rattle.network_laws.specs.declared.links.End.{End}
use Rattle.network_laws.specs.declared.links.End.TheVariants.{Tail, Head}
use Rattle.network_laws.specs.declared.links.Links.{Links}
use Rattle.network_laws.specs.Network.{edge_at}
use Rattle.network_laws.specs.Layering.{layer_of}
use Rattle.network_laws.specs.Links.{end_of}
use Rattle.flow_dual.specs.declared.queue.Step.{Step}
use Rattle.flow_dual.specs.declared.queue.Steps.{Steps}

-- of the edges by either end those by this one
abbrev pub links_at : End → Links → Links → Links
links_at Tail tails heads = tails
links_at Head tails heads = heads

-- how far the reached nodes have to be raised for a step
abbrev pub nearness : Step → ℕ
nearness s = s.near.0

-- nearer steps are greater, then those over edges of greater numbers
abbrev pub step_order : Step → Step → Ordering
step_order x y = ordering_then (nat_cmp (nearness y) (nearness x)) (nat_cmp x.edge y.edge)

-- the steps that wait
abbrev pub waiting : Steps → List Step
waiting q = q.at_once.items ++ heap_items q.further

-- the steps of the list are as near as the one taken last, and none of the others is nearer
pub record AreInOrder (q : Steps) : Type 0 where
  pub at_once : All (λ s. nearness s ≡ q.now) q.at_once.items
  pub further : All (λ s. q.now ≤ nearness s) (heap_items q.further)
  pub heap : IsHeap step_order (heap_items q.further)

-- a step is taken out, and none of the others is nearer
pub record TakesNearest (old : List Step) (s : Step) (new : List Step) : Type 0 where
  pub moves : IsPermutation old (s ∷ new)
  pub nearest : All (λ t. nearness s ≤ nearness t) new

abbrev pub Adds : List Step → ℕ → ℕ → List Step → Type 0
Adds old near edge new = IsPermutation ((record { near = record { 0 = near }; edge = edge }) ∷ old) new

-- the edge has one end in the set, and the other outside
abbrev pub Crosses : (ℕ → Bool) → NetEdge → Type 0
Crosses set e = ((set e.tail ≡ true) × (set e.head ≡ false)) ⊎ ((set e.head ≡ true) × (set e.tail ≡ false))

-- the nearest step over an edge that crosses is taken out, and steps over edges that don't may be gone
pub record TakesStep (edges : List NetEdge) (set : ℕ → Bool) (old : List Step) (s : Step) (new : List Step) : Type 0 where
  pub was : Contains old s
  pub crosses : Crosses set (edge_at edges s.edge)
  pub nearest : All (λ t. nearness s ≤ nearness t) new
  pub fewer : (t : Step) → Contains new t → Contains old t
  pub kept : (t : Step) → Contains old t → Crosses set (edge_at edges t.edge) → (t ≡ s) ⊎ Contains new t

-- only steps over edges that don't cross are gone
pub record Drops (edges : List NetEdge) (set : ℕ → Bool) (old new : List Step) : Type 0 where
  pub fewer : (t : Step) → Contains new t → Contains old t
  pub kept : (t : Step) → Contains old t → Crosses set (edge_at edges t.edge) → Contains new t

-- over the edge a node outside the set may be reached from this end
abbrev pub IsOpen : (ℕ → Bool) → End → NetEdge → ℕ → Type 0
IsOpen set Tail e amount = set e.head ≡ false
IsOpen set Head e amount = (set e.tail ≡ false) × (0 < amount)

-- how far all is raised when the edge can be stepped over from this end, whose node was reached at `near`:
-- forward when the edge is tight, backward at once if it is used
abbrev pub IsStepFrom : List ℤ → NetEdge → ℕ → ℕ → End → ℕ → Type 0
IsStepFrom layers e amount near Tail d = layer_of layers e.tail +ℤ pos e.least +ℤ pos d ≡ layer_of layers e.head +ℤ pos near
IsStepFrom layers e amount near Head d = (0 < amount) × (d ≡ near)

-- the open edges below i with this end at v give new steps
pub record Offers (edges : List NetEdge) (layers : List ℤ) (flow : List ℕ) (set : ℕ → Bool) (end : End) (v near i : ℕ)
    (old new : List Step) : Type 0 where
  pub kept : (t : Step) → Contains old t → Contains new t
  pub offered : (k : ℕ) → k < i → end_of end (edge_at edges k) ≡ v → IsOpen set end (edge_at edges k) (slice_index flow k)
      → (t : Step) × Contains new t × (t.edge ≡ k)
  pub only : (t : Step) → Contains new t
      → Contains old t
      ⊎ ((t.edge < length edges) × (end_of end (edge_at edges t.edge) ≡ v)
      × IsStepFrom layers (edge_at edges t.edge) (slice_index flow t.edge) near end (nearness t))

-- the steps from v over its edges at one end are added, and then those at the other
abbrev pub OffersBoth : List NetEdge → List ℤ → List ℕ → (ℕ → Bool) → ℕ → ℕ → List Step → List Step → Type 0
OffersBoth edges layers flow set v near old new =
    (mid : List Step) × Offers edges layers flow set Tail v near (length edges) old mid
    × Offers edges layers flow set Head v near (length edges) mid new

-- the end is the head, so the step goes back over the edge
abbrev pub IsBack : End → Type 0
IsBack Tail = ⊥
IsBack Head = Unit {0}

-- no step is left over an edge that crosses
abbrev pub HasNoStep : List NetEdge → (ℕ → Bool) → List Step → Type 0
HasNoStep edges set steps = (t : Step) → Contains steps t → Crosses set (edge_at edges t.edge) → ⊥
