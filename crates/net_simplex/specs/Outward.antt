-- The edges that lead out of a tree while it grows, in a queue from which the one that rises least is taken.
use Rattle.std.specs.Prelude.{◌≡◌, ℕ, ◌<◌, ◌≤◌, Bool, true, false, ◌⊎◌, ℤ, pos, ◌-ℤ◌, ◌<ℤ◌, List, [], ◌∷◌, length, Option, Some, None, cond}
use Rattle.std.specs.Prelude.{int_lt, nat_lt}
use Rattle.std.specs.declared.cmp.Ordering.{Ordering}
use Rattle.std.specs.Ordering.{ordering_then, nat_cmp, int_cmp}
use Rattle.std.specs.List.{Contains}
use Rattle.std.specs.BinaryHeap.{IsHeap, heap_items}
use Rattle.std.specs.List.Sorted.{IsPermutation}
use Rattle.network_laws.specs.declared.network.NetEdge.{NetEdge}
use Rattle.network_laws.specs.declared.links.End.{End}
use Rattle.network_laws.specs.declared.links.End.TheVariants.{Tail, Head}
use Rattle.network_laws.specs.Network.{edge_at}
use Rattle.network_laws.specs.Layering.{layer_of}
use Rattle.network_laws.specs.Links.{AreLinks, end_of, far_of}
use Rattle.net_simplex.specs.declared.waiting.BothLinks.{BothLinks}
use Rattle.net_simplex.specs.declared.waiting.Queues.{Queues}
use Rattle.net_simplex.specs.declared.waiting.Waiting.{Waiting}
use Rattle.net_simplex.specs.declared.choice.Choice.{Choice}
use Rattle.net_simplex.specs.Pivots.{is_in}

-- how far an edge rises beyond its least
abbrev pub rise_of : List ℤ → NetEdge → ℤ
rise_of layers e = layer_of layers e.head -ℤ layer_of layers e.tail -ℤ pos e.least

-- an edge that rises less is greater, then one of a lower number
abbrev pub waiting_order : Waiting → Waiting → Ordering
waiting_order x y = ordering_then (int_cmp y.rise.0 x.rise.0) (nat_cmp y.edge.0 x.edge.0)

-- the edge k rises less than i, or as much and its number is no greater
abbrev pub ComesFirst : ℤ → ℕ → ℤ → ℕ → Type 0
ComesFirst a k b i = (a <ℤ b) ⊎ ((a ≡ b) × (k ≤ i))

abbrev pub entry : ℤ → ℕ → Waiting
entry rise edge = record { rise = record { 0 = rise }; edge = record { 0 = edge } }

abbrev pub Adds : List Waiting → ℤ → ℕ → List Waiting → Type 0
Adds old rise edge new = IsPermutation (entry rise edge ∷ old) new

-- none of the queue comes before it, and it stands at the head
pub record IsFirst (queue : List Waiting) (t : Waiting) : Type 0 where
  pub rest : List Waiting
  pub heads : queue ≡ t ∷ rest
  pub first : (u : Waiting) → Contains queue u → ComesFirst t.rise.0 t.edge.0 u.rise.0 u.edge.0

-- the one at the head is gone
abbrev pub Loses : List Waiting → List Waiting → Type 0
Loses old new = (t : Waiting) (rest : List Waiting) → old ≡ t ∷ rest → IsPermutation old (t ∷ new)

-- the edge has this end in the set of reached nodes and the other outside
abbrev pub LeadsOut : End → List Bool → NetEdge → Type 0
LeadsOut end reached e = (is_in reached (end_of end e) ≡ true) × (is_in reached (far_of end e) ≡ false)

-- the edges that lead out wait, but for those of v from number i on; those whose far end is reached may wait too
pub record AreWaiting (edges : List NetEdge) (end : End) (reached : List Bool) (layers : List ℤ) (v i : ℕ)
    (queue : List Waiting) : Type 0 where
  pub there : (t : Waiting) → Contains queue t → t.edge.0 < length edges
  pub held : (t : Waiting) → Contains queue t → is_in reached (end_of end (edge_at edges t.edge.0)) ≡ true
  pub rises : (t : Waiting) → Contains queue t → is_in reached (far_of end (edge_at edges t.edge.0)) ≡ false
      → t.rise.0 ≡ rise_of layers (edge_at edges t.edge.0)
  pub waits : (k : ℕ) → k < length edges → LeadsOut end reached (edge_at edges k) → (end_of end (edge_at edges k) ≡ v → k < i)
      → (t : Waiting) × Contains queue t × (t.edge.0 ≡ k)

-- of the edges that lead out from this end the one that rises least, ties by the number
abbrev pub IsNearest : List NetEdge → End → List Bool → List ℤ → Option ℕ → Type 0
IsNearest edges end reached layers None = (i : ℕ) → i < length edges → LeadsOut end reached (edge_at edges i) → ⊥
IsNearest edges end reached layers (Some k) =
    (k < length edges)
    × LeadsOut end reached (edge_at edges k)
    × ((i : ℕ) → i < length edges → LeadsOut end reached (edge_at edges i)
    → ComesFirst (rise_of layers (edge_at edges k)) k (rise_of layers (edge_at edges i)) i)

-- a queue of the edges that lead out from this end
pub record IsQueue (edges : List NetEdge) (end : End) (reached : List Bool) (layers : List ℤ) (queue : List Waiting) : Type 0 where
  pub heap : IsHeap waiting_order queue
  pub waiting : AreWaiting edges end reached layers 0 (length edges) queue

-- the edges are linked by their tails and by their heads
abbrev pub AreBothLinks : ℕ → List NetEdge → BothLinks → Type 0
AreBothLinks nodes edges l =
    AreLinks nodes edges Tail l.tails.first.items l.tails.next.items × AreLinks nodes edges Head l.heads.first.items l.heads.next.items

-- one of the edges whose tail is reached, and one of those whose head is
abbrev pub AreQueues : List NetEdge → List Bool → List ℤ → Queues → Type 0
AreQueues edges reached layers q =
    IsQueue edges Tail reached layers (heap_items q.rising) × IsQueue edges Head reached layers (heap_items q.falling)

-- a queue that lacks the edges of v
pub record IsQueueBut (edges : List NetEdge) (end : End) (reached : List Bool) (layers : List ℤ) (v : ℕ)
    (queue : List Waiting) : Type 0 where
  pub heap : IsHeap waiting_order queue
  pub waiting : AreWaiting edges end reached layers v 0 queue

abbrev pub AreQueuesBut : List NetEdge → List Bool → List ℤ → ℕ → Queues → Type 0
AreQueuesBut edges reached layers v q =
    IsQueueBut edges Tail reached layers v (heap_items q.rising) × IsQueueBut edges Head reached layers v (heap_items q.falling)

-- the edge of less slack, ties by the number
abbrev pub nearer_of : Choice → Choice → ℕ
nearer_of a b = cond (int_lt a.slack b.slack) a.edge (cond (int_lt b.slack a.slack) b.edge (cond (nat_lt a.edge b.edge) a.edge b.edge))

abbrev pub IsEmptyHeap : List Waiting → Type 0
IsEmptyHeap queue = (queue ≡ []) × IsHeap waiting_order queue
