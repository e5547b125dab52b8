-- How far a search has come. The searches take edges out of a copy, so what is done is what the copy has no more.
use Rattle.std.specs.Prelude.{◌≡◌, ◌≤◌, ◌<◌, ◌+◌, ◌⊎◌, ◌↔◌, ℕ, List, length, Option, Some, None, IsSome, slice_index_or}
use Rattle.graph_arena.specs.Graph.{Graph, Ends, ends_at, IsNode, occurs}
use Rattle.cycle_break.specs.declared.searching.Reached.{Reached}
use Rattle.cycle_break.specs.declared.searching.Via.{Via}
use Rattle.cycle_break.specs.Order.{place}

-- ---- taking out sources

-- an edge enters the node
pub record HasIn (g : Graph) (v : ℕ) : Type 0 where
  pub edge : ℕ
  pub ends : Ends
  pub is : ends_at g edge ≡ Some ends
  pub enters : ends.head ≡ v

-- The nodes of `late` were taken out of the copy, those of `early` with all their edges; the nodes of `ready` have no
-- edges in.
pub record Sorted (g work : Graph) (early late ready : List ℕ) : Type 0 where
  pub sub : (e : ℕ) (x : Ends) → ends_at work e ≡ Some x → ends_at g e ≡ Some x
  pub kept : (e : ℕ) (x : Ends) → ends_at g e ≡ Some x → occurs x.tail late ≡ 0 → ends_at work e ≡ Some x
  pub gone : (e : ℕ) (x : Ends) → ends_at work e ≡ Some x → occurs x.tail early ≡ 0
  pub same_nodes : (v : ℕ) → IsNode work v ↔ IsNode g v
  pub once : (v : ℕ) → occurs v late + occurs v ready ≤ 1
  pub listed : (v : ℕ) → 0 < occurs v late + occurs v ready → IsNode g v
  pub met : (v : ℕ) → IsNode g v → (0 < occurs v late + occurs v ready) ⊎ HasIn work v
  pub clean : (e : ℕ) (x : Ends) → ends_at work e ≡ Some x → occurs x.head late + occurs x.head ready ≡ 0
  pub forward : (e : ℕ) (x : Ends) → ends_at g e ≡ Some x → 0 < occurs x.head late
      → (0 < occurs x.tail late) × (place late x.tail < place late x.head)

-- ---- searching backwards

abbrev pub reached_at : List Reached → ℕ → Reached
reached_at rs k = slice_index_or rs k (record { node = record { at = 0 }; via = None })

-- the way on from an entry: none at the goal, else an edge to an earlier entry
abbrev pub WayOn : Graph → ℕ → List Reached → ℕ → ℕ → Option Via → Type 0
WayOn g to rs k v None = v ≡ to
WayOn g to rs k v (Some via) =
    (via.next < k) × (ends_at g via.edge.at ≡ Some (record { tail = v; head = (reached_at rs via.next).node.at }))

abbrev pub IsLinked : ℕ → Option Via → Type 0
IsLinked k None = Unit {0}
IsLinked k (Some via) = via.next < k

abbrev pub place_of : List (Option ℕ) → ℕ → Option ℕ
place_of index v = slice_index_or index v None

-- each entry stands in the index, so no two have one node
abbrev pub IsIndexed : List Reached → List (Option ℕ) → Type 0
IsIndexed rs index = (k : ℕ) → k < length rs → place_of index (reached_at rs k).node.at ≡ Some k

-- the node is that of an entry from this one on
pub record IsFrom (rs : List Reached) (at v : ℕ) : Type 0 where
  pub entry : ℕ
  pub from : at ≤ entry
  pub within : entry < length rs
  pub is : (reached_at rs entry).node.at ≡ v

-- the nodes that were reached, and that all edges that were taken out were looked at
pub record Searched (g work : Graph) (to : ℕ) (next : ℕ) (rs : List Reached) (index : List (Option ℕ)) : Type 0 where
  pub sub : (e : ℕ) (x : Ends) → ends_at work e ≡ Some x → ends_at g e ≡ Some x
  pub seen : (e : ℕ) (x : Ends) → ends_at g e ≡ Some x → (ends_at work e ≡ Some x) ⊎ IsSome (place_of index x.tail)
  pub gone : (e : ℕ) (x : Ends) (k : ℕ) → ends_at work e ≡ Some x → place_of index x.head ≡ Some k → next ≤ k
  pub ways : (k : ℕ) → k < length rs → WayOn g to rs k (reached_at rs k).node.at (reached_at rs k).via
  pub indexed : (v k : ℕ) → place_of index v ≡ Some k → (k < length rs) × ((reached_at rs k).node.at ≡ v)
  pub root : IsSome (place_of index to)
  pub back : IsIndexed rs index

-- what the search needs to go on
pub record IsReady (work : Graph) (rs : List Reached) (index : List (Option ℕ)) : Type 0 where
  pub live : (k : ℕ) → k < length rs → IsNode work (reached_at rs k).node.at
  pub fits : (v : ℕ) → IsNode work v → v < length index
  pub links : (k : ℕ) → k < length rs → IsLinked k (reached_at rs k).via
