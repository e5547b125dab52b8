-- The two slabs of an arena, read side by side: the lists of edges out and the lists of edges in.
use Rattle.std.specs.Prelude.{◌≡◌, ◌≢◌, ◌≤◌, ℕ, ◌+◌, ◌-◌, ◌^◌, min, map, List, Option, Some, None, IsSome, is_some}
use Rattle.slab.specs.Slab.{Slab, get, ContainsKey, slab_len}
use Rattle.graph_arena.specs.declared.slots.Flank.{Flank}
use Rattle.graph_arena.specs.declared.slots.Flank.TheVariants.{Outward, Inward}
use Rattle.graph_arena.specs.declared.slots.EdgeList.{EdgeList}
use Rattle.graph_arena.specs.declared.slots.Place.{Place}
use Rattle.graph_arena.specs.declared.slots.NodeSlot.{NodeSlot}
use Rattle.graph_arena.specs.declared.slots.EdgeSlot.{EdgeSlot}
use Rattle.graph_arena.specs.Graph.{Graph, Lists, Ends}
use Rattle.graph_arena.specs.Changes.{without, renamed}
use Rattle.graph_arena.specs.Chain.{row_keys, IsFlank}

abbrev pub row_in : Flank → Option NodeSlot → Option EdgeList
row_in s None = None
row_in Outward (Some n) = Some n.outward
row_in Inward (Some n) = Some n.inward

abbrev pub place_in : Flank → Option EdgeSlot → Option Place
place_in s None = None
place_in Outward (Some e) = Some e.outward
place_in Inward (Some e) = Some e.inward

abbrev pub next_in : Option Place → Option ℕ
next_in None = None
next_in (Some p) = p.next

abbrev pub prev_in : Option Place → Option ℕ
prev_in None = None
prev_in (Some p) = p.prev

abbrev pub node_in : Option Place → Option ℕ
node_in None = None
node_in (Some p) = p.node

abbrev pub row : Flank → Slab NodeSlot → ℕ → Option EdgeList
row s nodes v = row_in s (get nodes v)

abbrev pub next : Flank → Slab EdgeSlot → ℕ → Option ℕ
next s edges e = next_in (place_in s (get edges e))

abbrev pub prev : Flank → Slab EdgeSlot → ℕ → Option ℕ
prev s edges e = prev_in (place_in s (get edges e))

-- the node in whose list the edge stands
abbrev pub owner : Flank → Slab EdgeSlot → ℕ → Option ℕ
owner s edges e = node_in (place_in s (get edges e))

-- a node's list
abbrev pub keys : Flank → Slab NodeSlot → Slab EdgeSlot → ℕ → List ℕ
keys s nodes edges v = row_keys (next s edges) (row s nodes v)

-- the links of a side agree with its owners
abbrev pub IsFlankOf : Flank → Slab NodeSlot → Slab EdgeSlot → Type 0
IsFlankOf s nodes edges = IsFlank (row s nodes) (next s edges) (prev s edges) (owner s edges)

-- ---- the whole arena

-- both sides agree with their owners, each edge has its two ends, and the edges can be counted twice
pub record IsSound (nodes : Slab NodeSlot) (edges : Slab EdgeSlot) : Type 0 where
  pub flanks : (s : Flank) → IsFlankOf s nodes edges
  pub ends : (s : Flank) (e : ℕ) → ContainsKey edges e → IsSome (owner s edges e)
  pub small : slab_len edges ≤ 2 ^ 62

abbrev pub lists_in : Slab EdgeSlot → Option NodeSlot → Option Lists
lists_in edges None = None
lists_in edges (Some n) =
    Some (record { outward = row_keys (next Outward edges) (Some n.outward); inward = row_keys (next Inward edges) (Some n.inward) })

abbrev pub key_or_zero : Option ℕ → ℕ
key_or_zero None = 0
key_or_zero (Some k) = k

abbrev pub ends_in : Option EdgeSlot → Option Ends
ends_in None = None
ends_in (Some e) = Some (record { tail = key_or_zero e.outward.node; head = key_or_zero e.inward.node })

abbrev pub graph_of : Slab NodeSlot → Slab EdgeSlot → Graph
graph_of nodes edges =
    record {
      nodes = map (lists_in edges) nodes.slots;
      edges = map ends_in edges.slots;
      node_room = nodes.capacity - slab_len nodes;
      edge_room = min edges.capacity (2 ^ 62) - slab_len edges;
    }

-- what a new node and a new edge hold
abbrev pub no_row : EdgeList
no_row = record { first = None; last = None; count = 0 }

abbrev pub no_place : Place
no_place = record { node = None; next = None; prev = None }

abbrev pub empty_node : NodeSlot
empty_node = record { outward = no_row; inward = no_row }

abbrev pub loose_edge : EdgeSlot
loose_edge = record { outward = no_place; inward = no_place }

-- ---- what the steps of a change leave

-- the other side, which slots are used, and the room
pub record Kept {T X : Type 0} (read : Flank → Option T → Option X) (s : Flank) (old new : Slab T) : Type 0 where
  pub other_flank : (t : Flank) → t ≢ s → (k : ℕ) → read t (get new k) ≡ read t (get old k)
  pub live : (k : ℕ) → is_some (get new k) ≡ is_some (get old k)
  pub len : slab_len new ≡ slab_len old
  pub capacity : new.capacity ≡ old.capacity

-- one value of one side was written
pub record Sets {T X : Type 0} (read : Flank → Option T → Option X) (s : Flank) (k : ℕ) (x : X) (old new : Slab T) : Type 0 where
  pub is : read s (get new k) ≡ Some x
  pub others : (j : ℕ) → j ≢ k → read s (get new j) ≡ read s (get old j)
  pub kept : Kept read s old new

-- the link of the key, if there is one, was written
pub record NextSet (s : Flank) (key to : Option ℕ) (old new : Slab EdgeSlot) : Type 0 where
  pub is : (k : ℕ) → key ≡ Some k → next s new k ≡ to
  pub others : (k : ℕ) → key ≢ Some k → next s new k ≡ next s old k
  pub prevs : (k : ℕ) → prev s new k ≡ prev s old k
  pub owners : (k : ℕ) → owner s new k ≡ owner s old k
  pub kept : Kept place_in s old new

pub record PrevSet (s : Flank) (key to : Option ℕ) (old new : Slab EdgeSlot) : Type 0 where
  pub is : (k : ℕ) → key ≡ Some k → prev s new k ≡ to
  pub others : (k : ℕ) → key ≢ Some k → prev s new k ≡ prev s old k
  pub nexts : (k : ℕ) → next s new k ≡ next s old k
  pub owners : (k : ℕ) → owner s new k ≡ owner s old k
  pub kept : Kept place_in s old new

abbrev pub IsLiveIfSome : Slab EdgeSlot → Option ℕ → Type 0
IsLiveIfSome edges None = Unit {0}
IsLiveIfSome edges (Some k) = ContainsKey edges k

abbrev pub pushed : Option ℕ → ℕ → Option ℕ
pushed None e = Some e
pushed (Some k) e = Some k

abbrev pub pushed_row : EdgeList → ℕ → EdgeList
pushed_row r e = record { first = pushed r.first e; last = Some e; count = r.count + 1 }

-- ---- one side after an edge moved; the other side is as it was

-- the edge's owner is o now, the list of v was changed by f, and no other list
pub record Moved (s : Flank) (v e : ℕ) (f : List ℕ → List ℕ) (o : Option ℕ) (nodes : Slab NodeSlot) (edges : Slab EdgeSlot)
    (nodes' : Slab NodeSlot) (edges' : Slab EdgeSlot) : Type 0 where
  pub sound : IsFlankOf s nodes' edges'
  pub list : keys s nodes' edges' v ≡ f (keys s nodes edges v)
  pub other_lists : (u : ℕ) → u ≢ v → keys s nodes' edges' u ≡ keys s nodes edges u
  pub owned : owner s edges' e ≡ o
  pub others : (k : ℕ) → k ≢ e → owner s edges' k ≡ owner s edges k
  pub nodes_kept : Kept row_in s nodes nodes'
  pub edges_kept : Kept place_in s edges edges'

-- a loose edge stands in the place of e, which is loose now
pub record HandedOver (s : Flank) (v e by : ℕ) (nodes : Slab NodeSlot) (edges : Slab EdgeSlot) (nodes' : Slab NodeSlot)
    (edges' : Slab EdgeSlot) : Type 0 where
  pub sound : IsFlankOf s nodes' edges'
  pub list : keys s nodes' edges' v ≡ map (renamed e by) (keys s nodes edges v)
  pub other_lists : (u : ℕ) → u ≢ v → keys s nodes' edges' u ≡ keys s nodes edges u
  pub loose : place_in s (get edges' e) ≡ Some no_place
  pub owned : owner s edges' by ≡ Some v
  pub others : (k : ℕ) → k ≢ e → k ≢ by → owner s edges' k ≡ owner s edges k
  pub nodes_kept : Kept row_in s nodes nodes'
  pub edges_kept : Kept place_in s edges edges'

-- so many more edges fit
abbrev pub HasEdgeRoom : Slab EdgeSlot → ℕ → Type 0
HasEdgeRoom edges more = slab_len edges + more ≤ min edges.capacity (2 ^ 62)

-- ---- the whole arena while an edge is moved

-- which slots are used, and the room
pub record Unmoved {T : Type 0} (old new : Slab T) : Type 0 where
  pub live : (k : ℕ) → is_some (get new k) ≡ is_some (get old k)
  pub len : slab_len new ≡ slab_len old
  pub capacity : new.capacity ≡ old.capacity

-- the edge moved on both sides
pub record MovedBoth (e tail head : ℕ) (f : List ℕ → List ℕ) (t h : Option ℕ) (nodes : Slab NodeSlot) (edges : Slab EdgeSlot)
    (nodes' : Slab NodeSlot) (edges' : Slab EdgeSlot) : Type 0 where
  pub flanks : (s : Flank) → IsFlankOf s nodes' edges'
  pub at_tail : keys Outward nodes' edges' tail ≡ f (keys Outward nodes edges tail)
  pub at_head : keys Inward nodes' edges' head ≡ f (keys Inward nodes edges head)
  pub other_outs : (v : ℕ) → v ≢ tail → keys Outward nodes' edges' v ≡ keys Outward nodes edges v
  pub other_ins : (v : ℕ) → v ≢ head → keys Inward nodes' edges' v ≡ keys Inward nodes edges v
  pub tail_is : owner Outward edges' e ≡ t
  pub head_is : owner Inward edges' e ≡ h
  pub others : (s : Flank) (k : ℕ) → k ≢ e → owner s edges' k ≡ owner s edges k
  pub nodes_kept : Unmoved nodes nodes'
  pub edges_kept : Unmoved edges edges'

-- the edge stands in no list
pub record Loosened (nodes : Slab NodeSlot) (edges : Slab EdgeSlot) (nodes' : Slab NodeSlot) (edges' : Slab EdgeSlot)
    (e tail head : ℕ) : Type 0 where
  pub moved : MovedBoth e tail head (without e) None None nodes edges nodes' edges'
  pub loose : (s : Flank) → place_in s (get edges' e) ≡ Some no_place
