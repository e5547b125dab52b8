-- The graph that the two slabs show.
use Rattle.std.proofs.Common.{◌≡◌, ℕ, zero, suc, List, [], ◌∷◌, map, get_or, Option, Some, None, IsSome, is_some, refl, sym, ap, ◌∙◌}
use Rattle.slab.specs.Slab.{Slab, get}
use Rattle.graph_arena.specs.declared.slots.Flank.TheVariants.{Outward, Inward}
use Rattle.graph_arena.specs.declared.slots.NodeSlot.{NodeSlot}
use Rattle.graph_arena.specs.declared.slots.EdgeSlot.{EdgeSlot}
use Rattle.graph_arena.specs.Graph.{Graph, Lists, Ends, lists_at, ends_at, out_list, in_list, outward_of, inward_of, IsNode, IsIncidence, tail_in, head_in}
use Rattle.graph_arena.specs.Flanks.{graph_of, lists_in, ends_in, key_or_zero, next, owner, keys, row_in, place_in, node_in, IsSound}
use Rattle.graph_arena.specs.Chain.{row_keys}
use Rattle.graph_arena.proofs.Moves.{owner_is_node}

get_map : {X Y : Type 0} (f : Option X → Option Y) (none : f None ≡ None) (xs : List (Option X)) (i : ℕ) → get_or (map f xs) i None ≡ f (get_or xs i None)
get_map f none [] i = sym none
get_map f none (x ∷ xs) zero = refl
get_map f none (x ∷ xs) (suc i) = get_map f none xs i

pub lists_are : (nodes : Slab NodeSlot) (edges : Slab EdgeSlot) (v : ℕ) → lists_at (graph_of nodes edges) v ≡ lists_in edges (get nodes v)
lists_are nodes edges v = get_map (lists_in edges) refl nodes.slots v

pub ends_are : (nodes : Slab NodeSlot) (edges : Slab EdgeSlot) (e : ℕ) → ends_at (graph_of nodes edges) e ≡ ends_in (get edges e)
ends_are nodes edges e = get_map ends_in refl edges.slots e

outward_row : (edges : Slab EdgeSlot) (o : Option NodeSlot) → outward_of (lists_in edges o) ≡ row_keys (next Outward edges) (row_in Outward o)
outward_row edges None = refl
outward_row edges (Some n) = refl

inward_row : (edges : Slab EdgeSlot) (o : Option NodeSlot) → inward_of (lists_in edges o) ≡ row_keys (next Inward edges) (row_in Inward o)
inward_row edges None = refl
inward_row edges (Some n) = refl

pub outs_are : (nodes : Slab NodeSlot) (edges : Slab EdgeSlot) (v : ℕ) → out_list (graph_of nodes edges) v ≡ keys Outward nodes edges v
outs_are nodes edges v = ap outward_of (lists_are nodes edges v) ∙ outward_row edges (get nodes v)

pub ins_are : (nodes : Slab NodeSlot) (edges : Slab EdgeSlot) (v : ℕ) → in_list (graph_of nodes edges) v ≡ keys Inward nodes edges v
ins_are nodes edges v = ap inward_of (lists_are nodes edges v) ∙ inward_row edges (get nodes v)

live_lists : (edges : Slab EdgeSlot) (o : Option NodeSlot) → is_some (lists_in edges o) ≡ is_some o
live_lists edges None = refl
live_lists edges (Some n) = refl

live_ends : (o : Option EdgeSlot) → is_some (ends_in o) ≡ is_some o
live_ends None = refl
live_ends (Some n) = refl

pub node_is : (nodes : Slab NodeSlot) (edges : Slab EdgeSlot) (v : ℕ) → is_some (lists_at (graph_of nodes edges) v) ≡ is_some (get nodes v)
node_is nodes edges v = ap is_some (lists_are nodes edges v) ∙ live_lists edges (get nodes v)

pub edge_is : (nodes : Slab NodeSlot) (edges : Slab EdgeSlot) (e : ℕ) → is_some (ends_at (graph_of nodes edges) e) ≡ is_some (get edges e)
edge_is nodes edges e = ap is_some (ends_are nodes edges e) ∙ live_ends (get edges e)

both_lists : (o : Option Lists) → IsSome o → o ≡ Some (record { outward = outward_of o; inward = inward_of o })
both_lists None h = cc
both_lists (Some l) h = refl

-- a node has its two lists
pub lists_from : (g : Graph) (v : ℕ) → IsNode g v → lists_at g v ≡ Some (record { outward = out_list g v; inward = in_list g v })
lists_from g v h = both_lists (lists_at g v) h

-- ---- ends

pub ends_from : (o : Option EdgeSlot) (t h : ℕ) → node_in (place_in Outward o) ≡ Some t → node_in (place_in Inward o) ≡ Some h → ends_in o ≡ Some (record { tail = t; head = h })
ends_from None t h a b = cc
ends_from (Some x) t h a b = rw (a, b) refl

pub ends_same : (o q : Option EdgeSlot) → is_some o ≡ is_some q → node_in (place_in Outward o) ≡ node_in (place_in Outward q) → node_in (place_in Inward o) ≡ node_in (place_in Inward q) → ends_in o ≡ ends_in q
ends_same None None l a b = refl
ends_same None (Some y) l a b = cc
ends_same (Some x) None l a b = cc
ends_same (Some x) (Some y) l a b = rw (a, b) refl

key_back : (p : Option ℕ) → IsSome p → Some (key_or_zero p) ≡ p
key_back None h = cc
key_back (Some k) h = refl

tail_same : (o : Option EdgeSlot) → (IsSome o → IsSome (node_in (place_in Outward o))) → tail_in (ends_in o) ≡ node_in (place_in Outward o)
tail_same None h = refl
tail_same (Some x) h = key_back x.outward.node (h refl)

head_same : (o : Option EdgeSlot) → (IsSome o → IsSome (node_in (place_in Inward o))) → head_in (ends_in o) ≡ node_in (place_in Inward o)
head_same None h = refl
head_same (Some x) h = key_back x.inward.node (h refl)

pub tail_is : (nodes : Slab NodeSlot) (edges : Slab EdgeSlot) (e : ℕ) → IsSound nodes edges → tail_in (ends_at (graph_of nodes edges) e) ≡ owner Outward edges e
tail_is nodes edges e s = ap tail_in (ends_are nodes edges e) ∙ tail_same (get edges e) (s.ends Outward e)

pub head_is : (nodes : Slab NodeSlot) (edges : Slab EdgeSlot) (e : ℕ) → IsSound nodes edges → head_in (ends_at (graph_of nodes edges) e) ≡ owner Inward edges e
head_is nodes edges e s = ap head_in (ends_are nodes edges e) ∙ head_same (get edges e) (s.ends Inward e)

pub tail_known : (nodes : Slab NodeSlot) (edges : Slab EdgeSlot) (e v : ℕ) (x : Ends) → IsSound nodes edges → owner Outward edges e ≡ Some v → ends_at (graph_of nodes edges) e ≡ Some x → v ≡ x.tail
tail_known nodes edges e v x s own is = let q : Some v ≡ Some x.tail = sym own ∙ (sym (tail_is nodes edges e s) ∙ ap tail_in is) in cc

pub head_known : (nodes : Slab NodeSlot) (edges : Slab EdgeSlot) (e v : ℕ) (x : Ends) → IsSound nodes edges → owner Inward edges e ≡ Some v → ends_at (graph_of nodes edges) e ≡ Some x → v ≡ x.head
head_known nodes edges e v x s own is = let q : Some v ≡ Some x.head = sym own ∙ (sym (head_is nodes edges e s) ∙ ap head_in is) in cc

pub incidence_of : (nodes : Slab NodeSlot) (edges : Slab EdgeSlot) → IsSound nodes edges → IsIncidence (graph_of nodes edges)
incidence_of nodes edges s =
    record {
      outs = λ v e. rw (outs_are nodes edges v, tail_is nodes edges e s) ((s.flanks Outward).once v e);
      ins = λ v e. rw (ins_are nodes edges v, head_is nodes edges e s) ((s.flanks Inward).once v e);
      tails = λ e x is. node_is nodes edges x.tail ∙ owner_is_node Outward nodes edges x.tail e (s.flanks Outward) (sym (tail_is nodes edges e s) ∙ ap tail_in is);
      heads = λ e x is. node_is nodes edges x.head ∙ owner_is_node Inward nodes edges x.head e (s.flanks Inward) (sym (head_is nodes edges e s) ∙ ap head_in is);
    }
