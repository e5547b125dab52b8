-- Reserved room changes nothing else.
use Rattle.std.proofs.Common.{◌≡◌, ℕ, subst, sym, refl, Result, Ok, Err, OnErr}
use Rattle.slab.specs.Slab.{Slab}
use Rattle.graph_arena.specs.declared.slots.NodeSlot.{NodeSlot}
use Rattle.graph_arena.specs.declared.slots.EdgeSlot.{EdgeSlot}
use Rattle.graph_arena.specs.Flanks.{IsSound, graph_of}
use Rattle.graph_arena.specs.Changes.{IsSame, AddsEdge, Splits}

pub roomy_sound : (nodes n1 : Slab NodeSlot) (edges e1 : Slab EdgeSlot) → n1 ≡ record nodes { capacity = n1.capacity } → e1 ≡ record edges { capacity = e1.capacity } → IsSound nodes edges → IsSound n1 e1
roomy_sound nodes n1 edges e1 a b s =
    subst (λ (n : Slab NodeSlot). IsSound n e1) (sym a)
    (subst (λ (e : Slab EdgeSlot). IsSound (record nodes { capacity = n1.capacity }) e) (sym b)
    (record { flanks = s.flanks; ends = s.ends; small = s.small }))

pub roomy_same : (nodes n1 : Slab NodeSlot) (edges e1 : Slab EdgeSlot) → n1 ≡ record nodes { capacity = n1.capacity } → e1 ≡ record edges { capacity = e1.capacity } → IsSame (graph_of nodes edges) (graph_of n1 e1)
roomy_same nodes n1 edges e1 a b =
    subst (λ (n : Slab NodeSlot). IsSame (graph_of nodes edges) (graph_of n e1)) (sym a)
    (subst (λ (e : Slab EdgeSlot). IsSame (graph_of nodes edges) (graph_of (record nodes { capacity = n1.capacity }) e)) (sym b)
    (record { same_nodes = λ v. refl; same_edges = λ e. refl }))

pub on_err : {T E P : Type 0} (r : Result T E) → P → OnErr r P
on_err (Ok x) p = tt
on_err (Err x) p = p

-- a change of the roomy arena is one of the arena before
pub roomy_added : (nodes : Slab NodeSlot) (edges e1 : Slab EdgeSlot) (n2 : Slab NodeSlot) (e2 : Slab EdgeSlot) (e tail head : ℕ) → e1 ≡ record edges { capacity = e1.capacity } → AddsEdge (graph_of nodes e1) (graph_of n2 e2) e tail head → AddsEdge (graph_of nodes edges) (graph_of n2 e2) e tail head
roomy_added nodes edges e1 n2 e2 e tail head b a =
    let x : AddsEdge (graph_of nodes (record edges { capacity = e1.capacity })) (graph_of n2 e2) e tail head =
    subst (λ (s : Slab EdgeSlot). AddsEdge (graph_of nodes s) (graph_of n2 e2) e tail head) b a in
    record {
      was_free = x.was_free;
      ends = x.ends;
      other_edges = x.other_edges;
      at_tail = x.at_tail;
      at_head = x.at_head;
      other_outs = x.other_outs;
      other_ins = x.other_ins;
      same_nodes = x.same_nodes;
    }

pub roomy_split : (nodes n1 : Slab NodeSlot) (edges e1 : Slab EdgeSlot) (n2 : Slab NodeSlot) (e2 : Slab EdgeSlot) (e m f tail head : ℕ) → n1 ≡ record nodes { capacity = n1.capacity } → e1 ≡ record edges { capacity = e1.capacity } → Splits (graph_of n1 e1) (graph_of n2 e2) e m f tail head → Splits (graph_of nodes edges) (graph_of n2 e2) e m f tail head
roomy_split nodes n1 edges e1 n2 e2 e m f tail head a b p =
    let x : Splits (graph_of (record nodes { capacity = n1.capacity }) (record edges { capacity = e1.capacity })) (graph_of n2 e2) e m f tail head =
    subst (λ (s : Slab EdgeSlot). Splits (graph_of (record nodes { capacity = n1.capacity }) s) (graph_of n2 e2) e m f tail head) b
    (subst (λ (s : Slab NodeSlot). Splits (graph_of s e1) (graph_of n2 e2) e m f tail head) a p) in
    record {
      node_was_free = x.node_was_free;
      edge_was_free = x.edge_was_free;
      near = x.near;
      far = x.far;
      other_edges = x.other_edges;
      at_node = x.at_node;
      at_head = x.at_head;
      other_outs = x.other_outs;
      other_ins = x.other_ins;
      same_nodes = x.same_nodes;
    }
