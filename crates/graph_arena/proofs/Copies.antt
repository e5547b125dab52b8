-- A copy has the same slots.
use Rattle.std.proofs.Common.{◌≡◌, List, [], ◌∷◌, Option, Some, None, refl, sym, ap, subst}
use Rattle.std.specs.List.{AllZip}
use Rattle.slab.specs.Slab.{Slab, IsSlotClone}
use Rattle.graph_arena.specs.declared.slots.NodeSlot.{NodeSlot}
use Rattle.graph_arena.specs.declared.slots.EdgeSlot.{EdgeSlot}
use Rattle.graph_arena.specs.Flanks.{IsSound, graph_of}
use Rattle.graph_arena.specs.Changes.{IsSame}

pub same_slots : {T : Type 0} (R : T → T → Type 0) → ((x y : T) → R x y → y ≡ x) → (xs ys : List (Option T)) → AllZip (IsSlotClone R) xs ys → ys ≡ xs
same_slots R same [] [] h = refl
same_slots R same [] (y ∷ ys) h = absurd h
same_slots R same (x ∷ xs) [] h = absurd h
same_slots R same (None ∷ xs) (y ∷ ys) h = rw h.0 (ap (λ l. None ∷ l) (same_slots R same xs ys h.1))
same_slots R same (Some x ∷ xs) (None ∷ ys) h = absurd h.0
same_slots R same (Some x ∷ xs) (Some y ∷ ys) h =
    let e = same x y h.0 in
    rw e (ap (λ l. Some x ∷ l) (same_slots R same xs ys h.1))

slab_from : {T : Type 0} (s t : Slab T) → t.slots ≡ s.slots → t ≡ record s { vacant_key = t.vacant_key; capacity = t.capacity }
slab_from s t h = ap (λ l. record t { slots = l }) h

pub copy_sound : (nodes n1 : Slab NodeSlot) (edges e1 : Slab EdgeSlot) → n1.slots ≡ nodes.slots → e1.slots ≡ edges.slots → IsSound nodes edges → IsSound n1 e1
copy_sound nodes n1 edges e1 a b s =
    subst (λ (n : Slab NodeSlot). IsSound n e1) (sym (slab_from nodes n1 a))
    (subst (λ (e : Slab EdgeSlot). IsSound (record nodes { vacant_key = n1.vacant_key; capacity = n1.capacity }) e) (sym (slab_from edges e1 b))
    (record { flanks = s.flanks; ends = s.ends; small = s.small }))

pub copy_same : (nodes n1 : Slab NodeSlot) (edges e1 : Slab EdgeSlot) → n1.slots ≡ nodes.slots → e1.slots ≡ edges.slots → IsSame (graph_of nodes edges) (graph_of n1 e1)
copy_same nodes n1 edges e1 a b =
    subst (λ (n : Slab NodeSlot). IsSame (graph_of nodes edges) (graph_of n e1)) (sym (slab_from nodes n1 a))
    (subst (λ (e : Slab EdgeSlot). IsSame (graph_of nodes edges) (graph_of (record nodes { vacant_key = n1.vacant_key; capacity = n1.capacity }) e)) (sym (slab_from edges e1 b))
    (record { same_nodes = λ v. refl; same_edges = λ e. refl }))
