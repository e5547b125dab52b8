-- What the writes of one move make of a side.
use Rattle.std.proofs.Common.{◌≡◌, ◌≢◌, ◌⊎◌, ℕ, ◌-◌, ◌<◌, ◌≤◌, eq-eqb, List, [], ◌∷◌, ◌++◌, length, Option, Some, None, IsSome, arith, refl, sym, ap, ◌∙◌, subst, inl, inr}
use Rattle.std.specs.Option.{option_map}
use Rattle.std.proofs.lemmas.Bool.{cases_eq}
use Rattle.slab.specs.Slab.{Slab, get, ContainsKey, slab_len}
use Rattle.graph_arena.specs.declared.slots.Flank.{Flank}
use Rattle.graph_arena.specs.declared.slots.EdgeList.{EdgeList}
use Rattle.graph_arena.specs.declared.slots.Place.{Place}
use Rattle.graph_arena.specs.declared.slots.NodeSlot.{NodeSlot}
use Rattle.graph_arena.specs.declared.slots.EdgeSlot.{EdgeSlot}
use Rattle.graph_arena.specs.Graph.{occurs, if_end}
use Rattle.graph_arena.specs.Changes.{without, renamed}
use Rattle.graph_arena.specs.Chain.{follow, row_keys}
use Rattle.graph_arena.specs.Flanks.{row_in, place_in, next_in, prev_in, node_in, row, next, prev, owner, IsFlankOf, Kept, Sets, NextSet, PrevSet, IsLiveIfSome, pushed_row, Moved, HandedOver, no_place}
use Rattle.graph_arena.proofs.Chains.{Appends, flank_append, own_keys, other_keys, row_last_owned, if_end_le, eqb_other}
use Rattle.graph_arena.proofs.Unlinking.{Takes, flank_take, taken_keys, untaken_keys}
use Rattle.graph_arena.proofs.Renaming.{Renames, flank_rename, renamed_keys, unrenamed_keys, renamed_kept, flank_next_prev, flank_prev_next, flank_next_owner, flank_prev_owner, flank_no_loop}
use Rattle.graph_arena.proofs.Counting.{used_keys, if_used}

pub kept_then : {T X : Type 0} (read : Flank → Option T → Option X) (s : Flank) (a b c : Slab T) → Kept read s a b → Kept read s b c → Kept read s a c
kept_then read s a b c h k =
    record {
      other_flank = λ t d i. k.other_flank t d i ∙ h.other_flank t d i;
      live = λ i. k.live i ∙ h.live i;
      len = k.len ∙ h.len;
      capacity = k.capacity ∙ h.capacity;
    }

-- ---- what is owned is there

pub owner_live : (s : Flank) (o : Option EdgeSlot) (v : ℕ) → node_in (place_in s o) ≡ Some v → IsSome o
owner_live s None v h = cc
owner_live s (Some x) v h = refl

node_live : (s : Flank) (f : ℕ → Option ℕ) (e : ℕ) (o : Option NodeSlot) → 0 < occurs e (row_keys f (row_in s o)) → IsSome o
node_live s f e None h = absurd (omega arith)
node_live s f e (Some x) h = refl

-- an edge's owner is a node
pub owner_is_node : (s : Flank) (nodes : Slab NodeSlot) (edges : Slab EdgeSlot) (v e : ℕ) → IsFlankOf s nodes edges → owner s edges e ≡ Some v → ContainsKey nodes v
owner_is_node s nodes edges v e flank is =
    let o = flank.once v e in
    let o2 = rw (is, eq-eqb v v refl) at o in
    node_live s (next s edges) e (get nodes v) (omega (arith, o2))

live_if : (edges : Slab EdgeSlot) (o : Option ℕ) → ((k : ℕ) → o ≡ Some k → ContainsKey edges k) → IsLiveIfSome edges o
live_if edges None h = tt
live_if edges (Some k) h = h k refl

end_used : (s : Flank) (o : Option EdgeSlot) (v : ℕ) → if_end (node_in (place_in s o)) v ≤ if_used o
end_used s None v = omega arith
end_used s (Some x) v = if_end_le (node_in (place_in s (Some x))) v

-- no list is longer than there are edges
pub row_count : (s : Flank) (nodes : Slab NodeSlot) (edges : Slab EdgeSlot) (v : ℕ) (r : EdgeList) → IsFlankOf s nodes edges → row s nodes v ≡ Some r → r.count ≤ slab_len edges
row_count s nodes edges v r flank is =
    let b =
    used_keys edges.slots (follow (next s edges) r.count r.first)
    (λ k. let o = flank.once v k in let o2 = rw is at o in let u = end_used s (get edges k) v in omega (arith, o2, u))
    in
    let c = (flank.rows v r is).counted in
    omega (arith, b, c)

occurs_short : (k : ℕ) (ks : List ℕ) → occurs k ks ≤ length ks
occurs_short k [] = omega arith
occurs_short k (x ∷ xs) =
    let i = occurs_short k xs in
    elim (cases_eq x k) [
      | inl e ↦ rw (eq-eqb x k e) (omega (arith, i))
      | inr n ↦ rw (eqb_other x k n) (omega (arith, i))
    ]

-- a list that has an edge is not empty
pub row_has : (s : Flank) (nodes : Slab NodeSlot) (edges : Slab EdgeSlot) (v e : ℕ) (r : EdgeList) → IsFlankOf s nodes edges → row s nodes v ≡ Some r → owner s edges e ≡ Some v → 1 ≤ r.count
row_has s nodes edges v e r flank is own =
    let o = flank.once v e in
    let o2 = rw (is, own, eq-eqb v v refl) at o in
    let short = occurs_short e (follow (next s edges) r.count r.first) in
    let c = (flank.rows v r is).counted in
    omega (arith, o2, short, c)

pub last_live : (s : Flank) (nodes : Slab NodeSlot) (edges : Slab EdgeSlot) (v : ℕ) (r : EdgeList) → IsFlankOf s nodes edges → row s nodes v ≡ Some r → IsLiveIfSome edges r.last
last_live s nodes edges v r flank is =
    live_if edges r.last (λ k l. owner_live s (get edges k) v (row_last_owned (row s nodes) (next s edges) (prev s edges) (owner s edges) v k r flank is l))

pub prev_live : (s : Flank) (nodes : Slab NodeSlot) (edges : Slab EdgeSlot) (v e : ℕ) (p : Place) → IsFlankOf s nodes edges → owner s edges e ≡ Some v → place_in s (get edges e) ≡ Some p → IsLiveIfSome edges p.prev
prev_live s nodes edges v e p flank own is =
    live_if edges p.prev (λ k l. owner_live s (get edges k) v (flank_prev_owner (row s nodes) (next s edges) (prev s edges) (owner s edges) v e k flank own (ap prev_in is ∙ l)))

pub next_live : (s : Flank) (nodes : Slab NodeSlot) (edges e1 : Slab EdgeSlot) (v e : ℕ) (p : Place) → IsFlankOf s nodes edges → owner s edges e ≡ Some v → place_in s (get edges e) ≡ Some p → Kept place_in s edges e1 → IsLiveIfSome e1 p.next
next_live s nodes edges e1 v e p flank own is kept =
    live_if e1 p.next (λ k l. kept.live k ∙ owner_live s (get edges k) v (flank_next_owner (row s nodes) (next s edges) (prev s edges) (owner s edges) v e k flank own (ap next_in is ∙ l)))

-- ---- an edge is attached

module _ (s : Flank) (v e : ℕ) (nodes n1 : Slab NodeSlot) (edges e1 e2 : Slab EdgeSlot) (r : EdgeList) (flank : IsFlankOf s nodes edges) (is : row s nodes v ≡ Some r) (loose : owner s edges e ≡ None) (linked : NextSet s r.last (Some e) edges e1) (placed : Sets place_in s e (record { node = Some v; next = None; prev = r.last }) e1 e2) (rowed : Sets row_in s v (pushed_row r e) nodes n1) where
  appends : Appends (row s nodes) (row s n1) (next s edges) (next s e2) (prev s edges) (prev s e2) (owner s edges) (owner s e2) v e r (pushed_row r e)
  appends =
      record {
        was_row = is;
        was_free = loose;
        is_row = rowed.is;
        first = refl;
        last = refl;
        count = refl;
        rows_kept = rowed.others;
        owner_is = ap node_in placed.is;
        owners_kept = λ k d. ap node_in (placed.others k d) ∙ linked.owners k;
        last_next = λ k d l. ap next_in (placed.others k d) ∙ linked.is k l;
        next_kept = λ k d n. ap next_in (placed.others k d) ∙ linked.others k n;
        prev_kept = λ k d. ap prev_in (placed.others k d) ∙ linked.prevs k;
        ends = ap next_in placed.is;
        comes_after = ap prev_in placed.is;
      }

  pub attached : Moved s v e (λ l. l ++ e ∷ []) (Some v) nodes edges n1 e2
  attached =
      record {
        sound = flank_append _ _ _ _ _ _ _ _ _ _ _ _ flank appends;
        list = own_keys _ _ _ _ _ _ _ _ _ _ _ _ flank appends;
        other_lists = other_keys _ _ _ _ _ _ _ _ _ _ _ _ flank appends;
        owned = appends.owner_is;
        others = appends.owners_kept;
        nodes_kept = rowed.kept;
        edges_kept = kept_then place_in s edges e1 e2 linked.kept placed.kept;
      }

-- ---- an edge is detached

module _ (s : Flank) (v e : ℕ) (nodes n1 : Slab NodeSlot) (edges e1 e2 e3 : Slab EdgeSlot) (r q : EdgeList) (p : Place) (flank : IsFlankOf s nodes edges) (is : row s nodes v ≡ Some r) (own : owner s edges e ≡ Some v) (at : place_in s (get edges e) ≡ Some p) (nexted : NextSet s p.prev p.next edges e1) (preved : PrevSet s p.next p.prev e1 e2) (placed : Sets place_in s e no_place e2 e3) (first_moved : r.first ≡ Some e → q.first ≡ p.next) (first_kept : r.first ≢ Some e → q.first ≡ r.first) (last_moved : r.last ≡ Some e → q.last ≡ p.prev) (last_kept : r.last ≢ Some e → q.last ≡ r.last) (count : q.count ≡ r.count - 1) (rowed : Sets row_in s v q nodes n1) where
  next_e : next s edges e ≡ p.next
  next_e = ap next_in at

  prev_e : prev s edges e ≡ p.prev
  prev_e = ap prev_in at

  takes : Takes (row s nodes) (row s n1) (next s edges) (next s e3) (prev s edges) (prev s e3) (owner s edges) (owner s e3) v e r q
  takes =
      record {
        was_row = is;
        was_owned = own;
        is_row = rowed.is;
        first_moved = λ h. first_moved h ∙ sym next_e;
        first_kept = first_kept;
        last_moved = λ h. last_moved h ∙ sym prev_e;
        last_kept = last_kept;
        count = let h = row_has s nodes edges v e r flank is own in omega (arith, h, count);
        rows_kept = rowed.others;
        is_free = ap node_in placed.is;
        owners_kept = λ k d. ap node_in (placed.others k d) ∙ (preved.owners k ∙ nexted.owners k);
        next_kept = λ j u o d n. ap next_in (placed.others j d) ∙ (preved.nexts j ∙ nexted.others j (λ i. n (flank_prev_next (row s nodes) (next s edges) (prev s edges) (owner s edges) v j e flank own (prev_e ∙ i))));
        next_moved = λ j u o d n. ap next_in (placed.others j d) ∙ (preved.nexts j ∙ (nexted.is j (sym prev_e ∙ flank_next_prev (row s nodes) (next s edges) (prev s edges) (owner s edges) u j e flank o n) ∙ sym next_e));
        prev_kept = λ j u o d n. ap prev_in (placed.others j d) ∙ (preved.others j (λ i. n (flank_next_prev (row s nodes) (next s edges) (prev s edges) (owner s edges) v e j flank own (next_e ∙ i))) ∙ nexted.prevs j);
        prev_moved = λ j u o d n. ap prev_in (placed.others j d) ∙ (preved.is j (sym next_e ∙ flank_prev_next (row s nodes) (next s edges) (prev s edges) (owner s edges) u e j flank o n) ∙ sym prev_e);
      }

  pub detached : Moved s v e (without e) None nodes edges n1 e3
  detached =
      record {
        sound = flank_take _ _ _ _ _ _ _ _ _ _ _ _ flank takes;
        list = taken_keys _ _ _ _ _ _ _ _ _ _ _ _ flank takes;
        other_lists = untaken_keys _ _ _ _ _ _ _ _ _ _ _ _ flank takes;
        owned = takes.is_free;
        others = takes.owners_kept;
        nodes_kept = rowed.kept;
        edges_kept = kept_then place_in s edges e1 e3 nexted.kept (kept_then place_in s e1 e2 e3 preved.kept placed.kept);
      }

-- ---- an edge's place is given to another

is_key : (o : Option ℕ) (k : ℕ) → (o ≡ Some k) ⊎ (o ≢ Some k)
is_key None k = inr (λ h. cc)
is_key (Some j) k =
    elim (cases_eq j k) [
      | inl e ↦ inl (ap Some e)
      | inr n ↦ inr (λ h. n (let q : Some j ≡ Some k = h in cc))
    ]

replaced_key : (e by : ℕ) (o q : Option ℕ) → (o ≡ Some e → q ≡ Some by) → (o ≢ Some e → q ≡ o) → q ≡ option_map (renamed e by) o
replaced_key e by None q moved kept = kept (λ h. cc)
replaced_key e by (Some k) q moved kept =
    elim (cases_eq k e) [
      | inl same ↦ rw (eq-eqb k e same) (moved (ap Some same))
      | inr n ↦ rw (eqb_other k e n) (kept (λ h. n (let z : Some k ≡ Some e = h in cc)))
    ]

module _ (s : Flank) (v e by : ℕ) (nodes n1 : Slab NodeSlot) (edges e1 e2 e3 e4 : Slab EdgeSlot) (r q : EdgeList) (p : Place) (flank : IsFlankOf s nodes edges) (is : row s nodes v ≡ Some r) (own : owner s edges e ≡ Some v) (free : owner s edges by ≡ None) (at : place_in s (get edges e) ≡ Some p) (nexted : NextSet s p.prev (Some by) edges e1) (preved : PrevSet s p.next (Some by) e1 e2) (placed : Sets place_in s by p e2 e3) (loosed : Sets place_in s e no_place e3 e4) (first_moved : r.first ≡ Some e → q.first ≡ Some by) (first_kept : r.first ≢ Some e → q.first ≡ r.first) (last_moved : r.last ≡ Some e → q.last ≡ Some by) (last_kept : r.last ≢ Some e → q.last ≡ r.last) (count : q.count ≡ r.count) (rowed : Sets row_in s v q nodes n1) where
  was_next : next s edges e ≡ p.next
  was_next = ap next_in at

  was_prev : prev s edges e ≡ p.prev
  was_prev = ap prev_in at

  two : by ≢ e
  two i = let bad : None ≡ Some v = sym free ∙ (ap (owner s edges) i ∙ own) in cc

  not_by : (j u : ℕ) → owner s edges j ≡ Some u → j ≢ by
  not_by j u o i = let bad : None ≡ Some u = sym free ∙ (ap (owner s edges) (sym i) ∙ o) in cc

  next_new : (j u : ℕ) → owner s edges j ≡ Some u → next s e4 (renamed e by j) ≡ option_map (renamed e by) (next s edges j)
  next_new j u o =
      elim (cases_eq j e) [
        | inl same ↦
            subst (λ (x : ℕ). next s e4 (renamed e by x) ≡ option_map (renamed e by) (next s edges x)) (sym same)
            (rw (eq-eqb e e refl) (ap next_in (loosed.others by two) ∙ (ap next_in placed.is ∙ (sym was_next ∙ sym (renamed_kept e by (next s edges e) (flank_no_loop (row s nodes) (next s edges) (prev s edges) (owner s edges) v e flank own))))))
        | inr d ↦
            let base : next s e4 j ≡ next s e1 j = ap next_in (loosed.others j d) ∙ (ap next_in (placed.others j (not_by j u o)) ∙ preved.nexts j) in
            rw (eqb_other j e d) (base ∙ elim (is_key p.prev j) [
              | inl h ↦
                  let was : next s edges j ≡ Some e = flank_prev_next (row s nodes) (next s edges) (prev s edges) (owner s edges) v j e flank own (was_prev ∙ h) in
                  nexted.is j h ∙ sym (ap (option_map (renamed e by)) was ∙ rw (eq-eqb e e refl) refl)
              | inr n ↦
                  nexted.others j n ∙ sym (renamed_kept e by (next s edges j) (λ i. n (sym was_prev ∙ flank_next_prev (row s nodes) (next s edges) (prev s edges) (owner s edges) u j e flank o i)))
            ])
      ]

  prev_new : (j u : ℕ) → owner s edges j ≡ Some u → prev s e4 (renamed e by j) ≡ option_map (renamed e by) (prev s edges j)
  prev_new j u o =
      elim (cases_eq j e) [
        | inl same ↦
            subst (λ (x : ℕ). prev s e4 (renamed e by x) ≡ option_map (renamed e by) (prev s edges x)) (sym same)
            (rw (eq-eqb e e refl) (ap prev_in (loosed.others by two) ∙ (ap prev_in placed.is ∙ (sym was_prev ∙ sym (renamed_kept e by (prev s edges e) (λ i. flank_no_loop (row s nodes) (next s edges) (prev s edges) (owner s edges) v e flank own (flank_prev_next (row s nodes) (next s edges) (prev s edges) (owner s edges) v e e flank own i)))))))
        | inr d ↦
            let base : prev s e4 j ≡ prev s e2 j = ap prev_in (loosed.others j d) ∙ ap prev_in (placed.others j (not_by j u o)) in
            rw (eqb_other j e d) (base ∙ elim (is_key p.next j) [
              | inl h ↦
                  let was : prev s edges j ≡ Some e = flank_next_prev (row s nodes) (next s edges) (prev s edges) (owner s edges) v e j flank own (was_next ∙ h) in
                  preved.is j h ∙ sym (ap (option_map (renamed e by)) was ∙ rw (eq-eqb e e refl) refl)
              | inr n ↦
                  preved.others j n ∙ (nexted.prevs j ∙ sym (renamed_kept e by (prev s edges j) (λ i. n (sym was_next ∙ flank_prev_next (row s nodes) (next s edges) (prev s edges) (owner s edges) u e j flank o i))))
            ])
      ]

  renames : Renames (row s nodes) (row s n1) (next s edges) (next s e4) (prev s edges) (prev s e4) (owner s edges) (owner s e4) v e by r q
  renames =
      record {
        was_row = is;
        was_owned = own;
        was_free = free;
        is_row = rowed.is;
        first = replaced_key e by r.first q.first first_moved first_kept;
        last = replaced_key e by r.last q.last last_moved last_kept;
        count = count;
        rows_kept = rowed.others;
        loose = ap node_in loosed.is;
        is_owned = ap node_in (loosed.others by two) ∙ (ap node_in placed.is ∙ (sym (ap node_in at) ∙ own));
        owners_kept = λ k d b. ap node_in (loosed.others k d) ∙ (ap node_in (placed.others k b) ∙ (preved.owners k ∙ nexted.owners k));
        nexts = next_new;
        prevs = prev_new;
      }

  pub handed_over : HandedOver s v e by nodes edges n1 e4
  handed_over =
      record {
        sound = flank_rename _ _ _ _ _ _ _ _ _ _ _ _ _ flank renames;
        list = renamed_keys _ _ _ _ _ _ _ _ _ _ _ _ _ flank renames;
        other_lists = unrenamed_keys _ _ _ _ _ _ _ _ _ _ _ _ _ flank renames;
        loose = loosed.is;
        owned = renames.is_owned;
        others = renames.owners_kept;
        nodes_kept = rowed.kept;
        edges_kept = kept_then place_in s edges e1 e4 nexted.kept (kept_then place_in s e1 e2 e4 preved.kept (kept_then place_in s e2 e3 e4 placed.kept loosed.kept));
      }
