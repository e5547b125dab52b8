-- Walks of marked edges, and names that tell the parts.
use Rattle.std.proofs.Common.{◌≡◌, ℕ, zero, suc, ◌<◌, eqb, eq-eqb, cond, Bool, true, false, ◌⊎◌, List, [], ◌∷◌, length, arith, refl, sym, ap, subst, ◌∙◌, inl, inr}
use Rattle.std.proofs.lemmas.Bool.{cases_Bool, eqb-true}
use Rattle.std.proofs.lemmas.List.{get_or-map, length-map}
use Rattle.network_laws.specs.declared.network.NetEdge.{NetEdge}
use Rattle.network_laws.specs.Network.{edge_at, EndsBelow}
use Rattle.network_laws.specs.Linked.{is_marked, HasMarked, LinkedBy, Linked, name_of, renamed, merged}

module _ (edges : List NetEdge) (marks : List Bool) where
  pub link_stay : (a : ℕ) → Linked edges marks a a
  link_stay a = (0, refl)

  -- one more step at the front
  more_before : (a b c n : ℕ) → (HasMarked edges marks a b ⊎ HasMarked edges marks b a) → LinkedBy edges marks b c n → LinkedBy edges marks a c (suc n)
  more_before a b c zero s w = (a, refl, subst (λ x. HasMarked edges marks a x ⊎ HasMarked edges marks x a) w s)
  more_before a b c (suc n) s w = (w.0, more_before a b w.0 n s w.1, w.2)

  turn : (a b : ℕ) → (HasMarked edges marks a b ⊎ HasMarked edges marks b a) → HasMarked edges marks b a ⊎ HasMarked edges marks a b
  turn a b (inl h) = inr h
  turn a b (inr h) = inl h

  back_by : (a b n : ℕ) → LinkedBy edges marks a b n → LinkedBy edges marks b a n
  back_by a b zero w = sym w
  back_by a b (suc n) w = more_before b w.0 a n (turn w.0 b w.2) (back_by a w.0 n w.1)

  pub link_back : (a b : ℕ) → Linked edges marks a b → Linked edges marks b a
  link_back a b w = (w.0, back_by a b w.0 w.1)

  join_by : (a b c m n : ℕ) → LinkedBy edges marks a b m → LinkedBy edges marks b c n → Linked edges marks a c
  join_by a b c m zero v w = (m, subst (λ x. LinkedBy edges marks a x m) w v)
  join_by a b c m (suc n) v w = let r = join_by a b w.0 m n v w.1 in (suc r.0, (w.0, r.1, w.2))

  pub link_join : (a b c : ℕ) → Linked edges marks a b → Linked edges marks b c → Linked edges marks a c
  link_join a b c v w = join_by a b c v.0 w.0 v.1 w.1

  pub link_one : (k : ℕ) → k < length edges → is_marked marks k ≡ true → Linked edges marks (edge_at edges k).tail (edge_at edges k).head
  link_one k l m = (1, ((edge_at edges k).tail, refl, inl (record { number = k; is_there = l; has_mark = m; from_is = refl; to_is = refl })))

renamed_at : (from to : ℕ) (names : List ℕ) (v : ℕ) → v < length names → name_of (renamed from to names) v ≡ cond (eqb (name_of names v) from) to (name_of names v)
renamed_at from to names v l = get_or-map (λ n. cond (eqb n from) to n) names v 0 0 l

length_renamed : (from to : ℕ) (names : List ℕ) → length (renamed from to names) ≡ length names
length_renamed from to names = length-map names (λ n. cond (eqb n from) to n)

-- equal names stay equal
same_renamed : (from to : ℕ) (names : List ℕ) (a b : ℕ) → a < length names → b < length names → name_of names a ≡ name_of names b → name_of (renamed from to names) a ≡ name_of (renamed from to names) b
same_renamed from to names a b la lb h =
    renamed_at from to names a la ∙ (ap (λ n. cond (eqb n from) to n) h ∙ sym (renamed_at from to names b lb))

same_stays : (edges : List NetEdge) (marks : List Bool) (names : List ℕ) (a b : ℕ) → a < length names → b < length names → name_of names a ≡ name_of names b → name_of (merged edges marks names) a ≡ name_of (merged edges marks names) b
same_stays [] marks names a b la lb h = h
same_stays (e ∷ es) [] names a b la lb h = h
same_stays (e ∷ es) (false ∷ ms) names a b la lb h = same_stays es ms names a b la lb h
same_stays (e ∷ es) (true ∷ ms) names a b la lb h =
    let from = name_of names e.head in
    let to = name_of names e.tail in
    let n = length_renamed from to names in
    same_stays es ms (renamed from to names) a b (omega (arith, n)) (omega (arith, n)) (same_renamed from to names a b la lb h)

either_to : (b : Bool) (to n : ℕ) → n ≡ to → cond b to n ≡ to
either_to true to n h = refl
either_to false to n h = h

joins_now : (t h : ℕ) (names : List ℕ) → t < length names → h < length names → name_of (renamed (name_of names h) (name_of names t) names) t ≡ name_of (renamed (name_of names h) (name_of names t) names) h
joins_now t h names lt lh =
    let from = name_of names h in
    let to = name_of names t in
    let a : name_of (renamed from to names) t ≡ to = renamed_at from to names t lt ∙ either_to (eqb to from) to to refl in
    let self : eqb from from ≡ true = eq-eqb from from refl in
    let b : name_of (renamed from to names) h ≡ to = renamed_at from to names h lh ∙ ap (λ x. cond x to from) self in
    a ∙ sym b

-- the ends of a marked edge have one name in the end
pub merged_joins : (edges : List NetEdge) (marks : List Bool) (names : List ℕ) (k : ℕ) → EndsBelow (length names) edges → k < length edges → is_marked marks k ≡ true → name_of (merged edges marks names) (edge_at edges k).tail ≡ name_of (merged edges marks names) (edge_at edges k).head
merged_joins [] marks names k ends l m = absurd (omega arith)
merged_joins (e ∷ es) [] names k ends l m = absurd cc
merged_joins (e ∷ es) (false ∷ ms) names zero ends l m = absurd cc
merged_joins (e ∷ es) (false ∷ ms) names (suc k) ends l m = merged_joins es ms names k (λ i j. ends (suc i) (omega arith)) (omega arith) m
merged_joins (e ∷ es) (true ∷ ms) names zero ends l m =
    let from = name_of names e.head in
    let to = name_of names e.tail in
    let n = length_renamed from to names in
    let t : e.tail < length names = (ends 0 l).0 in
    let h : e.head < length names = (ends 0 l).1 in
    same_stays es ms (renamed from to names) e.tail e.head (omega (arith, n, t)) (omega (arith, n, h)) (joins_now e.tail e.head names t h)
merged_joins (e ∷ es) (true ∷ ms) names (suc k) ends l m =
    let from = name_of names e.head in
    let to = name_of names e.tail in
    let n = length_renamed from to names in
    merged_joins es ms (renamed from to names) k (λ i j. let b = ends (suc i) (omega arith) in (omega (arith, n, b.0), omega (arith, n, b.1))) (omega arith) m

-- nodes with one name are in one class of any equivalence that holds of marked edges' ends
module _ (R : ℕ → ℕ → Type 0) (back : (a b : ℕ) → R a b → R b a) (join : (a b c : ℕ) → R a b → R b c → R a c) where
  named_in_one : (names : List ℕ) (t h : ℕ) → t < length names → h < length names → R t h → ((a b : ℕ) → a < length names → b < length names → name_of names a ≡ name_of names b → R a b) → (a b : ℕ) → a < length names → b < length names → name_of (renamed (name_of names h) (name_of names t) names) a ≡ name_of (renamed (name_of names h) (name_of names t) names) b → R a b
  named_in_one names t h lt lh r same a b la lb eq =
      let from = name_of names h in
      let to = name_of names t in
      let both : cond (eqb (name_of names a) from) to (name_of names a) ≡ cond (eqb (name_of names b) from) to (name_of names b) = sym (renamed_at from to names a la) ∙ (eq ∙ renamed_at from to names b lb) in
      elim (cases_Bool (eqb (name_of names a) from)) [
        | inl x ↦ elim (cases_Bool (eqb (name_of names b) from)) [
          | inl y ↦ same a b la lb (eqb-true _ _ x ∙ sym (eqb-true _ _ y))
          | inr y ↦
              let e : to ≡ name_of names b = rw (x, y) at both in
              join a h b (same a h la lh (eqb-true _ _ x)) (join h t b (back t h r) (same t b lt lb e))
        ]
        | inr x ↦ elim (cases_Bool (eqb (name_of names b) from)) [
          | inl y ↦
              let e : name_of names a ≡ to = rw (x, y) at both in
              join a t b (same a t la lt e) (join t h b r (same h b lh lb (sym (eqb-true _ _ y))))
          | inr y ↦ let e : name_of names a ≡ name_of names b = rw (x, y) at both in same a b la lb e
        ]
      ]

  pub merged_sound : (edges : List NetEdge) (marks : List Bool) (names : List ℕ) → EndsBelow (length names) edges → ((k : ℕ) → k < length edges → is_marked marks k ≡ true → R (edge_at edges k).tail (edge_at edges k).head) → ((a b : ℕ) → a < length names → b < length names → name_of names a ≡ name_of names b → R a b) → (a b : ℕ) → a < length names → b < length names → name_of (merged edges marks names) a ≡ name_of (merged edges marks names) b → R a b
  merged_sound [] marks names ends holds same a b la lb h = same a b la lb h
  merged_sound (e ∷ es) [] names ends holds same a b la lb h = same a b la lb h
  merged_sound (e ∷ es) (false ∷ ms) names ends holds same a b la lb h =
      merged_sound es ms names (λ i j. ends (suc i) (omega arith)) (λ i j m. holds (suc i) (omega arith) m) same a b la lb h
  merged_sound (e ∷ es) (true ∷ ms) names ends holds same a b la lb h =
      let from = name_of names e.head in
      let to = name_of names e.tail in
      let n = length_renamed from to names in
      let t : e.tail < length names = (ends 0 (omega arith)).0 in
      let d : e.head < length names = (ends 0 (omega arith)).1 in
      merged_sound es ms (renamed from to names) (λ i j. let b = ends (suc i) (omega arith) in (omega (arith, n, b.0), omega (arith, n, b.1))) (λ i j m. holds (suc i) (omega arith) m)
      (λ x y lx ly eq. named_in_one names e.tail e.head t d (holds 0 (omega arith) refl) same x y (omega (arith, n, lx)) (omega (arith, n, ly)) eq)
      a b (omega (arith, n)) (omega (arith, n)) h
