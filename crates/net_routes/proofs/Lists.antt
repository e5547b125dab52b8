-- Facts on the elements of a list, by their places.
use Rattle.std.proofs.Common.{◌≡◌, ◌≢◌, ◌∙◌, ⊎_elim, true, false, eqb, List, [], ◌∷◌, ◌++◌, ℕ, zero, suc, ◌+◌, ◌<◌, ◌≤◌, length, get_or, refl, sym, ap, subst, arith}
use Rattle.std.specs.List.{list_any}
use Rattle.std.proofs.lemmas.Bool.{or_cases, eqb-true, ne_eqb}
use Rattle.std.proofs.lemmas.Map.Keys.{IsDistinct-from_apart}
use Rattle.std.proofs.lemmas.Map.Steps.{length-le_from_distinct_below}
use Rattle.std.proofs.lemmas.List.{get_or_append_left, get_or_push, get_or_default, length_push}
use borrow.Author.Count.{below_more}

-- what holds of each element and of one more holds of each where this one is added
pub each_pushed : (X : Type 0) (d : X) (P : ℕ → X → Type 0) (xs ys : List X) (x : X) (i : ℕ) → length xs ≡ i → ys ≡ xs ++ x ∷ []
    → ((k : ℕ) → k < i → P k (get_or xs k d)) → P i x → (k : ℕ) → k < i + 1 → P k (get_or ys k d)
each_pushed X d P xs ys x i len e each here =
    subst (λ (zs : List X). (k : ℕ) → k < i + 1 → P k (get_or zs k d)) (sym e)
    (below_more (λ k. P k (get_or (xs ++ x ∷ []) k d)) i
    (λ k h. let l : k < length xs = omega arith in subst (P k) (sym (get_or_append_left xs (x ∷ []) d k l)) (each k h))
    (subst (P i) (sym (get_or_push xs x d i len)) here))

-- what belongs to the even places and what belongs to the odd ones, where one of each is added
pub two_pushed : (X : Type 0) (d : X) (P Q : ℕ → X → Type 0) (xs ys zs : List X) (x y : X) (i : ℕ) → length xs ≡ i + i → ys ≡ xs ++ x ∷ [] → zs ≡ ys ++ y ∷ []
    → ((k : ℕ) → k < i → P k (get_or xs (k + k) d)) → P i x → ((k : ℕ) → k < i → Q k (get_or xs (k + k + 1) d)) → Q i y
    → ((k : ℕ) → k < i + 1 → P k (get_or zs (k + k) d)) × ((k : ℕ) → k < i + 1 → Q k (get_or zs (k + k + 1) d))
two_pushed X d P Q xs ys zs x y i len e f ps p qs q = (
  below_more (λ k. P k (get_or zs (k + k) d)) i (λ k h. subst (P k) (sym (old (k + k) (omega arith))) (ps k h)) (subst (P i) (sym first) p),
  below_more (λ k. Q k (get_or zs (k + k + 1) d)) i (λ k h. subst (Q k) (sym (old (k + k + 1) (omega arith))) (qs k h)) (subst (Q i) (sym second) q),
)
  where
    more : length ys ≡ i + i + 1
    more = let l = length_push xs x in let same = ap length e in omega arith

    in_ys : (n : ℕ) → n < length ys → get_or zs n d ≡ get_or ys n d
    in_ys n h = ap (λ z. get_or z n d) f ∙ get_or_append_left ys (y ∷ []) d n h

    old : (n : ℕ) → n < i + i → get_or zs n d ≡ get_or xs n d
    old n h = in_ys n (omega (arith, more)) ∙ ap (λ z. get_or z n d) e ∙ get_or_append_left xs (x ∷ []) d n (omega arith)

    first : get_or zs (i + i) d ≡ x
    first = in_ys (i + i) (omega (arith, more)) ∙ ap (λ z. get_or z (i + i) d) e ∙ get_or_push xs x d (i + i) len

    second : get_or zs (i + i + 1) d ≡ y
    second = ap (λ z. get_or z (i + i + 1) d) f ∙ get_or_push ys y d (i + i + 1) more

-- for each number below a bound one that has to do with it, in a list
pub one_each : (In : ℕ → ℕ → Type 0) (count : ℕ) → ((s : ℕ) → s < count → (k : ℕ) × In s k) → (n : ℕ) → n ≤ count
    → (ks : List ℕ) × (length ks ≡ n) × ((s : ℕ) → s < n → In s (get_or ks s 0))
one_each In count some zero l = ([], refl, λ s h. absurd (omega arith))
one_each In count some (suc n) l =
    let rest = one_each In count some n (omega arith) in
    let last = some n (omega arith) in
    let more = each_pushed ℕ 0 In rest.0 (rest.0 ++ last.0 ∷ []) last.0 n rest.1 refl rest.2 last.1 in
    let len = length_push rest.0 last.0 in
    let was = rest.1 in
    (rest.0 ++ last.0 ∷ [], omega arith, λ s h. more s (omega arith))

-- where a number stands
stands_at : (q : ℕ) (ns : List ℕ) → list_any (eqb q) ns ≡ true → (i : ℕ) × (i < length ns) × (get_or ns i 0 ≡ q)
stands_at q [] h = absurd (let bad : false ≡ true = h in cc)
stands_at q (n ∷ ns) h =
    ⊎_elim
    (λ (e : eqb q n ≡ true). (0, omega arith, sym (eqb-true q n e)))
    (λ (later : list_any (eqb q) ns ≡ true). let at = stands_at q ns later in let l = at.1 in (suc at.0, omega arith, at.2))
    (or_cases (eqb q n) (list_any (eqb q) ns) h)

-- numbers below a bound, no two of them equal, are at most that many
pub few_below : (ns : List ℕ) (bound : ℕ) → ((i : ℕ) → i < length ns → get_or ns i 0 < bound) → ((i j : ℕ) → i < j → j < length ns → get_or ns i 0 ≢ get_or ns j 0) → length ns ≤ bound
few_below ns bound below apart =
    length-le_from_distinct_below ns bound
    (IsDistinct-from_apart eqb ns
    (λ i j d lt l. ne_eqb (get_or ns i d) (get_or ns j d)
    (λ e. apart i j lt l (get_or_default ns i 0 d (omega arith) ∙ e ∙ get_or_default ns j d 0 l))))
    (λ q h. let at = stands_at q ns h in subst (λ z. z < bound) at.2 (below at.0 at.1))
