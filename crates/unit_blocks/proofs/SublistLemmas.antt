-- Sublists, and the places of their elements.
use Rattle.std.proofs.Common.{◌≡◌, ◌≢◌, ℕ, zero, suc, ◌+◌, ◌<◌, ◌≤◌, ◌==◌, cond, List, [], ◌∷◌, length, map, drop, get_or, Bool, true, arith, refl, sym, ◌∙◌, ap, inl, inr, eq-eqb, ne_eqb, le_trans, ◌-◌}
use Rattle.std.specs.List.{filter}
use Rattle.std.proofs.lemmas.Bool.{cases_eq, cases_Bool}
use Rattle.std.proofs.lemmas.List.{drop_more, drop-drop}
use Rattle.elk_layers.specs.Layered.{place_in}
use Rattle.unit_blocks.specs.Weaving.{IsSublist}
use Rattle.unit_blocks.proofs.WeavingLemmas.{sub_skip, sub_occurs, sub_tail}
use Rattle.elk_layers.specs.Occurring.{occurs, HasNoRepeat}
use Rattle.elk_layers.proofs.OccursLemmas.{occurs_first}
use Rattle.elk_layers.proofs.PlaceLemmas.{place_below, place_reads}

-- in a list without repeats, the first of a sublist stands before its others
pub first_before : (x : ℕ) (xs ys : List ℕ) → IsSublist (x ∷ xs) ys → HasNoRepeat ys → (n : ℕ) → 1 ≤ occurs n xs → place_in ys x < place_in ys n
first_before x xs [] s once n h = absurd s
first_before x xs (y ∷ ys) (inl s) once n h =
    let more = sub_occurs xs ys s.1 n in
    let one : cond (y == n) 1 0 + occurs n ys ≤ 1 = once n in
    elim (cases_eq y n) [
      | inl e ↦ let q = rw (eq-eqb y n e) at one in absurd (omega (arith, q, more, h))
      | inr ne ↦ rw (eq-eqb y x (sym s.0), ne_eqb y n ne) (omega arith)
    ]
first_before x xs (y ∷ ys) (inr s) once n h =
    let more = sub_occurs xs ys (sub_tail x xs ys s) n in
    let here = let a = occurs_first x xs in let b = sub_occurs (x ∷ xs) ys s x in le_trans a b in
    let one_n : cond (y == n) 1 0 + occurs n ys ≤ 1 = once n in
    let one_x : cond (y == x) 1 0 + occurs x ys ≤ 1 = once x in
    let rest = first_before x xs ys s (λ m. let o : cond (y == m) 1 0 + occurs m ys ≤ 1 = once m in omega (arith, o)) n h in
    let ne_n : y ≢ n = λ e. let q = rw (eq-eqb y n e) at one_n in omega (arith, q, more, h) in
    let ne_x : y ≢ x = λ e. let q = rw (eq-eqb y x e) at one_x in omega (arith, q, here) in
    rw (ne_eqb y n ne_n, ne_eqb y x ne_x) (omega (arith, rest))

pub sub_forward : (f : ℕ → ℕ) (xs ys : List ℕ) → IsSublist (map f xs) ys → HasNoRepeat ys → (i : ℕ) → i + 1 < length xs → place_in ys (f (get_or xs i 0)) < place_in ys (f (get_or xs (i + 1) 0))
sub_forward f [] ys s once i l = absurd (omega (arith, l))
sub_forward f (x ∷ []) ys s once i l = absurd (omega (arith, l))
sub_forward f (x ∷ z ∷ xs) ys s once zero l = first_before (f x) (f z ∷ map f xs) ys s once (f z) (occurs_first (f z) (map f xs))
sub_forward f (x ∷ z ∷ xs) ys s once (suc i) l =
    let n : suc i + 1 ≡ suc (i + 1) = omega arith in
    rw n (sub_forward f (z ∷ xs) ys (sub_tail (f x) (f z ∷ map f xs) ys s) once i (omega (arith, l)))

sub_dropped : (xs : List ℕ) (d : ℕ) (ys : List ℕ) → IsSublist xs (drop d ys) → IsSublist xs ys
sub_dropped xs zero ys h = h
sub_dropped xs (suc d) [] h = h
sub_dropped xs (suc d) (y ∷ ys) h = sub_skip xs y ys (sub_dropped xs d ys h)

-- elements that stand in another list in ascending places are a sublist of it
pub sub_from : (test : ℕ → Bool) (ys : List ℕ) (from : ℕ) (xs : List ℕ)
    → ((i : ℕ) → i < length xs → test (get_or xs i 0) ≡ true → (1 ≤ occurs (get_or xs i 0) ys) × (from ≤ place_in ys (get_or xs i 0)))
    → ((i j : ℕ) → i < j → j < length xs → test (get_or xs i 0) ≡ true → test (get_or xs j 0) ≡ true → place_in ys (get_or xs i 0) < place_in ys (get_or xs j 0))
    → IsSublist (filter test xs) (drop from ys)
sub_from test ys from [] m p = tt
sub_from test ys from (x ∷ xs) m p = elim (cases_Bool (test x)) [
  | inl t ↦
      let here = m 0 (omega arith) t in
      let at = place_in ys x in
      let rest = sub_from test ys (at + 1) xs
      (λ i l e. let a = m (suc i) (omega (arith, l)) e in let b = p 0 (suc i) (omega arith) (omega (arith, l)) t e in (a.0, omega (arith, b)))
      (λ i j l k. p (suc i) (suc j) (omega (arith, l)) (omega (arith, k))) in
      let cut : drop at ys ≡ x ∷ drop (at + 1) ys =
      drop_more ys at 0 (place_below x ys here.0) ∙ ap (λ n. n ∷ drop (at + 1) ys) (place_reads x ys here.0) in
      let there : IsSublist (x ∷ filter test xs) (drop at ys) = rw cut (inl (refl, rest)) in
      let far : from + (at - from) ≡ at = omega (arith, here.1) in
      let same : drop (at - from) (drop from ys) ≡ drop at ys = drop-drop (at - from) from ys ∙ ap (λ n. drop n ys) far in
      rw t (sub_dropped (x ∷ filter test xs) (at - from) (drop from ys) (rw same there))
  | inr f ↦
      rw f (sub_from test ys from xs
      (λ i l e. m (suc i) (omega (arith, l)) e)
      (λ i j l k. p (suc i) (suc j) (omega (arith, l)) (omega (arith, k))))
]
