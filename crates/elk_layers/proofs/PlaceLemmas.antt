-- The places of numbers in lists.
use Rattle.std.proofs.Common.{◌≡◌, ◌≢◌, ℕ, zero, suc, ◌+◌, ◌<◌, ◌≤◌, ◌==◌, cond, List, [], ◌∷◌, length, map, get_or, arith, refl, ap, inl, inr, eq-eqb, ne_eqb}
use Rattle.std.proofs.lemmas.Bool.{cases_eq}
use Rattle.elk_layers.specs.Layered.{place_in}
use Rattle.elk_layers.specs.Occurring.{occurs, HasNoRepeat}
use Rattle.elk_layers.proofs.OccursLemmas.{occurs_at}

pub place_below : (n : ℕ) (xs : List ℕ) → 1 ≤ occurs n xs → place_in xs n < length xs
place_below n [] h = absurd (omega (arith, h))
place_below n (x ∷ xs) h = elim (cases_eq x n) [
  | inl e ↦ rw (eq-eqb x n e) (omega arith)
  | inr ne ↦
      let k : 1 ≤ cond (x == n) 1 0 + occurs n xs = h in
      let q = rw (ne_eqb x n ne) at k in
      let rest = place_below n xs (omega (arith, q)) in
      rw (ne_eqb x n ne) (omega (arith, rest))
]

pub place_reads : (n : ℕ) (xs : List ℕ) → 1 ≤ occurs n xs → get_or xs (place_in xs n) 0 ≡ n
place_reads n [] h = absurd (omega (arith, h))
place_reads n (x ∷ xs) h = elim (cases_eq x n) [
  | inl e ↦ rw (eq-eqb x n e) e
  | inr ne ↦
      let k : 1 ≤ cond (x == n) 1 0 + occurs n xs = h in
      let q = rw (ne_eqb x n ne) at k in
      let s : 1 + place_in xs n ≡ suc (place_in xs n) = omega arith in
      rw (ne_eqb x n ne, s) (place_reads n xs (omega (arith, q)))
]

pub place_at : (xs : List ℕ) → ((i j : ℕ) → i < j → j < length xs → get_or xs i 0 ≢ get_or xs j 0) → (i : ℕ) → i < length xs → place_in xs (get_or xs i 0) ≡ i
place_at [] h i l = absurd (omega (arith, l))
place_at (x ∷ xs) h zero l = rw (eq-eqb x x refl) refl
place_at (x ∷ xs) h (suc i) l =
    let rest = place_at xs (λ i j l k. h (suc i) (suc j) (omega (arith, l)) (omega (arith, k))) i (omega (arith, l)) in
    rw (ne_eqb x (get_or xs i 0) (h 0 (suc i) (omega arith) l)) (omega (arith, rest))

-- the place of a unit's name among the names, where no other unit has that name
pub place_named : (f : ℕ → ℕ) (xs : List ℕ) (n : ℕ) → ((i : ℕ) → i < length xs → f (get_or xs i 0) ≡ f n → get_or xs i 0 ≡ n) → place_in (map f xs) (f n) ≡ place_in xs n
place_named f [] n h = refl
place_named f (x ∷ xs) n h =
    let rest = place_named f xs n (λ i l. h (suc i) (omega (arith, l))) in
    elim (cases_eq x n) [
      | inl e ↦ rw (eq-eqb x n e, eq-eqb (f x) (f n) (ap f e)) refl
      | inr ne ↦ rw (ne_eqb x n ne, ne_eqb (f x) (f n) (λ e. ne (h 0 (omega arith) e)), rest) refl
    ]

pub place_once : (xs : List ℕ) → HasNoRepeat xs → (i : ℕ) → i < length xs → place_in xs (get_or xs i 0) ≡ i
place_once [] once i l = absurd (omega (arith, l))
place_once (x ∷ xs) once zero l = rw (eq-eqb x x refl) refl
place_once (x ∷ xs) once (suc i) l =
    let rest = place_once xs (λ n. let o : cond (x == n) 1 0 + occurs n xs ≤ 1 = once n in omega (arith, o)) i (omega (arith, l)) in
    let here = occurs_at xs i (omega (arith, l)) in
    let one : cond (x == get_or xs i 0) 1 0 + occurs (get_or xs i 0) xs ≤ 1 = once (get_or xs i 0) in
    let ne : x ≢ get_or xs i 0 = λ e. let q = rw (eq-eqb x (get_or xs i 0) e) at one in omega (arith, q, here) in
    rw (ne_eqb x (get_or xs i 0) ne) (omega (arith, rest))
