-- How often numbers stand in lists.
use Rattle.std.proofs.Common.{◌≡◌, ◌≢◌, ℕ, zero, suc, ◌+◌, ◌<◌, ◌≤◌, ◌==◌, cond, List, [], ◌∷◌, ◌++◌, length, get_or, Bool, true, false, arith, refl, sym, ◌∙◌, ap, inl, inr, ◌⊎◌, true≢false, eq-eqb, ne_eqb}
use Rattle.std.specs.List.{filter, range_with_len}
use Rattle.std.proofs.lemmas.Bool.{cases_eq, cases_Bool}
use Rattle.elk_layers.specs.Sweeps.{insert_by, sorted_by}
use Rattle.elk_layers.specs.Occurring.{occurs, HasNoRepeat}

pub occurs-append : (n : ℕ) (xs ys : List ℕ) → occurs n (xs ++ ys) ≡ occurs n xs + occurs n ys
occurs-append n [] ys = omega arith
occurs-append n (x ∷ xs) ys = let h = occurs-append n xs ys in omega (arith, h)

pub occurs_first : (n : ℕ) (xs : List ℕ) → 1 ≤ occurs n (n ∷ xs)
occurs_first n xs = rw (eq-eqb n n refl) (omega arith)

pub occurs_filter : (test : ℕ → Bool) (xs : List ℕ) (m : ℕ) → test m ≡ false → occurs m (filter test xs) ≡ 0
occurs_filter test [] m f = refl
occurs_filter test (x ∷ xs) m f = elim (cases_Bool (test x)) [
  | inl t ↦
      let h = occurs_filter test xs m f in
      let ne : x == m ≡ false = ne_eqb x m (λ e. true≢false (sym t ∙ ap test e ∙ f)) in
      rw (t, ne, h) refl
  | inr g ↦ rw g (occurs_filter test xs m f)
]

pub occurs_at : (xs : List ℕ) (i : ℕ) → i < length xs → 1 ≤ occurs (get_or xs i 0) xs
occurs_at [] i l = absurd (omega (arith, l))
occurs_at (x ∷ xs) zero l = occurs_first x xs
occurs_at (x ∷ xs) (suc i) l = let h = occurs_at xs i (omega (arith, l)) in omega (arith, h)

pub occurs_none : (xs : List ℕ) (n : ℕ) → ((i : ℕ) → i < length xs → get_or xs i 0 ≢ n) → occurs n xs ≡ 0
occurs_none [] n h = refl
occurs_none (x ∷ xs) n h =
    let rest = occurs_none xs n (λ i l. h (suc i) (omega (arith, l))) in
    rw (ne_eqb x n (h 0 (omega arith)), rest) refl

pub no_repeat_from : (xs : List ℕ) → ((i j : ℕ) → i < j → j < length xs → get_or xs i 0 ≢ get_or xs j 0) → HasNoRepeat xs
no_repeat_from [] h n = omega arith
no_repeat_from (x ∷ xs) h n = elim (cases_eq x n) [
  | inl e ↦
      let none = occurs_none xs n (λ i l f. h 0 (suc i) (omega arith) (omega (arith, l)) (e ∙ sym f)) in
      rw (eq-eqb x n e, none) (omega arith)
  | inr ne ↦
      let rest = no_repeat_from xs (λ i j l k. h (suc i) (suc j) (omega (arith, l)) (omega (arith, k))) n in
      rw (ne_eqb x n ne) (omega (arith, rest))
]

pub occurs_insert : (le : ℕ → ℕ → Bool) (u : ℕ) (vs : List ℕ) (n : ℕ) → occurs n (insert_by le u vs) ≡ occurs n (u ∷ vs)
occurs_insert le u [] n = refl
occurs_insert le u (v ∷ vs) n = elim (cases_Bool (le u v)) [
  | inl t ↦ rw t refl
  | inr f ↦ let h = occurs_insert le u vs n in rw f (omega (arith, h))
]

pub occurs_sorted : (le : ℕ → ℕ → Bool) (us : List ℕ) (n : ℕ) → occurs n (sorted_by le us) ≡ occurs n us
occurs_sorted le [] n = refl
occurs_sorted le (u ∷ us) n =
    let a = occurs_insert le u (sorted_by le us) n in
    let b = occurs_sorted le us n in
    omega (arith, a, b)

pub occurs_range : (a m n : ℕ) → 1 ≤ occurs n (range_with_len a m) → n < a + m
occurs_range a zero n h = absurd (omega (arith, h))
occurs_range a (suc m) n h = elim (cases_eq a n) [
  | inl e ↦ omega (arith, e)
  | inr ne ↦
      let k : 1 ≤ cond (a == n) 1 0 + occurs n (range_with_len (a + 1) m) = h in
      let q = rw (ne_eqb a n ne) at k in
      let r = occurs_range (a + 1) m n (omega (arith, q)) in
      omega (arith, r)
]

pub occurs_passes : (test : ℕ → Bool) (xs : List ℕ) (n : ℕ) → 1 ≤ occurs n (filter test xs) → test n ≡ true
occurs_passes test xs n h = elim (cases_Bool (test n)) [
  | inl t ↦ t
  | inr f ↦ let none = occurs_filter test xs n f in absurd (omega (arith, h, none))
]

pub occurs_among : (test : ℕ → Bool) (xs : List ℕ) (n : ℕ) → occurs n (filter test xs) ≤ occurs n xs
occurs_among test [] n = omega arith
occurs_among test (x ∷ xs) n = let h = occurs_among test xs n in elim (cases_Bool (test x)) [
  | inl t ↦ rw t (omega (arith, h))
  | inr f ↦ rw f (omega (arith, h))
]

pub occurs_two : (a b n : ℕ) → 1 ≤ occurs n (a ∷ b ∷ []) → (n ≡ a) ⊎ (n ≡ b)
occurs_two a b n h = elim (cases_eq a n) [
  | inl e ↦ inl (sym e)
  | inr na ↦ elim (cases_eq b n) [
    | inl e ↦ inr (sym e)
    | inr nb ↦
        let k : 1 ≤ cond (a == n) 1 0 + (cond (b == n) 1 0 + 0) = h in
        let q = rw (ne_eqb a n na, ne_eqb b n nb) at k in
        absurd (omega (arith, q))
  ]
]

abbrev pub count_below : ℕ → List ℕ → ℕ
count_below zero xs = 0
count_below (suc n) xs = count_below n xs + occurs n xs

pub count_grows : (n x : ℕ) (xs : List ℕ) → count_below n xs ≤ count_below n (x ∷ xs)
count_grows zero x xs = omega arith
count_grows (suc n) x xs = let h = count_grows n x xs in omega (arith, h)

pub count_gains : (n x : ℕ) (xs : List ℕ) → x < n → count_below n xs + 1 ≤ count_below n (x ∷ xs)
count_gains zero x xs h = absurd (omega (arith, h))
count_gains (suc n) x xs h = elim (cases_eq x n) [
  | inl e ↦ let g = count_grows n x xs in rw (eq-eqb x n e) (omega (arith, g))
  | inr ne ↦ let g = count_gains n x xs (omega (arith, h, ne)) in omega (arith, g)
]

pub count_all : (n : ℕ) (xs : List ℕ) → ((m : ℕ) → 1 ≤ occurs m xs → m < n) → length xs ≤ count_below n xs
count_all n [] h = omega arith
count_all n (x ∷ xs) h =
    let rest = count_all n xs (λ m k. h m (omega (arith, k))) in
    let one = count_gains n x xs (h x (occurs_first x xs)) in
    omega (arith, rest, one)

pub count_few : (n : ℕ) (xs : List ℕ) → HasNoRepeat xs → count_below n xs ≤ n
count_few zero xs once = omega arith
count_few (suc n) xs once = let h = count_few n xs once in let o = once n in omega (arith, h, o)

pub length_below : (n : ℕ) (xs : List ℕ) → HasNoRepeat xs → ((m : ℕ) → 1 ≤ occurs m xs → m < n) → length xs ≤ n
length_below n xs once below = let a = count_all n xs below in let b = count_few n xs once in omega (arith, a, b)
