-- Lists of numbers in ascending order of a weight: there is one at most.
use Rattle.std.proofs.Common.{◌≡◌, ◌≢◌, ℕ, zero, suc, ◌+◌, ◌*◌, ◌<◌, ◌≤◌, ◌^◌, ◌==◌, cond, nat_le, List, [], ◌∷◌, length, get_or, Bool, true, false, arith, refl, sym, ◌∙◌, ap, subst, inl, inr, ◌⊎◌, ⊎_elim, eq-eqb, ne_eqb, le-leb, true≢false}
use Rattle.std.proofs.lemmas.Bool.{cases_eq, cases_lt, cases_Bool, lt-leb}
use Rattle.std.specs.List.{filter, range_with_len, count_by}
use Rattle.std.specs.List.Sorted.{IsPermutation}
use Rattle.std.specs.Prelude.{⊤}
use Rattle.std.proofs.lemmas.List.Sorted.{sum_by-IsPermutation}
use Rattle.std.proofs.lemmas.List.Sums.{sum_by-cons}
use Rattle.elk_layers.specs.Layered.{place_in}
use Rattle.elk_layers.specs.Sweeps.{insert_by, sorted_by}
use Rattle.elk_layers.proofs.PlaceLemmas.{place_below, place_reads}
use Rattle.elk_layers.specs.Occurring.{occurs, HasNoRepeat}
use Rattle.elk_layers.proofs.OccursLemmas.{occurs_first, occurs_filter, occurs_among, occurs_insert, occurs_sorted}

-- each element weighs less than all after it
abbrev pub Ascends : (ℕ → ℕ) → List ℕ → Type 0
Ascends w [] = ⊤
Ascends w (x ∷ xs) = ((n : ℕ) → 1 ≤ occurs n xs → w x < w n) × Ascends w xs

there : (x : ℕ) (xs : List ℕ) (n : ℕ) → 1 ≤ occurs n (x ∷ xs) → (x ≡ n) ⊎ (1 ≤ occurs n xs)
there x xs n h = elim (cases_eq x n) [
  | inl e ↦ inl e
  | inr ne ↦
      let k : 1 ≤ cond (x == n) 1 0 + occurs n xs = h in
      let q = rw (ne_eqb x n ne) at k in
      inr (omega (arith, q))
]

occurs_count : (n : ℕ) (xs : List ℕ) → occurs n xs ≡ count_by (λ m. m == n) xs
occurs_count n [] = refl
occurs_count n (x ∷ xs) = let h = occurs_count n xs in rw (sum_by-cons (λ (m : ℕ). cond (m == n) 1 0) x xs) (omega (arith, h))

pub occurs_permuted : (n : ℕ) (xs ys : List ℕ) → IsPermutation xs ys → occurs n ys ≡ occurs n xs
occurs_permuted n xs ys p = occurs_count n ys ∙ sum_by-IsPermutation (λ (m : ℕ). cond (m == n) 1 0) xs ys p ∙ sym (occurs_count n xs)

-- how often a number stands in a filtered list
pub occurs_kept : (test : ℕ → Bool) (xs : List ℕ) (n : ℕ) → occurs n (filter test xs) ≡ cond (test n) (occurs n xs) 0
occurs_kept test xs n = elim (cases_Bool (test n)) [
  | inl t ↦ rw t (all xs t)
  | inr f ↦ rw f (occurs_filter test xs n f)
]
  where
    all : (xs : List ℕ) → test n ≡ true → occurs n (filter test xs) ≡ occurs n xs
    all [] t = refl
    all (x ∷ xs) t = let h = all xs t in elim (cases_Bool (test x)) [
      | inl k ↦ rw k (omega (arith, h))
      | inr f ↦
          let ne : x ≢ n = λ e. let bad : test n ≡ false = ap test (sym e) ∙ f in true≢false (sym t ∙ bad) in
          rw (f, ne_eqb x n ne) (omega (arith, h))
    ]

pub ascends_unique : (w : ℕ → ℕ) (xs ys : List ℕ) → Ascends w xs → Ascends w ys → ((n : ℕ) → occurs n xs ≡ occurs n ys) → xs ≡ ys
ascends_unique w [] [] a b same = refl
ascends_unique w [] (y ∷ ys) a b same = let e = same y in let h = occurs_first y ys in absurd (omega (arith, e, h))
ascends_unique w (x ∷ xs) [] a b same = let e = same x in let h = occurs_first x xs in absurd (omega (arith, e, h))
ascends_unique w (x ∷ xs) (y ∷ ys) a b same = elim (cases_eq x y) [
  | inl e ↦
      let rest = ascends_unique w xs ys a.1 b.1 (λ n. let s : cond (x == n) 1 0 + occurs n xs ≡ cond (y == n) 1 0 + occurs n ys = same n in let t : cond (x == n) 1 0 ≡ cond (y == n) 1 0 = ap (λ m. cond (m == n) (suc 0) 0) e in omega (arith, s, t)) in
      ap (λ m. m ∷ xs) e ∙ ap (λ zs. y ∷ zs) rest
  | inr ne ↦
      let hx = occurs_first x xs in
      let hy = occurs_first y ys in
      let sx = same x in
      let sy = same y in
      let in_ys = there y ys x (omega (arith, hx, sx)) in
      let in_xs = there x xs y (omega (arith, hy, sy)) in
      absurd (⊎_elim (λ e. ne (sym e)) (λ p. ⊎_elim ne (λ q. let c = b.0 x p in let d = a.0 y q in omega (arith, c, d)) in_xs) in_ys)
]

pub ascends_filter : (w : ℕ → ℕ) (test : ℕ → Bool) (xs : List ℕ) → Ascends w xs → Ascends w (filter test xs)
ascends_filter w test [] a = tt
ascends_filter w test (x ∷ xs) a = elim (cases_Bool (test x)) [
  | inl t ↦ rw t (λ n h. a.0 n (let few = occurs_among test xs n in omega (arith, h, few)), ascends_filter w test xs a.1)
  | inr f ↦ rw f (ascends_filter w test xs a.1)
]

-- another weight that orders the elements alike
pub ascends_other : (w v : ℕ → ℕ) (xs : List ℕ) → ((m n : ℕ) → 1 ≤ occurs m xs → 1 ≤ occurs n xs → w m < w n → v m < v n) → Ascends w xs → Ascends v xs
ascends_other w v [] h a = tt
ascends_other w v (x ∷ xs) h a = (
  λ n k. h x n (occurs_first x xs) (omega (arith, k)) (a.0 n k),
  ascends_other w v xs (λ m n p q. h m n (omega (arith, p)) (omega (arith, q))) a.1,
)

-- the weight of a number under a first key, ties by the number itself
abbrev pub weigh : (ℕ → ℕ) → ℕ → ℕ
weigh f k = f k * 2 ^ 32 + k

ascends_insert : (f : ℕ → ℕ) (u : ℕ) (vs : List ℕ) → u < 2 ^ 32 → ((n : ℕ) → 1 ≤ occurs n vs → u < n) → ((n : ℕ) → 1 ≤ occurs n vs → n < 2 ^ 32) → Ascends (weigh f) vs → Ascends (weigh f) (insert_by (λ j k. nat_le (f j) (f k)) u vs)
ascends_insert f u [] hu up small a = (λ n h. absurd (omega (arith, h)), tt)
ascends_insert f u (v ∷ vs) hu up small a = elim (cases_lt (f v) (f u)) [
  | inr le ↦
      let first : weigh f u < weigh f v = let less = up v (occurs_first v vs) in omega (arith, le, less) in
      rw (le-leb (f u) (f v) le) (λ n h. ⊎_elim (λ e. subst (λ m. weigh f u < weigh f m) e first) (λ q. let b = a.0 n q in omega (arith, first, b)) (there v vs n h), a)
  | inl lt ↦
      let first : weigh f v < weigh f u = let s = small v (occurs_first v vs) in omega (arith, lt, s, hu) in
      let rest = ascends_insert f u vs hu (λ n h. up n (omega (arith, h))) (λ n h. small n (omega (arith, h))) a.1 in
      rw (lt-leb (f u) (f v) lt) (
        λ n h. let e = occurs_insert (λ j k. nat_le (f j) (f k)) u vs n in
            ⊎_elim (λ e. subst (λ m. weigh f v < weigh f m) e first) (λ q. a.0 n q) (there u vs n (omega (arith, e, h))),
        rest,
      )
]

pub ascends_sorted : (f : ℕ → ℕ) (us : List ℕ) → Ascends (λ k. k) us → ((n : ℕ) → 1 ≤ occurs n us → n < 2 ^ 32) → Ascends (weigh f) (sorted_by (λ j k. nat_le (f j) (f k)) us)
ascends_sorted f [] a small = tt
ascends_sorted f (u ∷ us) a small =
    ascends_insert f u (sorted_by (λ j k. nat_le (f j) (f k)) us) (small u (occurs_first u us))
    (λ n h. a.0 n (let e = occurs_sorted (λ j k. nat_le (f j) (f k)) us n in omega (arith, e, h)))
    (λ n h. small n (let e = occurs_sorted (λ j k. nat_le (f j) (f k)) us n in omega (arith, e, h)))
    (ascends_sorted f us a.1 (λ n h. small n (omega (arith, h))))

pub range_ascends : (a m : ℕ) → Ascends (λ k. k) (range_with_len a m)
range_ascends a zero = tt
range_ascends a (suc m) = (λ n h. let low = above (a + 1) m n h in omega (arith, low), range_ascends (a + 1) m)
  where
    above : (a m n : ℕ) → 1 ≤ occurs n (range_with_len a m) → a ≤ n
    above a zero n h = absurd (omega (arith, h))
    above a (suc m) n h = ⊎_elim (λ e. omega (arith, e)) (λ q. let low = above (a + 1) m n q in omega (arith, low)) (there a (range_with_len (a + 1) m) n h)

pub range_once : (a m n : ℕ) → occurs n (range_with_len a m) ≤ 1
range_once a m n = once (range_with_len a m) (range_ascends a m) n
  where
    once : (xs : List ℕ) → Ascends (λ k. k) xs → (n : ℕ) → occurs n xs ≤ 1
    once [] a n = omega arith
    once (x ∷ xs) a n = let rest = once xs a.1 n in elim (cases_eq x n) [
      | inr ne ↦ rw (ne_eqb x n ne) (omega (arith, rest))
      | inl e ↦ elim (cases_lt 0 (occurs n xs)) [
        | inl some ↦ let bad = a.0 n (omega (arith, some)) in absurd (omega (arith, bad, e))
        | inr none ↦ rw (eq-eqb x n e) (omega (arith, none))
      ]
    ]

-- numbers that stand once, in non-descending order of a weight that differs for them
pub ascends_from : (w : ℕ → ℕ) (xs : List ℕ) → HasNoRepeat xs → ((m n : ℕ) → 1 ≤ occurs m xs → 1 ≤ occurs n xs → w m ≡ w n → m ≡ n) → ((i j : ℕ) → i ≤ j → j < length xs → w (get_or xs i 0) ≤ w (get_or xs j 0)) → Ascends w xs
ascends_from w [] once differ up = tt
ascends_from w (x ∷ xs) once differ up = (
  λ n h.
      let within = place_below n xs h in
      let reads = place_reads n xs h in
      let le : w x ≤ w n = subst (λ m. w x ≤ w m) reads (up 0 (suc (place_in xs n)) (omega arith) (omega (arith, within))) in
      elim (cases_lt (w x) (w n)) [
        | inl l ↦ l
        | inr g ↦
            let same = differ x n (occurs_first x xs) (omega (arith, h)) (omega (arith, le, g)) in
            let one : cond (x == n) 1 0 + occurs n xs ≤ 1 = once n in
            let q = rw (eq-eqb x n same) at one in
            absurd (omega (arith, q, h))
      ],
  ascends_from w xs (λ n. let o : cond (x == n) 1 0 + occurs n xs ≤ 1 = once n in omega (arith, o)) (λ m n p q. differ m n (omega (arith, p)) (omega (arith, q))) (λ i j l h. up (suc i) (suc j) (omega (arith, l)) (omega (arith, h))),
)
