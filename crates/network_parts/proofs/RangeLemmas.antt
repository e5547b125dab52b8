-- Numbers of a range that pass a test.
use Rattle.std.proofs.Common.{◌≡◌, ℕ, zero, suc, ◌+◌, ◌-◌, ◌<◌, ◌≤◌, cond, Bool, true, false, List, [], ◌∷◌, ◌++◌, length, map, get_or, arith, refl, sym, ap, inl, inr, ◌∙◌, add-zero, append-nil}
use Rattle.std.specs.List.{filter, range_with_len}
use Rattle.std.proofs.lemmas.Bool.{cases_eq, cases_Bool}
use Rattle.std.proofs.lemmas.List.{get_or-map, get_or_append_left, get_or_push, length-map, length_push, same_lists}
use Rattle.std.proofs.lemmas.List.Elements.{filter-append}

pub range_more : (a n : ℕ) → range_with_len a (n + 1) ≡ range_with_len a n ++ (a + n) ∷ []
range_more a zero = rw (add-zero a) refl
range_more a (suc n) =
    let e : suc n + 1 ≡ suc (n + 1) = omega arith in
    let h = range_more (a + 1) n in
    let s : a + 1 + n ≡ a + suc n = omega arith in
    rw (e, h, s) refl

pub range_next : (n : ℕ) → range_with_len 0 (suc n) ≡ range_with_len 0 n ++ n ∷ []
range_next n =
    let e : suc n ≡ n + 1 = omega arith in
    let z : 0 + n ≡ n = omega arith in
    ap (range_with_len 0) e ∙ range_more 0 n ∙ ap (λ k. range_with_len 0 n ++ k ∷ []) z

pub filter_next : (test : ℕ → Bool) (n : ℕ) → filter test (range_with_len 0 (suc n)) ≡ filter test (range_with_len 0 n) ++ cond (test n) (n ∷ []) []
filter_next test n = ap (filter test) (range_next n) ∙ filter-append test (range_with_len 0 n) (n ∷ [])

filter_more : (test : ℕ → Bool) (n : ℕ) → filter test (range_with_len 0 (n + 1)) ≡ filter test (range_with_len 0 n) ++ cond (test n) (n ∷ []) []
filter_more test n = let e : n + 1 ≡ suc n = omega arith in ap (λ m. filter test (range_with_len 0 m)) e ∙ filter_next test n

pub filter_yes : (test : ℕ → Bool) (n : ℕ) → test n ≡ true → filter test (range_with_len 0 (n + 1)) ≡ filter test (range_with_len 0 n) ++ n ∷ []
filter_yes test n h = filter_more test n ∙ ap (λ b. filter test (range_with_len 0 n) ++ cond b (n ∷ []) []) h

pub filter_no : (test : ℕ → Bool) (n : ℕ) → test n ≡ false → filter test (range_with_len 0 (n + 1)) ≡ filter test (range_with_len 0 n)
filter_no test n h = filter_more test n ∙ ap (λ b. filter test (range_with_len 0 n) ++ cond b (n ∷ []) []) h ∙ append-nil (filter test (range_with_len 0 n))

-- ---- the number at a place of the list

-- a number of the range that passes the test
abbrev pub IsPick : (ℕ → Bool) → ℕ → ℕ → ℕ → Type 0
IsPick test a n e = (a ≤ e) × (e < a + n) × (test e ≡ true)

picked : (test : ℕ → Bool) (a n k : ℕ) (b : Bool) → test a ≡ b
    → ((j : ℕ) → j < length (filter test (range_with_len (a + 1) n)) → IsPick test (a + 1) n (get_or (filter test (range_with_len (a + 1) n)) j 0))
    → k < length (cond b (a ∷ filter test (range_with_len (a + 1) n)) (filter test (range_with_len (a + 1) n)))
    → IsPick test a (suc n) (get_or (cond b (a ∷ filter test (range_with_len (a + 1) n)) (filter test (range_with_len (a + 1) n))) k 0)
picked test a n k false is rest h =
    let p = rest k h in
    let low = p.0 in
    let high = p.1 in
    (omega (arith, low), omega (arith, high), p.2)
picked test a n zero true is rest h = (omega arith, omega arith, is)
picked test a n (suc k) true is rest h =
    let p = rest k (omega (arith, h)) in
    let low = p.0 in
    let high = p.1 in
    (omega (arith, low), omega (arith, high), p.2)

pub pick : (test : ℕ → Bool) (a n k : ℕ) → k < length (filter test (range_with_len a n)) → IsPick test a n (get_or (filter test (range_with_len a n)) k 0)
pick test a zero k h = absurd (omega (arith, h))
pick test a (suc n) k h = picked test a n k (test a) refl (pick test (a + 1) n) h

filter_few : (test : ℕ → Bool) (a n : ℕ) → length (filter test (range_with_len a n)) ≤ n
filter_few test a zero = omega arith
filter_few test a (suc n) =
    let rest = filter_few test (a + 1) n in
    elim (cases_Bool (test a)) [
      | inl t ↦ rw t (omega (arith, rest))
      | inr f ↦ rw f (omega (arith, rest))
    ]

pub few_picked : (test : ℕ → Bool) (n : ℕ) → length (filter test (range_with_len 0 n)) ≤ n
few_picked test n = filter_few test 0 n

-- how many pass does not fall
few_fall : (test : ℕ → Bool) (n k : ℕ) → length (filter test (range_with_len 0 n)) ≤ length (filter test (range_with_len 0 (n + k)))
few_fall test n zero = let z : n + 0 ≡ n = omega arith in rw z (omega arith)
few_fall test n (suc k) =
    let rest = few_fall test n k in
    let z : n + suc k ≡ n + k + 1 = omega arith in
    rw z (
    elim (cases_Bool (test (n + k))) [
      | inl t ↦ rw (filter_yes test (n + k) t, length_push (filter test (range_with_len 0 (n + k))) (n + k)) (omega (arith, rest))
      | inr f ↦ rw (filter_no test (n + k) f) rest
    ]
    )

-- a number that passes counts
pub one_more : (test : ℕ → Bool) (n m : ℕ) → test n ≡ true → n < m → length (filter test (range_with_len 0 n)) < length (filter test (range_with_len 0 m))
one_more test n m t h =
    let here = ap length (filter_yes test n t) ∙ length_push (filter test (range_with_len 0 n)) n in
    let rest = few_fall test (n + 1) (m - (n + 1)) in
    let z : n + 1 + (m - (n + 1)) ≡ m = omega (arith, h) in
    let up = rw z at rest in
    omega (arith, here, up)

-- what two functions give of them, where both give the same
pub map_same : {Y : Type 0} (test : ℕ → Bool) (f g : ℕ → Y) (n : ℕ) → ((e : ℕ) → e < n → test e ≡ true → f e ≡ g e) → map f (filter test (range_with_len 0 n)) ≡ map g (filter test (range_with_len 0 n))
map_same test f g n same =
    let xs = filter test (range_with_len 0 n) in
    let long_f = length-map xs f in
    let long_g = length-map xs g in
    same_lists (map f xs) (map g xs) (long_f ∙ sym long_g)
    (λ k d h. let inside : k < length xs = omega (arith, h, long_f) in
    let high = (pick test 0 n k inside).1 in
    get_or-map f xs k 0 d inside ∙ same (get_or xs k 0) (omega (arith, high)) (pick test 0 n k inside).2 ∙ sym (get_or-map g xs k 0 d inside))

-- a number that passes stands at the place of how many before it pass
pub pick_at : (test : ℕ → Bool) (n v : ℕ) → v < n → test v ≡ true → get_or (filter test (range_with_len 0 n)) (length (filter test (range_with_len 0 v))) 0 ≡ v
pick_at test zero v h t = absurd (omega (arith, h))
pick_at test (suc n) v h t =
    ap (λ (xs : List ℕ). get_or xs (length (filter test (range_with_len 0 v))) 0) (filter_next test n)
    ∙ elim (cases_eq v n) [
      | inl same ↦
          ap (λ b. get_or (filter test (range_with_len 0 n) ++ cond b (n ∷ []) []) (length (filter test (range_with_len 0 v))) 0) (ap test (sym same) ∙ t)
          ∙ get_or_push (filter test (range_with_len 0 n)) n 0 (length (filter test (range_with_len 0 v))) (ap (λ m. length (filter test (range_with_len 0 m))) (sym same))
          ∙ sym same
      | inr other ↦
          let less : v < n = omega (arith, h, other) in
          get_or_append_left (filter test (range_with_len 0 n)) (cond (test n) (n ∷ []) []) 0 (length (filter test (range_with_len 0 v))) (one_more test v n t less) ∙ pick_at test n v less t
    ]

-- and there are as many before the number at a place
pub place_at : (test : ℕ → Bool) (n i : ℕ) → i < length (filter test (range_with_len 0 n)) → length (filter test (range_with_len 0 (get_or (filter test (range_with_len 0 n)) i 0))) ≡ i
place_at test zero i h = absurd (omega (arith, h))
place_at test (suc n) i h = step (place_at test n) (test n) refl
  where
    step : ((j : ℕ) → j < length (filter test (range_with_len 0 n)) → length (filter test (range_with_len 0 (get_or (filter test (range_with_len 0 n)) j 0))) ≡ j)
        → (b : Bool) → test n ≡ b → length (filter test (range_with_len 0 (get_or (filter test (range_with_len 0 (suc n))) i 0))) ≡ i
    step before true t =
        let next = filter_next test n ∙ ap (λ b. filter test (range_with_len 0 n) ++ cond b (n ∷ []) []) t in
        let long = ap length next ∙ length_push (filter test (range_with_len 0 n)) n in
        ap (λ (xs : List ℕ). length (filter test (range_with_len 0 (get_or xs i 0)))) next
        ∙ elim (cases_eq i (length (filter test (range_with_len 0 n)))) [
          | inl same ↦ ap (λ m. length (filter test (range_with_len 0 m))) (get_or_push (filter test (range_with_len 0 n)) n 0 i (sym same)) ∙ sym same
          | inr other ↦
              let less : i < length (filter test (range_with_len 0 n)) = omega (arith, h, long, other) in
              ap (λ m. length (filter test (range_with_len 0 m))) (get_or_append_left (filter test (range_with_len 0 n)) (n ∷ []) 0 i less) ∙ before i less
        ]
    step before false t =
        let next = filter_next test n ∙ ap (λ b. filter test (range_with_len 0 n) ++ cond b (n ∷ []) []) t ∙ append-nil (filter test (range_with_len 0 n)) in
        let long = ap length next in
        ap (λ (xs : List ℕ). length (filter test (range_with_len 0 (get_or xs i 0)))) next ∙ before i (omega (arith, h, long))
