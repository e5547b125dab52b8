use Rattle.std.proofs.Common.{◌≡◌, ℕ, zero, suc, ◌+◌, ◌-◌, ◌*◌, ◌<◌, ◌≤◌, ◌^◌, ◌%◌, ℤ, pos, ◌≤ℤ◌, List, [], ◌∷◌, length, get_or, map, replicate, cond, take, drop, Bool, true, false, ◌&&◌, ◌⊎◌, ◌↔◌, not, eqb, IsTrue, ◌∙◌, refl, arith, inl, inr, w64, rules}
use lib.Dec.{T}
use lib.Signed.{le_z}
use lib.Lanes.{mask_l, zip2, top}
use mir.Val.{of_z, SFits}
use borrow.Rule.Simd.Lanes.{act2}
use Rattle.std.proofs.lemmas.Int.{to_z-of_z}
use Rattle.std.proofs.lemmas.Simd.{mask_l-mod, length-zip2}
use Rattle.std.proofs.lemmas.Bool.{cases_lt}
use Rattle.std.proofs.lemmas.List.{get_or-take, get_or-drop, length-take, length-drop, get_or_past}
use Rattle.lane_count.specs.Meets.{Meets, AllFit, NoneMeets}

abbrev pub both : ℤ → ℤ → ℤ → ℤ → Bool
both a b x y = le_z x b && le_z a y

step : (p q : Bool) (m : ℕ) → (cond (p && q) 1 0 + 2 * m ≡ 0 → ⊥) → (T p × T q) ⊎ (m ≡ 0 → ⊥)
step true true m h = inl (tt, tt)
step true false m h = inr (λ e. h (omega arith))
step false q m h = inr (λ e. h (omega arith))

back : (p q : Bool) (m : ℕ) → T p → T q → cond (p && q) 1 0 + 2 * m ≡ 0 → ⊥
back true true m s t e = omega arith
back true false m s t e = absurd t
back false q m s t e = absurd s

pub meets_from_mask : (a b : ℤ) (lo hi : List ℤ) → length lo ≡ length hi → (mask_l (zip2 (both a b) lo hi) ≡ 0 → ⊥) → Meets lo hi a b
meets_from_mask a b [] hi l h = absurd (h refl)
meets_from_mask a b (x ∷ xs) [] l h = absurd (omega arith)
meets_from_mask a b (x ∷ xs) (y ∷ ys) l h =
    elim (step (le_z x b) (le_z a y) (mask_l (zip2 (both a b) xs ys)) h) [
      | inl s ↦ (0, omega arith, record { le = s.0 }, record { le = s.1 })
      | inr n ↦ let m = meets_from_mask a b xs ys (omega arith) n in (suc m.0, omega (arith, m.1), m.2, m.3)
    ]

pub mask_from_place : (a b : ℤ) (lo hi : List ℤ) → length lo ≡ length hi → (i : ℕ) → i < length lo → get_or lo i (pos 0) ≤ℤ b → a ≤ℤ get_or hi i (pos 0) → mask_l (zip2 (both a b) lo hi) ≡ 0 → ⊥
mask_from_place a b [] hi l i h s t e = omega arith
mask_from_place a b (x ∷ xs) [] l i h s t e = omega arith
mask_from_place a b (x ∷ xs) (y ∷ ys) l zero h s t e = back (le_z x b) (le_z a y) (mask_l (zip2 (both a b) xs ys)) s.le t.le e
mask_from_place a b (x ∷ xs) (y ∷ ys) l (suc i) h s t e = mask_from_place a b xs ys (omega arith) i (omega arith) s t (omega arith)

bits_of : (p q : Bool) → top 63 (lib.Bits.bit_and (cond p (2 ^ 64 - 1) 0) (cond q (2 ^ 64 - 1) 0)) ≡ p && q
bits_of true true = refl
bits_of true false = refl
bits_of false true = refl
bits_of false false = refl

not_zero : (m : ℕ) → IsTrue (not (eqb m 0)) → m ≡ 0 → ⊥
not_zero m t e = grind (arith, t, e)

is_not_zero : (m : ℕ) → (m ≡ 0 → ⊥) → IsTrue (not (eqb m 0))
is_not_zero m h = grind (arith, h)

abbrev pub le_lanes : List ℕ → List ℕ → List ℕ
le_lanes = zip2 (act2 (mir.Syntax.mask (mir.Syntax.le mir.Syntax.signed)) (borrow.Table.Row.s_int w64) (borrow.Table.Row.s_int w64) (borrow.Table.Row.s_int w64))

abbrev pub and_lanes : List ℕ → List ℕ → List ℕ
and_lanes = zip2 (act2 mir.Syntax.bit_and (borrow.Table.Row.s_int w64) (borrow.Table.Row.s_int w64) (borrow.Table.Row.s_int w64))

tail_fits : (x : ℤ) (xs : List ℤ) → AllFit (x ∷ xs) → AllFit xs
tail_fits x xs f i = f (suc i)

pub lanes_meet : (a b : ℤ) (n : ℕ) (lo hi : List ℤ) → SFits w64 a → SFits w64 b → AllFit lo → AllFit hi → length lo ≡ n → length hi ≡ n → map (top 63) (and_lanes (le_lanes (map (of_z w64) lo) (replicate n (of_z w64 b))) (le_lanes (replicate n (of_z w64 a)) (map (of_z w64) hi))) ≡ zip2 (both a b) lo hi
lanes_meet a b zero [] hi fa fb fl fh l h = refl
lanes_meet a b zero (x ∷ xs) hi fa fb fl fh l h = absurd (omega arith)
lanes_meet a b (suc n) [] hi fa fb fl fh l h = absurd (omega arith)
lanes_meet a b (suc n) (x ∷ xs) [] fa fb fl fh l h = absurd (omega arith)
lanes_meet a b (suc n) (x ∷ xs) (y ∷ ys) fa fb fl fh l h =
    let rest = lanes_meet a b n xs ys fa fb (tail_fits x xs fl) (tail_fits y ys fh) (omega arith) (omega arith) in
    let fx : SFits w64 x = fl 0 in
    let fy : SFits w64 y = fh 0 in
    rw (to_z-of_z w64 x fx, to_z-of_z w64 b fb, to_z-of_z w64 a fa, to_z-of_z w64 y fy, bits_of (le_z x b) (le_z a y), rest) refl

pub meets_answer : (a b : ℤ) (n : ℕ) (lo hi : List ℤ) → SFits w64 a → SFits w64 b → AllFit lo → AllFit hi → length lo ≡ n → length hi ≡ n → n ≤ 64 → IsTrue (not (eqb (mask_l (map (top 63) (and_lanes (le_lanes (map (of_z w64) lo) (replicate n (of_z w64 b))) (le_lanes (replicate n (of_z w64 a)) (map (of_z w64) hi)))) % 2 ^ 64) 0)) ↔ Meets lo hi a b
meets_answer a b n lo hi fa fb fl fh l h small =
    let same : length lo ≡ length hi = omega arith in
    let short : length (zip2 (both a b) lo hi) ≤ 64 = rw (length-zip2 (both a b) lo hi same, l) small in
    rw (lanes_meet a b n lo hi fa fb fl fh l h, mask_l-mod (zip2 (both a b) lo hi) 64 short) (
      λ t. meets_from_mask a b lo hi same (λ e. not_zero (mask_l (zip2 (both a b) lo hi)) t e),
      λ m. is_not_zero (mask_l (zip2 (both a b) lo hi)) (mask_from_place a b lo hi same m.0 m.1 m.2 m.3),
    )

part_at : (at i : ℕ) (xs : List ℤ) → i < 8 → get_or (take 8 (drop at xs)) i (pos 0) ≡ get_or xs (at + i) (pos 0)
part_at at i xs h = get_or-take 8 (drop at xs) i (pos 0) h ∙ get_or-drop at xs i (pos 0)

part_len : (at : ℕ) (xs : List ℤ) → at + 8 ≤ length xs → length (take 8 (drop at xs)) ≡ 8
part_len at xs l = omega (arith, length-take 8 (drop at xs), length-drop at xs)

zero_fits : SFits w64 (pos 0)
zero_fits = search rules

pub fits_part : (at : ℕ) (xs : List ℤ) → AllFit xs → AllFit (take 8 (drop at xs))
fits_part at xs f i =
    elim (cases_lt i 8) [
      | inl l ↦ rw (part_at at i xs l) (f (at + i))
      | inr g ↦ rw (get_or_past (take 8 (drop at xs)) i (pos 0) (omega (arith, length-take 8 (drop at xs)))) zero_fits
    ]

pub meets_part : (a b : ℤ) (lo hi : List ℤ) (at : ℕ) → at + 8 ≤ length lo → Meets (take 8 (drop at lo)) (take 8 (drop at hi)) a b → Meets lo hi a b
meets_part a b lo hi at l m =
    let h : m.0 < 8 = omega (arith, m.1, part_len at lo l) in
    (at + m.0, omega arith, rw (part_at at m.0 lo h) at m.2, rw (part_at at m.0 hi h) at m.3)

pub none_more : (a b : ℤ) (lo hi : List ℤ) (at : ℕ) → at + 8 ≤ length lo → (Meets (take 8 (drop at lo)) (take 8 (drop at hi)) a b → ⊥) → NoneMeets lo hi a b at → NoneMeets lo hi a b (at + 8)
none_more a b lo hi at l m none i h s t =
    elim (cases_lt i at) [
      | inl k ↦ none i k s t
      | inr g ↦
          let e : i ≡ at + (i - at) = omega arith in
          let lt : i - at < 8 = omega arith in
          m (i - at, omega (arith, part_len at lo l), rw (part_at at (i - at) lo lt, ← e) s, rw (part_at at (i - at) hi lt, ← e) t)
    ]

pub meets_rest : (a b : ℤ) (lo hi : List ℤ) (at : ℕ) → Meets (drop at lo) (drop at hi) a b → Meets lo hi a b
meets_rest a b lo hi at m =
    (at + m.0, omega (arith, m.1, length-drop at lo), rw (← get_or-drop at lo m.0 (pos 0)) m.2, rw (← get_or-drop at hi m.0 (pos 0)) m.3)

pub rest_meets : (a b : ℤ) (lo hi : List ℤ) (at : ℕ) → NoneMeets lo hi a b at → Meets lo hi a b → Meets (drop at lo) (drop at hi) a b
rest_meets a b lo hi at none m =
    elim (cases_lt m.0 at) [
      | inl k ↦ absurd (none m.0 k m.2 m.3)
      | inr g ↦
          let e : m.0 ≡ at + (m.0 - at) = omega arith in
          (m.0 - at, omega (arith, m.1, length-drop at lo), rw (get_or-drop at lo (m.0 - at) (pos 0), ← e) m.2, rw (get_or-drop at hi (m.0 - at) (pos 0), ← e) m.3)
    ]
