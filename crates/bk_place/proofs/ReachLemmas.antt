-- How far the first pins reach, and windows of sorted lists.
use Rattle.std.proofs.Common.{◌≡◌, ℕ, zero, suc, ◌+◌, ◌-◌, ◌<◌, ◌≤◌, nat_lt, List, [], ◌∷◌, length, get_or, take, drop, Bool, true, false, arith, refl, sym, ◌∙◌, ap, subst, inl, inr, ◌⊎◌, ⊎_elim, lt-ltb, le-ltb}
use Rattle.std.proofs.lemmas.Bool.{cases_lt}
use Rattle.std.specs.List.{filter, list_any}
use Rattle.std.proofs.lemmas.List.Elements.{All-from_get_or}
use Rattle.std.proofs.lemmas.List.Folds.{list_any_at, list_any_none}
use Rattle.bk_place.specs.declared.reaching.LinkEnd.{LinkEnd}
use Rattle.bk_place.specs.Marks.{pin_at, overtakes, IsHighest}

pub highest_start : (pins : List LinkEnd) → IsHighest pins 0 0
highest_start pins = record { above = λ j h. absurd (omega (arith, h)); reached = inl refl }

pub highest_more : (pins : List LinkEnd) (i top top' : ℕ) → IsHighest pins i top → top ≤ top' → (pin_at pins i).finish ≤ top' → (top' ≡ top) ⊎ (top' ≡ (pin_at pins i).finish) → IsHighest pins (i + 1) top'
highest_more pins i top top' h low here one =
    record {
      above = λ j less. elim (cases_lt j i) [
        | inl l ↦ let a = h.above j l in omega (arith, a, low)
        | inr g ↦ let e : j ≡ i = omega (arith, less, g) in subst (λ k. (pin_at pins k).finish ≤ top') (sym e) here
      ];
      reached = ⊎_elim
          (λ e. ⊎_elim (λ z. inl (e ∙ z)) (λ (p : (j : ℕ) × (j < i) × ((pin_at pins j).finish ≡ top)). inr (p.0, (let q = p.1 in omega (arith, q)), p.2 ∙ sym e)) h.reached)
          (λ e. inr (i, omega arith, sym e)) one;
    }

-- a pin begins before another and ends behind it exactly where the pins that begin before it reach further
pub overtaken_is : (pins : List LinkEnd) (pin : LinkEnd) (before top : ℕ) → before ≤ length pins → IsHighest pins before top
    → ((j : ℕ) → j < before → (pin_at pins j).start < pin.start) → ((j : ℕ) → before ≤ j → j < length pins → pin.start ≤ (pin_at pins j).start)
    → nat_lt pin.finish top ≡ list_any (λ other. overtakes other pin) pins
overtaken_is pins pin before top bound h low high = elim (cases_lt pin.finish top) [
  | inl l ↦ ⊎_elim
      (λ z. absurd (omega (arith, l, z)))
      (λ (p : (j : ℕ) × (j < before) × ((pin_at pins j).finish ≡ top)).
      let q = p.1 in
      let r = p.2 in
      lt-ltb pin.finish top l
      ∙ sym (list_any_at (λ other. overtakes other pin) pins p.0 (record { start = 0; finish = 0 }) (omega (arith, q, bound))
      (rw (lt-ltb (pin_at pins p.0).start pin.start (low p.0 p.1), lt-ltb pin.finish (pin_at pins p.0).finish (omega (arith, l, r))) refl)))
      h.reached
  | inr g ↦
      le-ltb pin.finish top g
      ∙ sym (list_any_none (λ other. overtakes other pin) pins
      (All-from_get_or (λ other. overtakes other pin ≡ false) pins (record { start = 0; finish = 0 })
      (λ j hj. elim (cases_lt j before) [
        | inl l ↦ let a = h.above j l in rw (lt-ltb (pin_at pins j).start pin.start (low j l), le-ltb pin.finish (pin_at pins j).finish (omega (arith, a, g))) refl
        | inr k ↦ rw (le-ltb (pin_at pins j).start pin.start (high j k hj)) refl
      ])))
]

-- the elements that pass, where they stand together
pub filter_window : {X : Type 0} (test : X → Bool) (d : X) (xs : List X) (from to : ℕ) → from ≤ to → to ≤ length xs
    → ((j : ℕ) → j < from → test (get_or xs j d) ≡ false) → ((j : ℕ) → from ≤ j → j < to → test (get_or xs j d) ≡ true) → ((j : ℕ) → to ≤ j → j < length xs → test (get_or xs j d) ≡ false)
    → filter test xs ≡ take (to - from) (drop from xs)
filter_window test d [] zero zero h k a b c = refl
filter_window test d [] zero (suc to) h k a b c = absurd (omega (arith, k))
filter_window test d [] (suc from) zero h k a b c = absurd (omega (arith, h))
filter_window test d [] (suc from) (suc to) h k a b c = absurd (omega (arith, k))
filter_window test d (x ∷ xs) (suc from) (suc to) h k a b c =
    let first : test x ≡ false = a 0 (omega arith) in
    let rest = filter_window test d xs from to (omega (arith, h)) (omega (arith, k)) (λ j l. a (suc j) (omega (arith, l))) (λ j l m. b (suc j) (omega (arith, l)) (omega (arith, m))) (λ j l m. c (suc j) (omega (arith, l)) (omega (arith, m))) in
    let n : suc to - suc from ≡ to - from = omega arith in
    rw (first, n) rest
filter_window test d (x ∷ xs) (suc from) zero h k a b c = absurd (omega (arith, h))
filter_window test d (x ∷ xs) zero (suc to) h k a b c =
    let first : test x ≡ true = b 0 (omega arith) (omega arith) in
    let rest = filter_window test d xs zero to (omega arith) (omega (arith, k)) (λ j l. absurd (omega (arith, l))) (λ j l m. b (suc j) (omega arith) (omega (arith, m))) (λ j l m. c (suc j) (omega (arith, l)) (omega (arith, m))) in
    let n : suc to - 0 ≡ suc to = omega arith in
    let m : to - 0 ≡ to = omega arith in
    rw (first, n) (ap (λ ys. x ∷ ys) (rw m at rest))
filter_window test d (x ∷ xs) zero zero h k a b c =
    let first : test x ≡ false = c 0 (omega arith) (omega arith) in
    let rest = filter_window test d xs zero zero (omega arith) (omega arith) (λ j l. absurd (omega (arith, l))) (λ j l m. absurd (omega (arith, m))) (λ j l m. c (suc j) (omega arith) (omega (arith, m))) in
    rw first rest
