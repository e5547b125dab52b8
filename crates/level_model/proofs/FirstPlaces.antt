-- The place of the first element that a test finds equal, and lists that hold nothing twice.
use Rattle.std.proofs.Common.{◌≡◌, inl, inr, ⊎_elim, ℕ, zero, suc, ◌+◌, ◌<◌, ◌≤◌, eqb, cond, Bool, true, false, not, List, [], ◌∷◌, length, get_or, refl, sym, subst, ap, ◌∙◌, arith}
use Rattle.std.proofs.lemmas.Bool.{ne_eqb, not_from_false, eq-eqb}
use Rattle.std.specs.List.{filter}
use Rattle.level_model.proofs.Lists.{Has, has_filter, filter_has, has_at, at_has}

-- `place` counts to the first element that equals one; equality is told by a test
module _ {X : Type 0} (eq : X → X → Bool) (same : (x y : X) → eq x y ≡ true → x ≡ y) (self : (x : X) → eq x x ≡ true) (place : List X → X → ℕ)
    (next : (x : X) (xs : List X) (y : X) → place (x ∷ xs) y ≡ cond (eq x y) 0 (1 + place xs y)) where
  not_first : (xs : List X) (x y : X) → eq x y ≡ false → Has (x ∷ xs) y → Has xs y
  not_first xs x y e h =
      ⊎_elim (λ (one : x ≡ y). absurd (let t : eq x y ≡ true = subst (λ z. eq x z ≡ true) one (self x) in let bad : true ≡ false = sym t ∙ e in cc)) (λ rest. rest) h

  pub place_within : (xs : List X) (y : X) → Has xs y → place xs y < length xs
  place_within [] y h = absurd h
  place_within (x ∷ xs) y h = rw (next x xs y) (step (eq x y) refl (place_within xs y))
    where
      step : (b : Bool) → eq x y ≡ b → (Has xs y → place xs y < length xs) → cond b 0 (1 + place xs y) < suc (length xs)
      step true e on = omega arith
      step false e on = let less = on (not_first xs x y e h) in omega (arith, less)

  pub place_holds : (xs : List X) (y d : X) → Has xs y → get_or xs (place xs y) d ≡ y
  place_holds [] y d h = absurd h
  place_holds (x ∷ xs) y d h = rw (next x xs y) (step (eq x y) refl (place_holds xs y d))
    where
      step : (b : Bool) → eq x y ≡ b → (Has xs y → get_or xs (place xs y) d ≡ y) → get_or (x ∷ xs) (cond b 0 (1 + place xs y)) d ≡ y
      step true e on = same x y e
      step false e on =
          let one : 1 + place xs y ≡ suc (place xs y) = omega arith in
          rw one (on (not_first xs x y e h))

  -- elements at one place are one
  pub one_place : (xs : List X) (x y : X) → Has xs x → Has xs y → place xs x ≡ place xs y → x ≡ y
  one_place xs x y hx hy e = sym (place_holds xs x x hx) ∙ ap (λ i. get_or xs i x) e ∙ place_holds xs y x hy

-- a list that holds nothing twice
abbrev pub Distinct : {X : Type 0} → List X → Type 0
Distinct [] = Unit {0}
Distinct (x ∷ xs) = (Has xs x → ⊥) × Distinct xs

pub distinct_filter : {X : Type 0} (test : X → Bool) (xs : List X) → Distinct xs → Distinct (filter test xs)
distinct_filter test [] h = tt
distinct_filter test (x ∷ xs) h = step (test x) (distinct_filter test xs h.1)
  where
    step : (b : Bool) → Distinct (filter test xs) → Distinct (cond b (x ∷ filter test xs) (filter test xs))
    step true on = (λ has. h.0 (filter_has test xs x has).0, on)
    step false on = on

pub distinct_at : {X : Type 0} (xs : List X) (d : X) (i j : ℕ) → Distinct xs → i < length xs → j < length xs → get_or xs i d ≡ get_or xs j d → i ≡ j
distinct_at [] d i j h hi hj e = absurd (omega (arith, hi))
distinct_at (x ∷ xs) d zero zero h hi hj e = refl
distinct_at (x ∷ xs) d zero (suc j) h hi hj e = absurd (h.0 (subst (Has xs) (sym e) (has_at xs j d (omega (arith, hj)))))
distinct_at (x ∷ xs) d (suc i) zero h hi hj e = absurd (h.0 (subst (Has xs) e (has_at xs i d (omega (arith, hi)))))
distinct_at (x ∷ xs) d (suc i) (suc j) h hi hj e = ap suc (distinct_at xs d i j h.1 (omega (arith, hi)) (omega (arith, hj)) e)

pub distinct_from : {X : Type 0} (xs : List X) (d : X) → ((i j : ℕ) → i < j → j < length xs → get_or xs i d ≡ get_or xs j d → ⊥) → Distinct xs
distinct_from [] d h = tt
distinct_from (x ∷ xs) d h =
    (λ has. let at = at_has xs d x has in let less = at.1 in h 0 (suc at.0) (omega arith) (omega (arith, less)) (sym at.2), distinct_from xs d (λ i j less within. h (suc i) (suc j) (omega (arith, less)) (omega (arith, within))))

-- a list of numbers without one of them is shorter
without_shorter : (ys : List ℕ) (x : ℕ) → length (filter (λ y. not (eqb y x)) ys) ≤ length ys
without_shorter [] x = omega arith
without_shorter (y ∷ ys) x = step (not (eqb y x)) (without_shorter ys x)
  where
    step : (b : Bool) → length (filter (λ z. not (eqb z x)) ys) ≤ length ys → length (cond b (y ∷ filter (λ z. not (eqb z x)) ys) (filter (λ z. not (eqb z x)) ys)) ≤ suc (length ys)
    step true on = omega (arith, on)
    step false on = omega (arith, on)

without_less : (ys : List ℕ) (x : ℕ) → Has ys x → length (filter (λ y. not (eqb y x)) ys) < length ys
without_less [] x h = absurd h
without_less (y ∷ ys) x h = step (eqb y x) refl (without_less ys x)
  where
    step : (b : Bool) → eqb y x ≡ b → (Has ys x → length (filter (λ z. not (eqb z x)) ys) < length ys) → length (cond (not b) (y ∷ filter (λ z. not (eqb z x)) ys) (filter (λ z. not (eqb z x)) ys)) < suc (length ys)
    step true e on = let less = without_shorter ys x in omega (arith, less)
    step false e on =
        let rest : Has ys x = ⊎_elim (λ one. absurd (let t : eqb y x ≡ true = eq-eqb y x one in let bad : true ≡ false = sym t ∙ e in cc)) (λ rest. rest) h in
        let less = on rest in
        omega (arith, less)

-- Numbers that are all in a list, none of them twice, are no more than the list's.
pub no_more : (xs ys : List ℕ) → Distinct xs → ((x : ℕ) → Has xs x → Has ys x) → length xs ≤ length ys
no_more [] ys h known = omega arith
no_more (x ∷ xs) ys h known =
    let rest = no_more xs (filter (λ y. not (eqb y x)) ys) h.1 (λ z has. has_filter (λ y. not (eqb y x)) ys z (known z (inr has)) (not_from_false (eqb z x) (ne_eqb z x (λ e. h.0 (subst (Has xs) e has))))) in
    let less = without_less ys x (known x (inl refl)) in
    omega (arith, rest, less)
