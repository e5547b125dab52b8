-- Sums over lists and over the first numbers, and lists that are parted by a number.
use Rattle.std.proofs.Common.{◌≡◌, inl, inr, ⊎_elim, ℕ, zero, suc, ◌*◌, ◌<◌, ◌≤◌, ◌==◌, cond, Bool, List, [], ◌∷◌, length, ℤ, pos, ◌+ℤ◌, ◌≤ℤ◌, refl, arith, eq-eqb}
use Rattle.std.proofs.lemmas.Bool.{cases_Bool, cases_eq, ne_eqb}
use Rattle.std.proofs.lemmas.Int.{ints}
use Rattle.std.specs.List.{filter}
use Rattle.level_model.proofs.Lists.{Has}
use Rattle.layer_units.proofs.TotalLemmas.{first}

pub le_le : (a b c : ℤ) → a ≤ℤ b → b ≤ℤ c → a ≤ℤ c
le_le a b c h k = omega (arith, ints, h, k)

-- what a list comes to
abbrev pub over : {X : Type 0} → (X → ℤ) → List X → ℤ
over f [] = pos 0
over f (x ∷ xs) = f x +ℤ over f xs

pub over_least : {X : Type 0} (f : X → ℤ) (xs : List X) → ((x : X) → Has xs x → pos 0 ≤ℤ f x) → pos 0 ≤ℤ over f xs
over_least f [] h = omega (arith, ints)
over_least f (x ∷ xs) h =
    let here = h x (inl refl) in
    let rest = over_least f xs (λ y k. h y (inr k)) in
    omega (arith, ints, here, rest)

pub over_same : {X : Type 0} (f g : X → ℤ) (xs : List X) → ((x : X) → Has xs x → f x ≡ g x) → over f xs ≡ over g xs
over_same f g [] h = refl
over_same f g (x ∷ xs) h =
    let here = h x (inl refl) in
    let rest = over_same f g xs (λ y k. h y (inr k)) in
    omega (arith, ints, here, rest)

-- ---- sums over the first numbers

pub first_le : (f g : ℕ → ℤ) (n : ℕ) → ((m : ℕ) → m < n → f m ≤ℤ g m) → first f n ≤ℤ first g n
first_le f g zero h = omega (arith, ints)
first_le f g (suc n) h =
    let rest = first_le f g n (λ m less. h m (omega (arith, less))) in
    let here = h n (omega arith) in
    omega (arith, ints, rest, here)

pub first_add : (f g : ℕ → ℤ) (n : ℕ) → first (λ m. f m +ℤ g m) n ≡ first f n +ℤ first g n
first_add f g zero = omega (arith, ints)
first_add f g (suc n) = let rest = first_add f g n in omega (arith, ints, rest)

pub first_same : (w n : ℕ) → first (λ m. pos w) n ≡ pos (n * w)
first_same w zero = omega (arith, ints)
first_same w (suc n) = let rest = first_same w n in omega (arith, ints, rest)

-- a number that stands at one place only
abbrev at_one : ℕ → ℤ → ℕ → ℤ
at_one n w r = cond (n == r) w (pos 0)

none_before : (n g : ℕ) (w : ℤ) → g ≤ n → first (at_one n w) g ≡ pos 0
none_before n zero w h = refl
none_before n (suc g) w h =
    let rest = none_before n g w (omega (arith, h)) in
    rw (ne_eqb n g (λ e. omega (arith, e, h))) (omega (arith, ints, rest))

one_most : (n g : ℕ) (w : ℤ) → pos 0 ≤ℤ w → first (at_one n w) g ≤ℤ w
one_most n zero w h = h
one_most n (suc g) w h =
    elim (cases_eq n g) [
      | inl same ↦ (let before = none_before n g w (omega (arith, same)) in rw (eq-eqb n g same) (omega (arith, ints, before)))
      | inr other ↦ (let before = one_most n g w h in rw (ne_eqb n g other) (omega (arith, ints, before)))
    ]

-- ---- lists that are parted

-- what the elements of one number come to
abbrev pub part : {X : Type 0} → (X → ℕ) → (X → ℤ) → List X → ℕ → ℤ
part number w xs r = over (λ x. cond (number x == r) (w x) (pos 0)) xs

-- the parts of the first numbers come to no more than the list
pub parts_within : {X : Type 0} (number : X → ℕ) (w : X → ℤ) (xs : List X) (g : ℕ) → ((x : X) → Has xs x → pos 0 ≤ℤ w x) → first (part number w xs) g ≤ℤ over w xs
parts_within number w [] g h = nothing g
  where
    nothing : (g : ℕ) → first (λ r. pos 0) g ≤ℤ pos 0
    nothing zero = omega (arith, ints)
    nothing (suc g) = let rest = nothing g in omega (arith, ints, rest)
parts_within number w (x ∷ xs) g h =
    let both = first_add (at_one (number x) (w x)) (part number w xs) g in
    let here = one_most (number x) g (w x) (h x (inl refl)) in
    let rest = parts_within number w xs g (λ y k. h y (inr k)) in
    sum_most _ _ _ _ _ both here rest
  where
    sum_most : (s a b c d : ℤ) → s ≡ a +ℤ b → a ≤ℤ c → b ≤ℤ d → s ≤ℤ (c +ℤ d)
    sum_most s a b c d e h k = omega (arith, ints, e, h, k)

-- what passes a test, at so much each
pub counted : {X : Type 0} (test : X → Bool) (w : ℕ) (xs : List X) → over (λ x. cond (test x) (pos w) (pos 0)) xs ≡ pos (length (filter test xs) * w)
counted test w [] = omega (arith, ints)
counted test w (x ∷ xs) =
    let rest = counted test w xs in
    ⊎_elim (λ t. rw t (omega (arith, ints, rest))) (λ f. rw f (omega (arith, ints, rest))) (cases_Bool (test x))

pub ones : {X : Type 0} (w : ℕ) (xs : List X) → over (λ (x : X). pos w) xs ≡ pos (length xs * w)
ones w [] = omega (arith, ints)
ones w (x ∷ xs) = let rest = ones w xs in omega (arith, ints, rest)
