-- The heights of units together, by the children that they are of.
use Rattle.std.proofs.Common.{◌≡◌, inl, inr, ⊎_elim, ℕ, zero, suc, ◌+◌, ◌*◌, ◌-◌, ◌<◌, ◌^◌, cond, Bool, true, false, ℤ, pos, ◌+ℤ◌, ◌≤ℤ◌, List, [], ◌∷◌, length, get_or, refl, sym, ◌∙◌, ap, arith}
use Rattle.std.proofs.lemmas.Bool.{cases_Bool, cases_eq, eq-eqb}
use Rattle.std.proofs.lemmas.Int.{ints}
use Rattle.std.specs.Prelude.{Option, None, Some}
use Rattle.elk_layers.specs.declared.units.Unit.{Unit as LayerUnit}
use Rattle.elk_layers.specs.Layered.{total_height, unit_at}
use Rattle.port_order.specs.declared.children.Child.{Child}
use Rattle.level_model.specs.Conditions as level
use Rattle.level_model.specs.Nets.{is_number}
use Rattle.layer_units.proofs.SizeLemmas.{heights_of}

-- the height of a unit, where it is that of a child
abbrev part : ℕ → LayerUnit → ℤ
part m x = cond (is_number x.child m) x.height (pos 0)

abbrev parts : ℕ → LayerUnit → ℤ
parts zero x = pos 0
parts (suc m) x = parts m x +ℤ part m x

abbrev column : ℕ → List LayerUnit → ℤ
column m [] = pos 0
column m (x ∷ xs) = part m x +ℤ column m xs

abbrev all_parts : ℕ → List LayerUnit → ℤ
all_parts n [] = pos 0
all_parts n (x ∷ xs) = parts n x +ℤ all_parts n xs

-- the first numbers of a function together
abbrev pub first : (ℕ → ℤ) → ℕ → ℤ
first f zero = pos 0
first f (suc n) = first f n +ℤ f n

part_least : (m : ℕ) (x : LayerUnit) → pos 0 ≤ℤ x.height → pos 0 ≤ℤ part m x
part_least m x h = step (is_number x.child m)
  where
    step : (b : Bool) → pos 0 ≤ℤ cond b x.height (pos 0)
    step true = h
    step false = omega (arith, ints)

parts_least : (n : ℕ) (x : LayerUnit) → pos 0 ≤ℤ x.height → pos 0 ≤ℤ parts n x
parts_least zero x h = omega (arith, ints)
parts_least (suc m) x h = let a = parts_least m x h in let b = part_least m x h in omega (arith, ints, a, b)

more_left : (a b c : ℤ) → a ≤ℤ b → pos 0 ≤ℤ c → a ≤ℤ (b +ℤ c)
more_left a b c h k = omega (arith, ints, h, k)

more_right : (a b : ℤ) → pos 0 ≤ℤ b → a ≤ℤ (b +ℤ a)
more_right a b h = omega (arith, ints, h)

parts_most : (n c : ℕ) (x : LayerUnit) → pos 0 ≤ℤ x.height → is_number x.child c ≡ true → c < n → x.height ≤ℤ parts n x
parts_most zero c x h is less = absurd (omega (arith, less))
parts_most (suc m) c x h is less =
    elim (cases_eq c m) [
      | inl same ↦ (let here : is_number x.child m ≡ true = ap (is_number x.child) (sym same) ∙ is in
          rw here (more_right x.height (parts m x) (parts_least m x h)))
      | inr other ↦ more_left x.height (parts m x) (part m x) (parts_most m c x h is (omega (arith, less, other))) (part_least m x h)
    ]

-- each unit of no child is flat, and each other is one of the first children
pub record IsCounted (n : ℕ) (x : LayerUnit) : Type 0 where
  pub least : pos 0 ≤ℤ x.height
  pub flat : x.child ≡ None → x.height ≡ pos 0
  pub child : (c : ℕ) → x.child ≡ Some c → c < n

same_number : (c : ℕ) (o : Option ℕ) → o ≡ Some c → is_number o c ≡ true
same_number c o e = ap (λ z. is_number z c) e ∙ eq-eqb c c refl

unit_most : (n : ℕ) (x : LayerUnit) → IsCounted n x → x.height ≤ℤ parts n x
unit_most n x is = step x.child refl
  where
    step : (o : Option ℕ) → x.child ≡ o → x.height ≤ℤ parts n x
    step None e = let flat = is.flat e in let least = parts_least n x is.least in omega (arith, ints, flat, least)
    step (Some c) e = parts_most n c x is.least (same_number c x.child e) (is.child c e)

total_most : (n : ℕ) (xs : List LayerUnit) → ((u : ℕ) → u < length xs → IsCounted n (unit_at xs u)) → total_height xs ≤ℤ all_parts n xs
total_most n [] h = omega (arith, ints)
total_most n (x ∷ xs) h =
    let here = unit_most n x (h 0 (omega arith)) in
    let rest = total_most n xs (λ u less. h (suc u) (omega (arith, less))) in
    omega (arith, ints, here, rest)

exchange : (m : ℕ) (xs : List LayerUnit) → all_parts (suc m) xs ≡ all_parts m xs +ℤ column m xs
exchange m [] = refl
exchange m (x ∷ xs) = let rest = exchange m xs in mixed (parts m x) (part m x) (all_parts (suc m) xs) (all_parts m xs) (column m xs) rest
  where
    mixed : (a b s t c : ℤ) → s ≡ t +ℤ c → ((a +ℤ b) +ℤ s) ≡ ((a +ℤ t) +ℤ (b +ℤ c))
    mixed a b s t c e = omega (arith, ints, e)

no_parts : (xs : List LayerUnit) → all_parts 0 xs ≡ pos 0
no_parts [] = refl
no_parts (x ∷ xs) = let rest = no_parts xs in omega (arith, ints, rest)

-- a child's unit counts once
column_none : (m : ℕ) (xs : List LayerUnit) → ((u : ℕ) → u < length xs → is_number (unit_at xs u).child m ≡ false) → column m xs ≡ pos 0
column_none m [] h = refl
column_none m (x ∷ xs) h =
    let here = h 0 (omega arith) in
    let rest = column_none m xs (λ u less. h (suc u) (omega (arith, less))) in
    rw here (omega (arith, ints, rest))

only_here : (h c b : ℤ) → c ≡ pos 0 → h ≤ℤ b → (h +ℤ c) ≤ℤ b
only_here h c b e k = omega (arith, ints, e, k)

only_later : (c b : ℤ) → c ≤ℤ b → (pos 0 +ℤ c) ≤ℤ b
only_later c b k = omega (arith, ints, k)

column_most : (m k : ℕ) (b : ℤ) (xs : List LayerUnit) → pos 0 ≤ℤ b → ((u : ℕ) → u < length xs → is_number (unit_at xs u).child m ≡ true → ((unit_at xs u).height ≤ℤ b) × (u ≡ k)) → column m xs ≤ℤ b
column_most m k b [] least h = least
column_most m k b (x ∷ xs) least h =
    elim (cases_Bool (is_number x.child m)) [
      | inl on ↦ (let here = h 0 (omega arith) on in
          rw on (only_here x.height (column m xs) b
          (column_none m xs (λ u less. ⊎_elim (λ again. absurd (let there = (h (suc u) (omega (arith, less)) again).1 in let first = here.1 in omega (arith, there, first))) (λ off. off) (cases_Bool (is_number (unit_at xs u).child m)))) here.0))
      | inr off ↦ rw off (only_later (column m xs) b (column_most m (k - 1) b xs least (λ u less is. let there = h (suc u) (omega (arith, less)) is in let at = there.1 in (there.0, omega (arith, at)))))
    ]

parts_first : (n : ℕ) (f : ℕ → ℤ) (xs : List LayerUnit) → ((m : ℕ) → m < n → column m xs ≤ℤ f m) → all_parts n xs ≤ℤ first f n
parts_first zero f xs h = let none = no_parts xs in omega (arith, ints, none)
parts_first (suc n) f xs h =
    let rest = parts_first n f xs (λ m less. h m (omega (arith, less))) in
    let here = h n (omega arith) in
    let both = exchange n xs in
    omega (arith, ints, rest, here, both)

at_most : (a b c : ℤ) → a ≤ℤ b → b ≤ℤ c → a ≤ℤ c
at_most a b c h k = omega (arith, ints, h, k)

-- each child below n has one unit, which is at most so high
pub total_within : (n : ℕ) (f : ℕ → ℤ) (at : ℕ → ℕ) (xs : List LayerUnit) → ((m : ℕ) → m < n → pos 0 ≤ℤ f m) → ((u : ℕ) → u < length xs → IsCounted n (unit_at xs u))
    → ((u m : ℕ) → u < length xs → m < n → is_number (unit_at xs u).child m ≡ true → ((unit_at xs u).height ≤ℤ f m) × (u ≡ at m)) → total_height xs ≤ℤ first f n
total_within n f at xs least counted one =
    at_most _ _ _ (total_most n xs counted) (parts_first n f xs (λ m less. column_most m (at m) (f m) xs (least m less) (λ u inside is. one u m inside less is)))

-- ---- the bound of all children

front : (f : ℕ → ℤ) (n : ℕ) → first f (suc n) ≡ f 0 +ℤ first (λ k. f (suc k)) n
front f zero = omega (arith, ints)
front f (suc n) = let rest = front f n in front_more (first f (suc n)) (f (suc n)) (f 0) (first (λ k. f (suc k)) n) rest
  where
    front_more : (s a b t : ℤ) → s ≡ b +ℤ t → (s +ℤ a) ≡ (b +ℤ (t +ℤ a))
    front_more s a b t e = omega (arith, ints, e)

pub first_heights : (cs : List Child) (d : Child) → first (λ m. heights_of (get_or cs m d)) (length cs) ≡ level.total_height cs
first_heights [] d = refl
first_heights (x ∷ cs) d =
    front (λ m. heights_of (get_or (x ∷ cs) m d)) (length cs) ∙ ap (λ z. heights_of x +ℤ z) (first_heights cs d)

pub first_double : (f : ℕ → ℤ) (n : ℕ) → first (λ m. f m +ℤ f m +ℤ pos (2 ^ 37)) n ≡ first f n +ℤ first f n +ℤ pos (n * 2 ^ 37)
first_double f zero = refl
first_double f (suc n) =
    let rest = first_double f n in
    let more : suc n * 2 ^ 37 ≡ n * 2 ^ 37 + 2 ^ 37 = omega arith in
    rw more (double (first (λ m. f m +ℤ f m +ℤ pos (2 ^ 37)) n) (first f n) (f n) (n * 2 ^ 37) rest)
  where
    double : (s t a : ℤ) (k : ℕ) → s ≡ t +ℤ t +ℤ pos k → (s +ℤ (a +ℤ a +ℤ pos (2 ^ 37))) ≡ ((t +ℤ a) +ℤ (t +ℤ a) +ℤ pos (k + 2 ^ 37))
    double s t a k e = omega (arith, ints, e)
