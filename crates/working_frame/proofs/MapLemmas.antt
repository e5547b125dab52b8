-- A list whose elements are changed one after the other.
use Rattle.std.proofs.Common.{◌≡◌, ℕ, zero, suc, ◌+◌, ◌<◌, List, [], ◌∷◌, ◌++◌, map, take, drop, set, length, get_or, arith, refl, sym, ◌∙◌, ap, subst}
use Rattle.std.specs.List.{All}

-- the first i elements are changed
abbrev pub changed : {X : Type 0} → (X → X) → List X → ℕ → List X
changed f xs i = map f (take i xs) ++ drop i xs

pub get_changed : {X : Type 0} (f : X → X) (xs : List X) (i : ℕ) (d : X) → get_or (changed f xs i) i d ≡ get_or xs i d
get_changed f [] zero d = refl
get_changed f [] (suc i) d = refl
get_changed f (x ∷ xs) zero d = refl
get_changed f (x ∷ xs) (suc i) d = get_changed f xs i d

set_changed : {X : Type 0} (f : X → X) (xs : List X) (i : ℕ) (d : X) → i < length xs → set (changed f xs i) i (f (get_or xs i d)) ≡ changed f xs (suc i)
set_changed f [] i d h = absurd (omega (arith, h))
set_changed f (x ∷ xs) zero d h = refl
set_changed f (x ∷ xs) (suc i) d h = ap (λ ys. f x ∷ ys) (set_changed f xs i d (omega (arith, h)))

next : (i : ℕ) → suc i ≡ i + 1
next i = omega arith

pub change_next : {X : Type 0} (f : X → X) (xs ys : List X) (i : ℕ) (d z : X) → ys ≡ changed f xs i → i < length xs → z ≡ f (get_or ys i d) → set ys i z ≡ changed f xs (i + 1)
change_next f xs ys i d z e h is =
    let here : z ≡ f (get_or xs i d) = is ∙ ap (λ zs. f (get_or zs i d)) e ∙ ap f (get_changed f xs i d) in
    ap (λ zs. set zs i z) e ∙ ap (set (changed f xs i) i) here ∙ set_changed f xs i d h ∙ ap (changed f xs) (next i)

pub all_changed : {X : Type 0} (f : X → X) (xs : List X) (i : ℕ) → length xs ≡ i → changed f xs i ≡ map f xs
all_changed f [] zero e = refl
all_changed f [] (suc i) e = refl
all_changed f (x ∷ xs) zero e = absurd (omega (arith, e))
all_changed f (x ∷ xs) (suc i) e = ap (λ ys. f x ∷ ys) (all_changed f xs i (omega (arith, e)))

-- an element that is not yet changed is the old one
pub not_yet : {X : Type 0} (P : X → Type 0) (f : X → X) (xs ys : List X) (i : ℕ) (d : X) → All P xs → ys ≡ changed f xs i → i < length xs → P (get_or ys i d)
not_yet P f xs ys i d all e h = subst P (sym (ap (λ zs. get_or zs i d) e ∙ get_changed f xs i d)) (all i d h)
