-- Lists that are filtered and mapped.
use Rattle.std.proofs.Common.{◌≡◌, ℕ, cond, Bool, true, false, List, [], ◌∷◌, length, map, get_or, refl, sym, ap, ap₂, inl, inr, ◌∙◌}
use Rattle.std.specs.List.{filter, range_with_len}
use Rattle.std.proofs.lemmas.List.FromFn.{fill_by_all}
use Rattle.level_model.proofs.Lists.{Has}

pub filter_alike : {X : Type 0} (s t : X → Bool) (xs : List X) → ((x : X) → Has xs x → s x ≡ t x) → filter s xs ≡ filter t xs
filter_alike s t [] same = refl
filter_alike s t (x ∷ xs) same = ap₂ (λ b ys. cond b (x ∷ ys) ys) (same x (inl refl)) (filter_alike s t xs (λ y h. same y (inr h)))

pub map_twice : {X Y Z : Type 0} (f : X → Y) (g : Y → Z) (xs : List X) → map g (map f xs) ≡ map (λ x. g (f x)) xs
map_twice f g [] = refl
map_twice f g (x ∷ xs) = ap (λ ys. g (f x) ∷ ys) (map_twice f g xs)

map_cond : {X Y : Type 0} (b : Bool) (f : X → Y) (x : X) (xs : List X) → cond b (f x ∷ map f xs) (map f xs) ≡ map f (cond b (x ∷ xs) xs)
map_cond true f x xs = refl
map_cond false f x xs = refl

pub filter_map : {X Y : Type 0} (t : Y → Bool) (f : X → Y) (xs : List X) → filter t (map f xs) ≡ map f (filter (λ x. t (f x)) xs)
filter_map t f [] = refl
filter_map t f (x ∷ xs) = ap (λ ys. cond (t (f x)) (f x ∷ ys) ys) (filter_map t f xs) ∙ map_cond (t (f x)) f x (filter (λ y. t (f y)) xs)

filter_cond : {X : Type 0} (s : X → Bool) (b : Bool) (x : X) (ys : List X) → filter s (cond b (x ∷ ys) ys) ≡ cond b (cond (s x) (x ∷ filter s ys) (filter s ys)) (filter s ys)
filter_cond s true x ys = refl
filter_cond s false x ys = refl

cond_swap : {X : Type 0} (b c : Bool) (p q : List X) → cond b (cond c p q) q ≡ cond c (cond b p q) q
cond_swap true true p q = refl
cond_swap true false p q = refl
cond_swap false true p q = refl
cond_swap false false p q = refl

pub filter_swap : {X : Type 0} (s t : X → Bool) (xs : List X) → filter s (filter t xs) ≡ filter t (filter s xs)
filter_swap s t [] = refl
filter_swap s t (x ∷ xs) =
    filter_cond s (t x) x (filter t xs)
    ∙ cond_swap (t x) (s x) (x ∷ filter s (filter t xs)) (filter s (filter t xs))
    ∙ ap (λ ys. cond (s x) (cond (t x) (x ∷ ys) ys) ys) (filter_swap s t xs)
    ∙ sym (filter_cond t (s x) x (filter s xs))

-- what is made of the numbers of a list that pass a test, by their places
pub picked_map : {Y : Type 0} (g : ℕ → Y) (t : ℕ → Bool) (xs : List ℕ) → map (λ i. g (get_or xs i 0)) (filter (λ i. t (get_or xs i 0)) (range_with_len 0 (length xs))) ≡ map g (filter t xs)
picked_map g t xs =
    let at : ℕ → ℕ = λ i. get_or xs i 0 in
    let all : xs ≡ map at (range_with_len 0 (length xs)) = fill_by_all at xs (length xs) 0 refl (λ k h. refl) in
    sym (map_twice at g (filter (λ i. t (at i)) (range_with_len 0 (length xs))))
    ∙ ap (map g) (sym (filter_map t at (range_with_len 0 (length xs))))
    ∙ ap (λ (ys : List ℕ). map g (filter t ys)) (sym all)
