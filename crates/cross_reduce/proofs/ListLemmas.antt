-- Lists that are written item by item from another list.
use Rattle.std.proofs.Common.{◌≡◌, ℕ, ◌+◌, ◌<◌, ◌≤◌, List, [], ◌∷◌, ◌++◌, length, get_or, take, map, sym, ◌∙◌, ap}
use Rattle.std.proofs.lemmas.List.{take_more, take_all, map-append}

pub mapped_more : {X Y : Type 0} (f : X → Y) (xs : List X) (i : ℕ) (d : X) (ys new : List Y) → i < length xs → ys ≡ map f (take i xs) → new ≡ ys ++ f (get_or xs i d) ∷ [] → new ≡ map f (take (i + 1) xs)
mapped_more f xs i d ys new h so more =
    more ∙ ap (λ zs. zs ++ f (get_or xs i d) ∷ []) so ∙ sym (ap (map f) (take_more xs i d h) ∙ map-append f (take i xs) (get_or xs i d ∷ []))

-- the same of two lists that are read by a function each
pub matched_more : {X Y Z : Type 0} (f : X → Z) (g : Y → Z) (xs : List X) (i : ℕ) (d : X) (ys new : List Y) (y : Y) → i < length xs → map g ys ≡ map f (take i xs) → new ≡ ys ++ y ∷ [] → g y ≡ f (get_or xs i d) → map g new ≡ map f (take (i + 1) xs)
matched_more f g xs i d ys new y h so more e =
    mapped_more f xs i d (map g ys) (map g new) h so (ap (map g) more ∙ map-append g ys (y ∷ []) ∙ ap (λ z. map g ys ++ z ∷ []) e)

pub mapped_all : {X Y : Type 0} (f : X → Y) (xs : List X) (i : ℕ) (ys : List Y) → length xs ≤ i → ys ≡ map f (take i xs) → ys ≡ map f xs
mapped_all f xs i ys h so = so ∙ ap (map f) (take_all i xs h)
