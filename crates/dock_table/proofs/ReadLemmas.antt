-- Lists of lists as they are read and written.
use Rattle.std.proofs.Common.{◌≡◌, ℕ, ◌<◌, List, [], length, map, get_or, set, sym, ◌∙◌, ap}
use Rattle.std.proofs.lemmas.List.{get_or-map, length-map, map-set}

-- a list that is read from a list of lists
pub row_read : {X Y : Type 0} (f : X → List Y) (rows : List X) (i : ℕ) (x : X) → x ≡ get_or rows i x → i < length rows → get_or (map f rows) i [] ≡ f x
row_read f rows i x is h = get_or-map f rows i x [] h ∙ sym (ap f is)

-- the same by the number of lists
pub row_taken : {X Y : Type 0} (f : X → List Y) (rows : List X) (i : ℕ) (x : X) → x ≡ get_or rows i x → i < length (map f rows) → get_or (map f rows) i [] ≡ f x
row_taken f rows i x is h = row_read f rows i x is (rw (length-map rows f) at h)

-- a list that was changed in a list of lists
pub row_changed : {X Y : Type 0} (f : X → List Y) (g : List Y → List Y) (rows : List X) (i : ℕ) (x y : X) → x ≡ get_or rows i x → i < length (map f rows) → f y ≡ g (f x) → map f (set rows i y) ≡ set (map f rows) i (g (get_or (map f rows) i []))
row_changed f g rows i x y is h e = map-set f rows i y ∙ ap (set (map f rows) i) (e ∙ ap g (sym (row_taken f rows i x is h)))
