-- The rows of an order, and the places of units in them as they are noted.
use Rattle.std.proofs.Common.{◌≡◌, ℕ, ◌+◌, ◌<◌, ◌≤◌, List, [], length, map, get_or, set, arith, refl, sym, ◌∙◌, ap, subst, inl, inr}
use Rattle.std.proofs.lemmas.Bool.{cases_eq}
use Rattle.std.specs.List.{All}
use Rattle.std.proofs.lemmas.List.{get_or-map, length-map, get_or-set_same, get_or-set_other, length-set}
use Rattle.std.proofs.lemmas.List.Elements.{All-get_or, All-from_get_or}
use Rattle.elk_layers.specs.Layered.{Plain, IsSound, AreRows, row_at, layer_of, place_in, place_of}
use Rattle.elk_layers.specs.Places.{IsOnce, NotesFirst, ArePlaces, PlacedBelow}
use Rattle.elk_layers.proofs.OccursLemmas.{no_repeat_from, length_below}
use Rattle.elk_layers.proofs.PlaceLemmas.{place_below, place_reads, place_at}

-- a row that a loop over an order's rows reads
pub row_read : {X : Type 0} (f : X → List ℕ) (rows rows' : List X) (i : ℕ) (x : X) → rows ≡ rows' → x ≡ get_or rows i x → i < length rows → (row_at (map f rows') i ≡ f x) × (i < length (map f rows'))
row_read f rows rows' i x same is k =
    let k' : i < length rows' = subst (λ ys. i < length ys) same k in
    let at : x ≡ get_or rows' i x = is ∙ ap (λ ys. get_or ys i x) same in
    (get_or-map f rows' i x [] k' ∙ sym (ap f at), rw (length-map rows' f) k')

-- a row that is taken from an order by its number
pub row_taken : {X : Type 0} (f : X → List ℕ) (rows : List X) (r : ℕ) (x : X) (slice : List ℕ) → x ≡ get_or rows r x → slice ≡ f x → r < length (map f rows) → row_at (map f rows) r ≡ slice
row_taken f rows r x slice is e h = get_or-map f rows r x [] (rw (length-map rows f) at h) ∙ sym (ap f is) ∙ sym e

pub row_in_range : (l : Plain) (rows : List (List ℕ)) (r : ℕ) (xs : List ℕ) → AreRows l rows → r < length rows → row_at rows r ≡ xs → All (λ u. u < length l.units) xs
row_in_range l rows r xs are h e = subst (All (λ u. u < length l.units)) e (All-from_get_or (λ u. u < length l.units) (row_at rows r) 0 (are.in_range r h))

-- a row has no more units than there are
pub row_short : (l : Plain) (rows : List (List ℕ)) (r : ℕ) → AreRows l rows → r < length rows → length (row_at rows r) ≤ length l.units
row_short l rows r are h =
    let row : List ℕ = row_at rows r in
    length_below (length l.units) (row_at rows r) (no_repeat_from (row_at rows r) (are.once r h))
    (λ m k. subst (λ n. n < length l.units) (place_reads m (row_at rows r) k) (are.in_range r h (place_in (row_at rows r) m) (place_below m (row_at rows r) k)))

-- a unit's place is less than the number of units
pub place_small : (l : Plain) (rows : List (List ℕ)) (u : ℕ) → IsSound l → AreRows l rows → u < length l.units → place_of l rows u < length l.units
place_small l rows u sound are hu =
    let r : ℕ = layer_of l u in
    let hr : layer_of l u < length rows = let a = are.as_many in let b = sound.layers_are u hu in omega (arith, a, b) in
    let has = are.complete u hu in
    let at : place_in (row_at rows (layer_of l u)) u ≡ has.place =
    subst (λ x. place_in (row_at rows (layer_of l u)) x ≡ has.place) has.unit_is (place_at (row_at rows (layer_of l u)) (are.once (layer_of l u) hr) has.place has.within)
    in
    let short = row_short l rows (layer_of l u) are hr in
    let within = has.within in
    omega (arith, at, short, within)

pub notes_start : (old us : List ℕ) → NotesFirst old us 0 old
notes_start old us = record { as_long = refl; noted = λ i h. absurd (omega (arith, h)); kept = λ u h. refl }

pub notes_more : (old row : List ℕ) (i : ℕ) (new : List ℕ) → All (λ u. u < length old) row → IsOnce row → i < length row → NotesFirst old row i new → NotesFirst old row (i + 1) (set new (get_or row i 0) i)
notes_more old row i new all once h s =
    let at : ℕ = get_or row i 0 in
    let below : at < length new = rw s.as_long (All-get_or (λ u. u < length old) row i 0 h all) in
    record {
      as_long = length-set new at i ∙ s.as_long;
      noted = λ j less. elim (cases_eq j i) [
        | inl e ↦ subst (λ x. get_or (set new at i) (get_or row x 0) 0 ≡ x) (sym e) (get_or-set_same new at i 0 below)
        | inr n ↦ get_or-set_other new at (get_or row j 0) i 0 (once j i (omega (arith, less, n)) h) ∙ s.noted j (omega (arith, less, n))
      ];
      kept = λ u apart. get_or-set_other new at u i 0 (λ e. apart i (omega arith) (sym e)) ∙ s.kept u (λ j less. apart j (omega (arith, less)));
    }

pub placed_more : (l : Plain) (rows : List (List ℕ)) (r : ℕ) (old new : List ℕ) → AreRows l rows → r < length rows → NotesFirst old (row_at rows r) (length (row_at rows r)) new → PlacedBelow l rows r old → PlacedBelow l rows (r + 1) new
placed_more l rows r old new are h notes s =
    record {
      as_long = notes.as_long ∙ s.as_long;
      place_is = λ u hu less. elim (cases_eq (layer_of l u) r) [
        | inl e ↦
            let has = are.complete u hu in
            let within : has.place < length (row_at rows r) = subst (λ g. has.place < length (row_at rows g)) e has.within in
            let is : get_or (row_at rows r) has.place 0 ≡ u = subst (λ g. get_or (row_at rows g) has.place 0 ≡ u) e has.unit_is in
            let there : get_or new u 0 ≡ has.place = subst (λ x. get_or new x 0 ≡ has.place) is (notes.noted has.place within) in
            let here : place_in (row_at rows r) u ≡ has.place = subst (λ x. place_in (row_at rows r) x ≡ has.place) is (place_at (row_at rows r) (are.once r h) has.place within) in
            there ∙ sym here ∙ ap (λ g. place_in (row_at rows g) u) (sym e)
        | inr n ↦ notes.kept u (λ i hi e. n (ap (layer_of l) (sym e) ∙ are.in_layer r h i hi)) ∙ s.place_is u hu (omega (arith, less, n))
      ];
    }

pub placed_all : (l : Plain) (rows : List (List ℕ)) (r : ℕ) (place : List ℕ) → IsSound l → AreRows l rows → length rows ≤ r → PlacedBelow l rows r place → ArePlaces l rows place
placed_all l rows r place sound are h s =
    record { as_long = s.as_long; place_is = λ u hu. s.place_is u hu (let a = are.as_many in let b = sound.layers_are u hu in omega (arith, h, a, b)) }
