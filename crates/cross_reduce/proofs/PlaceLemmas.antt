-- Places of units, and how many units a row has.
use Rattle.std.proofs.Common.{◌≡◌, ◌≢◌, ℕ, zero, suc, pos, ◌+◌, ◌<◌, ◌≤◌, List, [], ◌∷◌, length, get_or, take, map, Bool, true, cond, refl, arith, sym, ◌∙◌, ap, subst, inl, inr, ltb, eqb, eq-eqb}
use Rattle.std.proofs.lemmas.Bool.{cases_eq, lt-ltb, ne_eqb}
use Rattle.std.specs.List.{All, count_by}
use Rattle.std.proofs.lemmas.List.{get_or-map, take_all}
use Rattle.std.proofs.lemmas.List.Sums.{sum_by-cons, count_by_more_yes, count_by_more_no}
use Rattle.std.proofs.lemmas.List.Elements.{All-from_get_or, All-head, All-tail}
use Rattle.elk_layers.specs.declared.units.Unit.{Unit as LayerUnit}
use Rattle.elk_layers.specs.Layered.{Plain, IsSound, IsSoundLink, AreRows, row_at, layer_of, place_in}
use Rattle.elk_layers.specs.Places.{IsOnce, ArePlaces}
use Rattle.elk_layers.proofs.PlaceLemmas.{place_at}
use Rattle.cross_reduce.specs.Places.{FitPlaces}
use Rattle.cross_reduce.specs.Rows.{IsRow}
use Rattle.cross_reduce.proofs.Sums.{one_if, sum_same, sum_plus, sum_zero}
use Rattle.cross_reduce.proofs.RowLemmas.{row_of}

-- a row has at most as many units as its layer
count_none : (row : List ℕ) (n : ℕ) → ((j : ℕ) → j < length row → get_or row j 0 ≢ n) → count_by (λ w. eqb w n) row ≡ 0
count_none [] n h = refl
count_none (x ∷ row) n h =
    let rest = count_none row n (λ j l. h (suc j) (omega (arith, l))) in
    rw (sum_by-cons (λ (w : ℕ). cond (eqb w n) 1 0) x row, ne_eqb x n (h 0 (omega arith))) (omega (arith, rest))

count_once : (row : List ℕ) (n : ℕ) → IsOnce row → count_by (λ w. eqb w n) row ≤ 1
count_once [] n once = omega arith
count_once (x ∷ row) n once =
    elim (cases_eq x n) [
      | inl e ↦
          let none = count_none row n (λ j l q. once 0 (suc j) (omega arith) (omega (arith, l)) (e ∙ sym q)) in
          rw (sum_by-cons (λ (w : ℕ). cond (eqb w n) 1 0) x row, eq-eqb x n e) (omega (arith, none))
      | inr k ↦
          let rest = count_once row n (λ i j less l. once (suc i) (suc j) (omega (arith, less)) (omega (arith, l))) in
          rw (sum_by-cons (λ (w : ℕ). cond (eqb w n) 1 0) x row, ne_eqb x n k) (omega (arith, rest))
    ]

one_more : (w n : ℕ) → one_if (ltb w (suc n)) ≡ one_if (ltb w n) + one_if (eqb w n)
one_more w n = grind arith

none_below : (w : ℕ) → one_if (ltb w 0) ≡ 0
none_below w = grind arith

module _ (l : Plain) (r : ℕ) (row : List ℕ) (is : IsRow l r row) where
  counted : (n : ℕ) → n ≤ length l.units → count_by (λ w. ltb w n) row ≤ count_by (λ (x : LayerUnit). eqb x.layer r) (take n l.units)
  counted zero h =
      let none : count_by (λ w. ltb w 0) row ≡ 0 = sum_same (λ w. one_if (ltb w 0)) (λ w. 0) row none_below ∙ sum_zero row in
      omega (arith, none)
  counted (suc n) h =
      let d : LayerUnit = record { layer = 0; child = Rattle.std.proofs.Common.None; height = pos 0; body_top = pos 0; body_height = pos 0; north = 0; south = 0 } in
      let rest = counted n (omega (arith, h)) in
      let split : count_by (λ w. ltb w (suc n)) row ≡ count_by (λ w. ltb w n) row + count_by (λ w. eqb w n) row =
      sum_same (λ w. one_if (ltb w (suc n))) (λ w. one_if (ltb w n) + one_if (eqb w n)) row (λ w. one_more w n)
      ∙ sum_plus (λ w. one_if (ltb w n)) (λ w. one_if (eqb w n)) row
      in
      let next : suc n ≡ n + 1 = omega arith in
      elim (cases_eq (layer_of l n) r) [
        | inl e ↦
            let once = count_once row n is.once in
            let more = count_by_more_yes (λ (x : LayerUnit). eqb x.layer r) l.units n d (omega (arith, h)) (eq-eqb (layer_of l n) r e) in
            rw (next, more) (omega (arith, rest, subst (λ m. count_by (λ w. ltb w m) row ≡ count_by (λ w. ltb w n) row + count_by (λ w. eqb w n) row) next split, once))
        | inr k ↦
            let none = count_none row n (λ j hj q. k (ap (layer_of l) (sym q) ∙ is.in_layer j hj)) in
            let more = count_by_more_no (λ (x : LayerUnit). eqb x.layer r) l.units n d (omega (arith, h)) (ne_eqb (layer_of l n) r k) in
            rw (next, more) (omega (arith, rest, subst (λ m. count_by (λ w. ltb w m) row ≡ count_by (λ w. ltb w n) row + count_by (λ w. eqb w n) row) next split, none))
      ]

count_all : (p : ℕ → Bool) (xs : List ℕ) → ((j : ℕ) → j < length xs → p (get_or xs j 0) ≡ true) → count_by p xs ≡ length xs
count_all p [] h = refl
count_all p (x ∷ xs) h =
    let rest = count_all p xs (λ j l. h (suc j) (omega (arith, l))) in
    let first : p x ≡ true = h 0 (omega arith) in
    rw (sum_by-cons (λ (w : ℕ). cond (p w) 1 0) x xs, first) (omega (arith, rest))

pub row_few : (l : Plain) (r : ℕ) (row : List ℕ) → IsSound l → IsRow l r row → length row ≤ 4096
row_few l r row sound is =
    let all = count_all (λ w. ltb w (length l.units)) row (λ j h. lt-ltb (get_or row j 0) (length l.units) (is.in_range j h)) in
    let some = counted l r row is (length l.units) (omega arith) in
    let whole : take (length l.units) l.units ≡ l.units = take_all (length l.units) l.units (omega arith) in
    let few = sound.few_in_layer r in
    let most = rw whole at some in
    omega (arith, all, most, few)

pub places_fit : (l : Plain) (rows : List (List ℕ)) (place : List ℕ) → IsSound l → AreRows l rows → ArePlaces l rows place → FitPlaces l place
places_fit l rows place sound are s =
    record {
      as_long = s.as_long;
      small = λ u hu.
          let r : ℕ = layer_of l u in
          let row : IsRow l (layer_of l u) (row_at rows (layer_of l u)) = row_of l rows (layer_of l u) are (omega (arith, are.as_many, sound.layers_are u hu)) in
          let has = row.complete u hu refl in
          let few = row_few l (layer_of l u) (row_at rows (layer_of l u)) sound row in
          let here : place_in (row_at rows (layer_of l u)) u ≡ has.place = subst (λ x. place_in (row_at rows (layer_of l u)) x ≡ has.place) has.unit_is (place_at (row_at rows (layer_of l u)) row.once has.place has.within) in
          let there = s.place_is u hu in
          omega (arith, few, here, there, has.within);
    }

pub links_sound : (l : Plain) → IsSound l → All (IsSoundLink l) l.links
links_sound l sound =
    All-from_get_or (IsSoundLink l) l.links (record { edge = 0; tail = 0; head = 0; tail_rank = 0; head_rank = 0; tail_at = pos 0; head_at = pos 0 }) sound.links_are

pub map_same : {X Y : Type 0} (P : X → Type 0) (f g : X → Y) (xs : List X) → All P xs → ((x : X) → P x → f x ≡ g x) → map f xs ≡ map g xs
map_same P f g [] all h = refl
map_same {X} {Y} P f g (x ∷ xs) all h =
    let first : f x ≡ g x = h x (All-head P x xs all) in
    let rest : map f xs ≡ map g xs = map_same P f g xs (All-tail P x xs all) h in
    ap (λ y. y ∷ map f xs) first ∙ ap (λ ys. g x ∷ ys) rest

-- a list of an order's rows, or of far ends, as the code reads it
pub row_read : {R X : Type 0} (items : R → List X) (rows : List R) (r : ℕ) (x : R) → x ≡ get_or rows r x → r < length rows → items x ≡ get_or (map items rows) r []
row_read items rows r x is h = ap items is ∙ sym (get_or-map items rows r x [] h)
