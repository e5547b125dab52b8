-- Rows that hold the units of their layers in ascending order.
use Rattle.std.proofs.Common.{◌≡◌, inl, inr, ℕ, ◌+◌, ◌<◌, ◌==◌, eqb, cond, List, [], ◌∷◌, ◌++◌, Vec, Global, length, get_or, set, slice_index, refl, sym, subst, ap, ◌∙◌, arith, append-nil}
use Rattle.std.proofs.lemmas.Bool.{cases_eq, eq-eqb, ne_eqb, eqb-true}
use Rattle.std.proofs.lemmas.List.{length_push, get_or_push, get_or_append_left, get_or-map, get_or-set_same, get_or-set_other, length-set, map-set, map_push, length-map}
use Rattle.std.specs.List.{range_with_len}
use Rattle.elk_layers.specs.declared.units.Unit.{Unit as LayerUnit}
use Rattle.elk_layers.specs.Layered.{Plain, unit_at, layer_of, row_at, AreRows, HasUnit, IsSound}
use Rattle.level_model.proofs.Lists.{filter_has, has_filter, has_range, range_has, has_at, at_has}
use Rattle.layer_units.specs.Started.{AreAscending, plain_rows, row_to}
use Rattle.layer_units.proofs.FilterLemmas.{filter_last}
use Rattle.level_nets.proofs.ListLemmas.{rising}

pub rows_none : (units : List LayerUnit) (rows : List (Vec ℕ Global)) → rows ≡ [] → AreAscending units 0 0 (plain_rows rows)
rows_none units rows e = subst (λ rs. AreAscending units 0 0 (plain_rows rs)) (sym e) (record { as_many = refl; each = λ r h. absurd (omega (arith, h)) })

pub rows_long : (units : List LayerUnit) (n k : ℕ) (rows : List (Vec ℕ Global)) → AreAscending units n k (plain_rows rows) → length rows ≡ n
rows_long units n k rows asc =
    let many = asc.as_many in
    let same = length-map rows (λ (v : Vec ℕ Global). v.items) in
    omega (arith, many, same)

pub rows_more : (units : List LayerUnit) (n : ℕ) (rows new : List (Vec ℕ Global)) (row : Vec ℕ Global) → new ≡ rows ++ row ∷ [] → row.items ≡ []
    → AreAscending units n 0 (plain_rows rows) → AreAscending units (n + 1) 0 (plain_rows new)
rows_more units n rows new row push none asc =
    let all : plain_rows new ≡ plain_rows rows ++ row.items ∷ [] = ap plain_rows push ∙ map_push (λ (v : Vec ℕ Global). v.items) rows row in
    let many = asc.as_many in
    record {
      as_many = ap length all ∙ length_push (plain_rows rows) row.items ∙ ap (λ m. m + 1) many;
      each = λ r h. elim (cases_eq r n) [
        | inl same ↦ ap (λ rs. row_at rs r) all ∙ get_or_push (plain_rows rows) row.items [] r (omega (arith, many, same)) ∙ none
        | inr other ↦
            ap (λ rs. row_at rs r) all
            ∙ get_or_append_left (plain_rows rows) (row.items ∷ []) [] r (omega (arith, many, h, other))
            ∙ asc.each r (omega (arith, h, other))
      ];
    }

pub row_pushed : (rows new : List (Vec ℕ Global)) (i u : ℕ) (row d : Vec ℕ Global) → i < length rows → new ≡ set rows i row → row.items ≡ (get_or rows i d).items ++ u ∷ []
    → plain_rows new ≡ set (plain_rows rows) i (row_at (plain_rows rows) i ++ u ∷ [])
row_pushed rows new i u row d h write push =
    ap plain_rows write
    ∙ map-set (λ (v : Vec ℕ Global). v.items) rows i row
    ∙ ap (λ ks. set (plain_rows rows) i ks) (push ∙ ap (λ ks. ks ++ u ∷ []) (sym (get_or-map (λ (v : Vec ℕ Global). v.items) rows i d [] h)))

-- the row to which a unit is put
row_last : (units : List LayerUnit) (r n : ℕ) → row_to units r (n + 1) ≡ row_to units r n ++ cond ((unit_at units n).layer == r) (n ∷ []) []
row_last units r n =
    let none : 0 + n ≡ n = omega arith in
    filter_last (λ u. (unit_at units u).layer == r) 0 n ∙ ap (λ i. row_to units r n ++ cond ((unit_at units i).layer == r) (i ∷ []) []) none

pub filled_more : (units : List LayerUnit) (count n at : ℕ) (rows new : List (List ℕ)) → at ≡ (unit_at units n).layer → at < count → new ≡ set rows at (row_at rows at ++ n ∷ [])
    → AreAscending units count n rows → AreAscending units count (n + 1) new
filled_more units count n at rows new layer less write asc =
    let many = asc.as_many in
    record {
      as_many = ap length write ∙ length-set rows at (row_at rows at ++ n ∷ []) ∙ many;
      each = λ r h. elim (cases_eq r at) [
        | inl same ↦
            ap (λ rs. row_at rs r) write
            ∙ ap (λ i. row_at (set rows at (row_at rows at ++ n ∷ [])) i) same
            ∙ get_or-set_same rows at (row_at rows at ++ n ∷ []) [] (omega (arith, many, less))
            ∙ ap (λ ks. ks ++ n ∷ []) (ap (row_at rows) (sym same) ∙ asc.each r h)
            ∙ sym (row_last units r n ∙ rw (eq-eqb (unit_at units n).layer r (sym layer ∙ sym same)) refl)
        | inr other ↦
            ap (λ rs. row_at rs r) write
            ∙ get_or-set_other rows at r (row_at rows at ++ n ∷ []) [] other
            ∙ asc.each r h
            ∙ sym (row_last units r n ∙ rw (ne_eqb (unit_at units n).layer r (λ e. other (sym (layer ∙ e)))) (append-nil (row_to units r n)))
      ];
    }

-- such rows are rows of the level
module _ (l : Plain) (sound : IsSound l) (rows : List (List ℕ)) (asc : AreAscending l.units l.layers (length l.units) rows) where
  abbrev whole : ℕ → List ℕ
  whole r = row_to l.units r (length l.units)

  held : (r i : ℕ) → i < length (whole r) → (slice_index (whole r) i < length l.units) × (layer_of l (slice_index (whole r) i) ≡ r)
  held r i h =
      let has = filter_has (λ u. eqb (unit_at l.units u).layer r) (range_with_len 0 (length l.units)) (get_or (whole r) i 0) (has_at (whole r) i 0 h) in
      let less = (range_has 0 (length l.units) (get_or (whole r) i 0) has.0).1 in
      (omega (arith, less), eqb-true (layer_of l (get_or (whole r) i 0)) r has.1)

  entry : (r i : ℕ) → r < l.layers → i < length (row_at rows r) → (slice_index (row_at rows r) i < length l.units) × (layer_of l (slice_index (row_at rows r) i) ≡ r)
  entry r i h = subst (λ (row : List ℕ). i < length row → (slice_index row i < length l.units) × (layer_of l (slice_index row i) ≡ r)) (sym (asc.each r h)) (held r i)

  has_unit : (u : ℕ) → u < length l.units → HasUnit (whole (layer_of l u)) u
  has_unit u h =
      let found = at_has (whole (layer_of l u)) 0 u (has_filter (λ v. eqb (unit_at l.units v).layer (layer_of l u)) (range_with_len 0 (length l.units)) u (has_range 0 (length l.units) u (omega arith) (omega (arith, h))) (eq-eqb (layer_of l u) (layer_of l u) refl)) in
      record { place = found.0; within = found.1; unit_is = found.2 }

  row_once : (r i j : ℕ) → i < j → j < length (whole r) → slice_index (whole r) i ≡ slice_index (whole r) j → ⊥
  row_once r i j h less same = let up = rising (λ u. eqb (unit_at l.units u).layer r) 0 (length l.units) i j h less in absurd (omega (arith, up, same))

  pub are_rows : AreRows l rows
  are_rows =
      let many = asc.as_many in
      record {
        as_many = many;
        in_range = λ r h i less. (entry r i (omega (arith, h, many)) less).0;
        in_layer = λ r h i less. (entry r i (omega (arith, h, many)) less).1;
        complete = λ u h. subst (λ (row : List ℕ). HasUnit row u) (sym (asc.each (layer_of l u) (sound.layers_are u h))) (has_unit u h);
        once = λ r h i j less inside.
            subst (λ (row : List ℕ). j < length row → slice_index row i ≡ slice_index row j → ⊥) (sym (asc.each r (omega (arith, h, many)))) (λ more same. row_once r i j less more same) inside;
      }
