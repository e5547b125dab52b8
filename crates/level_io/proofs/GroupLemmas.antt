-- Groups while numbers are added to them.
use Rattle.std.proofs.Common.{◌≡◌, ◌≢◌, ℕ, zero, suc, ◌+◌, ◌<◌, ◌≤◌, Bool, true, false, List, [], ◌∷◌, ◌++◌, Vec, Global, Option, None, Some, length, get_or, set, slice_index, arith, refl, sym, ap, inl, inr, ◌∙◌, add-one, eq-eqb, ne_eqb}
use Rattle.std.proofs.lemmas.Bool.{cases_Bool, cases_eq, cases_lt}
use Rattle.std.proofs.lemmas.List.{get_or-map, get_or-set_other, get_or-set_same, get_or_append_left, get_or_push, length-set, length_push, map-set, map_push}
use Rattle.elk_doc.specs.Level.{is_number}
use Rattle.elk_doc.specs.Numbers.{numbers_below, count_below}
use Rattle.elk_doc.proofs.NumberLaws.{numbers_below-more, numbers_below-same, length-numbers_below, count_below-suc, count_below-suc_same}
use Rattle.level_io.specs.Grouping.{AreGrouped, ArePlacesIn, key_at, is_in, row_at, rows_in}

-- ---- groups as lists

pub row_written : (rows : List (Vec ℕ Global)) (k x : ℕ) (d row : Vec ℕ Global) → k < length rows → row.items ≡ (get_or rows k d).items ++ x ∷ []
    → rows_in (set rows k row) ≡ set (rows_in rows) k (row_at (rows_in rows) k ++ x ∷ [])
row_written rows k x d row h pushed =
    map-set (λ (r : Vec ℕ Global). r.items) rows k row
    ∙ ap (set (rows_in rows) k) (pushed ∙ ap (λ (xs : List ℕ). xs ++ x ∷ []) (sym (get_or-map (λ (r : Vec ℕ Global). r.items) rows k d [] h)))

-- groups without numbers
default_more : {X : Type 0} (d x : X) (xs : List X) → x ≡ d → ((k : ℕ) → get_or xs k d ≡ d) → (k : ℕ) → get_or (xs ++ x ∷ []) k d ≡ d
default_more d x [] is h zero = is
default_more d x [] is h (suc k) = refl
default_more d x (y ∷ ys) is h zero = h 0
default_more d x (y ∷ ys) is h (suc k) = default_more d x ys is (λ j. h (suc j)) k

pub rows_more : (rows new : List (Vec ℕ Global)) (row : Vec ℕ Global) → new ≡ rows ++ row ∷ [] → row.items ≡ [] → ((k : ℕ) → row_at (rows_in rows) k ≡ []) → (k : ℕ) → row_at (rows_in new) k ≡ []
rows_more rows new row pushed is none k =
    ap (λ (rs : List (Vec ℕ Global)). row_at (rows_in rs) k) pushed ∙ ap (λ rs. row_at rs k) (map_push (λ (r : Vec ℕ Global). r.items) rows row) ∙ default_more [] row.items (rows_in rows) is none k

pub none_grouped : (keys : List (Option ℕ)) (rows : List (List ℕ)) → ((k : ℕ) → row_at rows k ≡ []) → AreGrouped keys 0 rows
unfolding numbers_below
none_grouped keys rows none k h = none k

-- ---- one number more

in_group : (keys : List (Option ℕ)) (n k : ℕ) → key_at keys n ≡ Some k → is_in keys k n ≡ true
in_group keys n k e = ap (λ o. is_number o k) e ∙ eq-eqb k k refl

in_other : (keys : List (Option ℕ)) (n k j : ℕ) → key_at keys n ≡ Some k → j ≢ k → is_in keys j n ≡ false
in_other keys n k j e other = ap (λ o. is_number o j) e ∙ ne_eqb k j (λ s. other (sym s))

in_none : (keys : List (Option ℕ)) (n j : ℕ) → key_at keys n ≡ None → is_in keys j n ≡ false
in_none keys n j e = ap (λ o. is_number o j) e

numbers_more : (p : ℕ → Bool) (n : ℕ) → p n ≡ true → numbers_below p (n + 1) ≡ numbers_below p n ++ n ∷ []
numbers_more p n e = ap (numbers_below p) (add-one n) ∙ numbers_below-more p n e

numbers_same : (p : ℕ → Bool) (n : ℕ) → p n ≡ false → numbers_below p (n + 1) ≡ numbers_below p n
numbers_same p n e = ap (numbers_below p) (add-one n) ∙ numbers_below-same p n e

pub grouped_more : (keys : List (Option ℕ)) (n k : ℕ) (rows new : List (List ℕ)) → key_at keys n ≡ Some k → k < length rows → new ≡ set rows k (row_at rows k ++ n ∷ [])
    → AreGrouped keys n rows → AreGrouped keys (n + 1) new
grouped_more keys n k rows new key there write hold j h =
    let row = row_at rows k ++ n ∷ [] in
    let long = ap length write ∙ length-set rows k row in
    let inside : j < length rows = omega (arith, h, long) in
    ap (λ rs. row_at rs j) write
    ∙ elim (cases_eq j k) [
      | inl same ↦
          ap (λ i. row_at (set rows k row) i) same
          ∙ get_or-set_same rows k row [] there
          ∙ ap (λ (xs : List ℕ). xs ++ n ∷ []) (hold k there)
          ∙ sym (numbers_more (is_in keys k) n (in_group keys n k key))
          ∙ ap (λ i. numbers_below (is_in keys i) (n + 1)) (sym same)
      | inr other ↦
          get_or-set_other rows k j row [] other
          ∙ hold j inside
          ∙ sym (numbers_same (is_in keys j) n (in_other keys n k j key other))
    ]

pub grouped_same : (keys : List (Option ℕ)) (n : ℕ) (rows : List (List ℕ)) → key_at keys n ≡ None → AreGrouped keys n rows → AreGrouped keys (n + 1) rows
grouped_same keys n rows key hold j h = hold j h ∙ sym (numbers_same (is_in keys j) n (in_none keys n j key))

-- a group of numbers below n has no more than n
pub count_few : (p : ℕ → Bool) (n : ℕ) → count_below p n ≤ n
unfolding count_below
count_few p zero = omega arith
count_few p (suc n) =
    let h = count_few p n in
    elim (cases_Bool (p n)) [
      | inl e ↦ (let x = count_below-suc p n e in omega (arith, h, x))
      | inr e ↦ (let x = count_below-suc_same p n e in omega (arith, h, x))
    ]

pub group_few : (keys : List (Option ℕ)) (n k : ℕ) (rows : List (List ℕ)) → k < length rows → AreGrouped keys n rows → length (row_at rows k) ≤ n
group_few keys n k rows there hold =
    let long = ap length (hold k there) in
    let many = length-numbers_below (is_in keys k) n in
    let few = count_few (is_in keys k) n in
    omega (arith, long, many, few)

pub none_placed : (keys : List (Option ℕ)) (places : List ℕ) → places ≡ [] → ArePlacesIn keys 0 places
none_placed keys places e = record { as_many = ap length e; each = λ i k h. absurd (omega (arith, h)) }

pub placed_more : (keys : List (Option ℕ)) (n place : ℕ) (rows : List (List ℕ)) (places new : List ℕ) → ((k : ℕ) → key_at keys n ≡ Some k → k < length rows) → AreGrouped keys n rows
    → ((k : ℕ) → key_at keys n ≡ Some k → place ≡ length (row_at rows k)) → new ≡ places ++ place ∷ []
    → ArePlacesIn keys n places → ArePlacesIn keys (n + 1) new
placed_more keys n place rows places new there hold is pushed are =
    let many = are.as_many in
    record {
      as_many = ap length pushed ∙ length_push places place ∙ ap (λ m. m + 1) many;
      each = λ i k h key. ap (λ (xs : List ℕ). slice_index xs i) pushed ∙ elim (cases_lt i n) [
        | inl less ↦ get_or_append_left places (place ∷ []) 0 i (omega (arith, less, many)) ∙ are.each i k less key
        | inr most ↦
            let same : i ≡ n = omega (arith, h, most) in
            let here : key_at keys n ≡ Some k = ap (key_at keys) (sym same) ∙ key in
            get_or_push places place 0 i (many ∙ sym same) ∙ is k here ∙ ap length (hold k (there k here)) ∙ length-numbers_below (is_in keys k) n
            ∙ ap (count_below (is_in keys k)) (sym same)
      ];
    }
