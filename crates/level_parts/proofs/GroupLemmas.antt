-- Rows while numbers are put into them.
use Rattle.std.proofs.Common.{◌≡◌, ℕ, zero, suc, ◌+◌, ◌<◌, ◌≤◌, ◌==◌, List, [], ◌∷◌, ◌++◌, Vec, Global, length, get_or, set, slice_index, arith, refl, sym, ap, subst, inl, inr, ◌∙◌, eq-eqb, ne_eqb}
use Rattle.std.proofs.lemmas.Bool.{cases_eq, cases_lt}
use Rattle.std.proofs.lemmas.List.{get_or-map, get_or-set_other, get_or-set_same, get_or_append_left, get_or_push, length-map, length-set, length_push, map-set, map_push}
use Rattle.network_parts.specs.Divided.{nodes_to, place_of}
use Rattle.network_parts.specs.Dividing.{AreCounted, ArePlaces}
use Rattle.network_parts.proofs.RangeLemmas.{few_picked, filter_no, filter_yes}
use Rattle.level_parts.specs.Groups.{HoldRows, lists_of, row_at}

-- ---- counts

pub none_counted : (numbers : List ℕ) → AreCounted numbers 0 0
none_counted numbers = record { below = λ v h. absurd (omega (arith, h)); last = λ h. absurd (omega (arith, h)) }

-- ---- rows

pub row_read : (rows : List (Vec ℕ Global)) (k : ℕ) (d : Vec ℕ Global) → k < length rows → (get_or rows k d).items ≡ row_at (lists_of rows) k
row_read rows k d h = sym (get_or-map (λ (r : Vec ℕ Global). r.items) rows k d [] h)

pub row_written : (rows : List (Vec ℕ Global)) (k i : ℕ) (d new : Vec ℕ Global) → k < length rows → new.items ≡ (get_or rows k d).items ++ i ∷ []
    → lists_of (set rows k new) ≡ set (lists_of rows) k (row_at (lists_of rows) k ++ i ∷ [])
row_written rows k i d new h pushed =
    map-set (λ (r : Vec ℕ Global). r.items) rows k new
    ∙ ap (set (lists_of rows) k) (pushed ∙ ap (λ (xs : List ℕ). xs ++ i ∷ []) (row_read rows k d h))

pub empty_more : (rows new : List (Vec ℕ Global)) (row : Vec ℕ Global) → new ≡ rows ++ row ∷ [] → row.items ≡ [] → ((k : ℕ) → row_at (lists_of rows) k ≡ []) → (k : ℕ) → row_at (lists_of new) k ≡ []
empty_more rows new row pushed is none k =
    ap (λ (rs : List (Vec ℕ Global)). row_at (lists_of rs) k) pushed
    ∙ ap (λ rs. row_at rs k) (map_push (λ (r : Vec ℕ Global). r.items) rows row)
    ∙ step (lists_of rows) none k
  where
    step : (rs : List (List ℕ)) → ((j : ℕ) → row_at rs j ≡ []) → (j : ℕ) → row_at (rs ++ row.items ∷ []) j ≡ []
    step [] h zero = is
    step [] h (suc j) = refl
    step (r ∷ rs) h zero = h 0
    step (r ∷ rs) h (suc j) = step rs (λ i. h (suc i)) j

pub row_few : (keys : List ℕ) (n k : ℕ) (rows : List (List ℕ)) → k < length rows → HoldRows keys n rows → length (row_at rows k) ≤ n
row_few keys n k rows h hold =
    let is = ap length (hold k h) in
    let few = few_picked (λ v. slice_index keys v == k) n in
    omega (arith, is, few)

pub rows_more : (keys : List ℕ) (n : ℕ) (rows new : List (List ℕ)) → slice_index keys n < length rows → new ≡ set rows (slice_index keys n) (row_at rows (slice_index keys n) ++ n ∷ [])
    → HoldRows keys n rows → HoldRows keys (n + 1) new
rows_more keys n rows new there write hold k h =
    let key = slice_index keys n in
    let long = ap length write ∙ length-set rows key (row_at rows key ++ n ∷ []) in
    let inside : k < length rows = omega (arith, h, long) in
    ap (λ rs. row_at rs k) write
    ∙ elim (cases_eq k key) [
      | inl same ↦
          ap (λ i. row_at (set rows key (row_at rows key ++ n ∷ [])) i) same
          ∙ get_or-set_same rows key (row_at rows key ++ n ∷ []) [] there
          ∙ ap (λ (xs : List ℕ). xs ++ n ∷ []) (hold key there)
          ∙ sym (filter_yes (λ e. slice_index keys e == key) n (eq-eqb key key refl))
          ∙ ap (λ p. nodes_to keys p (n + 1)) (sym same)
      | inr other ↦
          get_or-set_other rows key k (row_at rows key ++ n ∷ []) [] other
          ∙ hold k inside
          ∙ sym (filter_no (λ e. slice_index keys e == k) n (ne_eqb key k (λ e. other (sym e))))
    ]

pub no_places : (keys places : List ℕ) → places ≡ [] → ArePlaces keys 0 places
no_places keys places e = record { as_many = ap length e; each = λ v h. absurd (omega (arith, h)) }

pub place_more : (keys : List ℕ) (n place : ℕ) (rows : List (List ℕ)) (places new : List ℕ) → slice_index keys n < length rows → HoldRows keys n rows → place ≡ length (row_at rows (slice_index keys n)) → new ≡ places ++ place ∷ []
    → ArePlaces keys n places → ArePlaces keys (n + 1) new
place_more keys n place rows places new there hold is pushed are =
    let many = are.as_many in
    record {
      as_many = ap length pushed ∙ length_push places place ∙ ap (λ m. m + 1) many;
      each = λ v h. ap (λ (xs : List ℕ). slice_index xs v) pushed ∙ elim (cases_lt v n) [
        | inl less ↦ get_or_append_left places (place ∷ []) 0 v (omega (arith, less, many)) ∙ are.each v less
        | inr most ↦
            let same : v ≡ n = omega (arith, h, most) in
            get_or_push places place 0 v (many ∙ sym same) ∙ is ∙ ap length (hold (slice_index keys n) there) ∙ ap (place_of keys) (sym same)
      ];
    }

-- a row that is read
pub row_found : (keys : List ℕ) (n k : ℕ) (xs rows : List (Vec ℕ Global)) (row : Vec ℕ Global) → xs ≡ rows → k < length xs → row ≡ get_or xs k row → HoldRows keys n (lists_of rows) → row.items ≡ nodes_to keys k n
row_found keys n k xs rows row same h is hold =
    let long = length-map xs (λ (r : Vec ℕ Global). r.items) in
    let inside : k < length (lists_of xs) = omega (arith, h, long) in
    ap (λ (r : Vec ℕ Global). r.items) is ∙ row_read xs k row h ∙ subst (λ (rs : List (Vec ℕ Global)). HoldRows keys n (lists_of rs)) (sym same) hold k inside
