-- The first spots with a dock.
use Rattle.std.proofs.Common.{◌≡◌, ◌≢◌, ◌⊎◌, ℕ, zero, suc, ℤ, ◌+◌, ◌<◌, ◌≤◌, List, [], ◌∷◌, ◌++◌, length, get_or, Bool, true, false, Option, Some, refl, sym, ◌∙◌, ap, subst, inl, inr, arith, true≢false, append-nil}
use Rattle.std.specs.Prelude.{unwrap_or}
use Rattle.std.specs.Ordering.{int_eq}
use Rattle.std.specs.List.{filter, range_with_len}
use Rattle.std.proofs.lemmas.Bool.{cases_eq, cases_order, cases_Bool, and_from, and_left, and_right, and_parts}
use Rattle.std.proofs.lemmas.Bool.Decides.{Decides-int_eq}
use Rattle.std.proofs.lemmas.List.{get_or-set_same, get_or-set_other, length-set}
use Rattle.std.proofs.lemmas.List.Elements.{filter-append}
use Rattle.drawing_types.specs.declared.shape.Side.{Side}
use Rattle.drawing_types.specs.declared.shape.Dock.{Dock}
use Rattle.drawing_types.specs.Shapes.{is_side}
use Rattle.level_model.specs.Level.{first_or}
use Rattle.dock_table.specs.Lanes.{AreFirstSpots, NotesFirstSpot, first_same, first_some, same_dock, seen_test}
use Rattle.dock_table.specs.Outlines.{dock_in}
use Rattle.dock_table.proofs.EndLemmas.{range_more}
use Rattle.dock_table.proofs.SpotLemmas.{filter_yes, filter_no}
use Rattle.port_order.proofs.OrderLemmas.{side_same, side_itself}

pub side_other : (s t : Side) → s ≢ t → is_side s t ≡ false
side_other s t ne = elim (cases_Bool (is_side s t)) [ inl passed ↦ absurd (ne (side_same s t passed)) | inr no_side ↦ no_side ]

int_self : (z : ℤ) → int_eq z z ≡ true
int_self z = (Decides-int_eq z z).1 refl

int_other : (x y : ℤ) → x ≢ y → int_eq x y ≡ false
int_other x y ne = elim (cases_Bool (int_eq x y)) [ inl passed ↦ absurd (ne ((Decides-int_eq x y).0 passed)) | inr different ↦ different ]

pub cases_int : (x y : ℤ) → (x ≡ y) ⊎ (x ≢ y)
cases_int x y = elim (cases_Bool (int_eq x y)) [
  | inl passed ↦ inl ((Decides-int_eq x y).0 passed)
  | inr different ↦ inr (λ e. true≢false (sym ((Decides-int_eq x y).1 e) ∙ different))
]

-- ---- tests of the numbers below a bound

pub filter_more : (test : ℕ → Bool) (i : ℕ) → filter test (range_with_len 0 (i + 1)) ≡ filter test (range_with_len 0 i) ++ filter test (i ∷ [])
filter_more test i =
    let e : 0 + i ≡ i = omega arith in
    ap (filter test) (range_more 0 i) ∙ filter-append test (range_with_len 0 i) ((0 + i) ∷ []) ∙ ap (λ x. filter test (range_with_len 0 i) ++ filter test (x ∷ [])) e

pub filter_more_yes : (test : ℕ → Bool) (i : ℕ) → test i ≡ true → filter test (range_with_len 0 (i + 1)) ≡ filter test (range_with_len 0 i) ++ i ∷ []
filter_more_yes test i t = filter_more test i ∙ ap (λ ns. filter test (range_with_len 0 i) ++ ns) (filter_yes test i t)

pub filter_more_no : (test : ℕ → Bool) (i : ℕ) → test i ≡ false → filter test (range_with_len 0 (i + 1)) ≡ filter test (range_with_len 0 i)
filter_more_no test i f = filter_more test i ∙ ap (λ ns. filter test (range_with_len 0 i) ++ ns) (filter_no test i f) ∙ append-nil (filter test (range_with_len 0 i))

-- the first of the numbers from a on, below a bound, that passes a test, or another
pub record IsFound (test : ℕ → Bool) (a bound d n : ℕ) : Type 0 where
  pub before : (k : ℕ) → a ≤ k → k < bound → k < n → test k ≡ false
  pub found : ((a ≤ n) × (n < bound) × (test n ≡ true)) ⊎ ((n ≡ d) × ((k : ℕ) → a ≤ k → k < bound → test k ≡ false))

pub first_found : (test : ℕ → Bool) (a m d : ℕ) → IsFound test a (a + m) d (first_or (filter test (range_with_len a m)) d)
first_found test a zero d = record { before = λ k low high less. absurd (omega (arith, low, high)); found = inr (refl, λ k low high. absurd (omega (arith, low, high))) }
first_found test a (suc m) d =
    let rest = first_found test (a + 1) m d in
    elim (cases_Bool (test a)) [
      | inl passed ↦ rw passed (record { before = λ k low high less. absurd (omega (arith, low, less)); found = inl (omega arith, omega arith, passed) })
      | inr no_test ↦
          let head : (k : ℕ) → a ≤ k → k < a + suc m → ((a + 1 ≤ k) → (k < a + 1 + m) → test k ≡ false) → test k ≡ false = λ k low high more. elim (cases_eq k a) [
            | inl e ↦ ap test e ∙ no_test
            | inr ne ↦ more (omega (arith, low, ne)) (omega (arith, high))
          ] in
          rw no_test (record {
            before = λ k low high less. head k low high (λ l h. rest.before k l h less);
            found = elim rest.found [
              | inl at ↦ inl (omega (arith, at.0), omega (arith, at.1), at.2)
              | inr none ↦ inr (none.0, λ k low high. head k low high (λ l h. none.1 k l h))
            ];
          })
    ]

-- ---- docks that are the same

pub same_self : (d : Dock) → same_dock d d ≡ true
same_self d = and_from (is_side d.side d.side) (int_eq d.offset d.offset) (side_itself d.side) (int_self d.offset)

pub same_parts : (d k : Dock) → same_dock d k ≡ true → (d.side ≡ k.side) × (d.offset ≡ k.offset)
same_parts d k h = let parts = and_parts (is_side d.side k.side) (int_eq d.offset k.offset) h in (side_same d.side k.side parts.0, (Decides-int_eq d.offset k.offset).0 parts.1)

pub same_from : (d k : Dock) → d.side ≡ k.side → d.offset ≡ k.offset → same_dock d k ≡ true
same_from d k s o = and_from (is_side d.side k.side) (int_eq d.offset k.offset) (subst (λ x. is_side d.side x ≡ true) s (side_itself d.side)) ((Decides-int_eq d.offset k.offset).1 o)

-- the first spot with the dock of a spot
pub record IsFirstSpot (docks : List Dock) (i j : ℕ) : Type 0 where
  pub at_most : j ≤ i
  pub same : same_dock (dock_in docks j) (dock_in docks i) ≡ true
  pub before : (k : ℕ) → k < j → same_dock (dock_in docks k) (dock_in docks i) ≡ false

pub first_spot : (docks : List Dock) (i : ℕ) → IsFirstSpot docks i (first_same docks i)
first_spot docks i =
    let is = first_found (λ m. same_dock (dock_in docks m) (dock_in docks i)) 0 i i in
    elim is.found [
      | inl at ↦
          let below = at.1 in
          record { at_most = omega (arith, below); same = at.2; before = λ k less. is.before k (omega arith) (omega (arith, less, below)) less }
      | inr none ↦
          let e = none.0 in
          record {
            at_most = omega (arith, e);
            same = subst (λ n. same_dock (dock_in docks n) (dock_in docks i) ≡ true) (sym e) (same_self (dock_in docks i));
            before = λ k less. is.before k (omega arith) (omega (arith, less, e)) less;
          }
    ]

-- a first spot with the same dock is the first spot of that dock
pub first_of_same : (docks : List Dock) (i j : ℕ) → first_same docks j ≡ j → same_dock (dock_in docks i) (dock_in docks j) ≡ true → first_same docks i ≡ j
first_of_same docks i j first h =
    let of_i = first_spot docks i in
    let of_j = subst (IsFirstSpot docks j) first (first_spot docks j) in
    let parts = same_parts (dock_in docks i) (dock_in docks j) h in
    let n : ℕ = first_same docks i in
    let np = same_parts (dock_in docks (first_same docks i)) (dock_in docks i) of_i.same in
    elim (cases_order (first_same docks i) j) [
      | inl e ↦ e
      | inr other ↦ elim other [
        | inl less ↦ absurd (true≢false (sym (same_from (dock_in docks (first_same docks i)) (dock_in docks j) (np.0 ∙ parts.0) (np.1 ∙ parts.1)) ∙ of_j.before (first_same docks i) less))
        | inr more ↦ absurd (true≢false (sym (same_from (dock_in docks j) (dock_in docks i) (sym parts.0) (sym parts.1)) ∙ of_i.before j more))
      ]
    ]

-- ---- offsets that were seen

some_first : (ns : List ℕ) (i : ℕ) → first_some (ns ++ i ∷ []) ≡ Some (unwrap_or (first_some ns) i)
some_first [] i = refl
some_first (n ∷ ns) i = refl

pub first_unwrapped : (ns : List ℕ) (i : ℕ) → unwrap_or (first_some ns) i ≡ first_or ns i
first_unwrapped [] i = refl
first_unwrapped (n ∷ ns) i = refl

pub seen_here : (docks : List Dock) (side : Side) (i : ℕ) → (dock_in docks i).side ≡ side
    → first_some (filter (seen_test docks side (dock_in docks i).offset) (range_with_len 0 (i + 1))) ≡ Some (unwrap_or (first_some (filter (seen_test docks side (dock_in docks i).offset) (range_with_len 0 i))) i)
seen_here docks side i is =
    let test = seen_test docks side (dock_in docks i).offset in
    let passed : seen_test docks side (dock_in docks i).offset i ≡ true =
    and_from (is_side (dock_in docks i).side side) (int_eq (dock_in docks i).offset (dock_in docks i).offset) (subst (λ x. is_side (dock_in docks i).side x ≡ true) is (side_itself (dock_in docks i).side)) (int_self (dock_in docks i).offset)
    in
    ap first_some (filter_more_yes (seen_test docks side (dock_in docks i).offset) i passed) ∙ some_first (filter (seen_test docks side (dock_in docks i).offset) (range_with_len 0 i)) i

pub seen_elsewhere : (docks : List Dock) (side : Side) (i : ℕ) (z : ℤ) → z ≢ (dock_in docks i).offset → filter (seen_test docks side z) (range_with_len 0 (i + 1)) ≡ filter (seen_test docks side z) (range_with_len 0 i)
seen_elsewhere docks side i z ne = filter_more_no (seen_test docks side z) i (and_right (is_side (dock_in docks i).side side) (int_eq (dock_in docks i).offset z) (int_other (dock_in docks i).offset z (λ e. ne (sym e))))

pub seen_beside : (docks : List Dock) (side : Side) (i : ℕ) (z : ℤ) → (dock_in docks i).side ≢ side → filter (seen_test docks side z) (range_with_len 0 (i + 1)) ≡ filter (seen_test docks side z) (range_with_len 0 i)
seen_beside docks side i z ne = filter_more_no (seen_test docks side z) i (and_left (is_side (dock_in docks i).side side) (int_eq (dock_in docks i).offset z) (side_other (dock_in docks i).side side ne))

-- ---- spot by spot

pub cases_side : (s t : Side) → (s ≡ t) ⊎ (s ≢ t)
cases_side s t = elim (cases_Bool (is_side s t)) [ inl passed ↦ inl (side_same s t passed) | inr other ↦ inr (λ e. true≢false (sym (subst (λ x. is_side s x ≡ true) e (side_itself s)) ∙ other)) ]

abbrev SeenTo : List Dock → Side → ℕ → (ℤ → Option ℕ) → Type 0
SeenTo docks side i seen = (z : ℤ) → seen z ≡ first_some (filter (seen_test docks side z) (range_with_len 0 i))

pub seen_more : (docks : List Dock) (side : Side) (i : ℕ) (old new : List ℕ) (seen seen_now : ℤ → Option ℕ) → NotesFirstSpot (dock_in docks i) side i old new seen seen_now → SeenTo docks side i seen → SeenTo docks side (i + 1) seen_now
seen_more docks side i old new seen seen_now step s z = elim (cases_side (dock_in docks i).side side) [
  | inr beside ↦ step.unseen beside z ∙ s z ∙ sym (ap first_some (seen_beside docks side i z beside))
  | inl on ↦ elim (cases_int z (dock_in docks i).offset) [
    | inr other ↦ step.elsewhere on z other ∙ s z ∙ sym (ap first_some (seen_elsewhere docks side i z other))
    | inl e ↦
        ap seen_now e ∙ step.there on
        ∙ ap (λ (o : Option ℕ). Some (unwrap_or o i)) (s (dock_in docks i).offset)
        ∙ sym (seen_here docks side i on)
        ∙ sym (ap (λ x. first_some (filter (seen_test docks side x) (range_with_len 0 (i + 1)))) e)
  ]
]

first_value : (docks : List Dock) (side : Side) (i : ℕ) (seen : ℤ → Option ℕ) → (dock_in docks i).side ≡ side → SeenTo docks side i seen → unwrap_or (seen (dock_in docks i).offset) i ≡ first_same docks i
first_value docks side i seen on s =
    ap (λ (o : Option ℕ). unwrap_or o i) (s (dock_in docks i).offset)
    ∙ first_unwrapped (filter (seen_test docks side (dock_in docks i).offset) (range_with_len 0 i)) i
    ∙ ap (λ x. first_or (filter (seen_test docks x (dock_in docks i).offset) (range_with_len 0 i)) i) (sym on)

pub noted_more : (docks : List Dock) (side : Side) (i : ℕ) (old new : List ℕ) (seen seen_now : ℤ → Option ℕ) → NotesFirstSpot (dock_in docks i) side i old new seen seen_now → i < length old → SeenTo docks side i seen
    → ((j : ℕ) → j < i → (dock_in docks j).side ≡ side → get_or old j 0 ≡ first_same docks j) → (j : ℕ) → j < i + 1 → (dock_in docks j).side ≡ side → get_or new j 0 ≡ first_same docks j
noted_more docks side i old new seen seen_now step inside s before j less on_j = elim (cases_side (dock_in docks i).side side) [
  | inl on ↦ elim (cases_eq j i) [
    | inl e ↦
        subst (λ x. get_or new x 0 ≡ first_same docks x) (sym e)
        (ap (λ xs. get_or xs i 0) (step.noted on) ∙ get_or-set_same old i (unwrap_or (seen (dock_in docks i).offset) i) 0 inside ∙ first_value docks side i seen on s)
    | inr ne ↦ ap (λ xs. get_or xs j 0) (step.noted on) ∙ get_or-set_other old i j (unwrap_or (seen (dock_in docks i).offset) i) 0 ne ∙ before j (omega (arith, less, ne)) on_j
  ]
  | inr beside ↦ elim (cases_eq j i) [
    | inl e ↦ absurd (beside (ap (λ x. (dock_in docks x).side) (sym e) ∙ on_j))
    | inr ne ↦ ap (λ xs. get_or xs j 0) (step.beside beside) ∙ before j (omega (arith, less, ne)) on_j
  ]
]

pub kept_more : (docks : List Dock) (side : Side) (i : ℕ) (start old new : List ℕ) (seen seen_now : ℤ → Option ℕ) → NotesFirstSpot (dock_in docks i) side i old new seen seen_now
    → ((j : ℕ) → (dock_in docks j).side ≢ side → get_or old j 0 ≡ get_or start j 0) → (j : ℕ) → (dock_in docks j).side ≢ side → get_or new j 0 ≡ get_or start j 0
kept_more docks side i start old new seen seen_now step before j off = elim (cases_side (dock_in docks i).side side) [
  | inl on ↦
      let ne : j ≢ i = λ e. off (ap (λ x. (dock_in docks x).side) e ∙ on) in
      ap (λ xs. get_or xs j 0) (step.noted on) ∙ get_or-set_other old i j (unwrap_or (seen (dock_in docks i).offset) i) 0 ne ∙ before j off
  | inr beside ↦ ap (λ xs. get_or xs j 0) (step.beside beside) ∙ before j off
]

pub long_more : (docks : List Dock) (side : Side) (i : ℕ) (old new : List ℕ) (seen seen_now : ℤ → Option ℕ) → NotesFirstSpot (dock_in docks i) side i old new seen seen_now → length new ≡ length old
long_more docks side i old new seen seen_now step = elim (cases_side (dock_in docks i).side side) [
  | inl on ↦ ap length (step.noted on) ∙ length-set old i (unwrap_or (seen (dock_in docks i).offset) i)
  | inr beside ↦ ap length (step.beside beside)
]

-- the first spot of a dock is a spot
pub first_within : (docks : List Dock) (firsts : List ℕ) (i : ℕ) → AreFirstSpots docks firsts → i < length docks → get_or firsts i 0 < length docks
first_within docks firsts i are h =
    let is = are.first_is i h in
    let most = (first_spot docks i).at_most in
    omega (arith, is, most, h)
