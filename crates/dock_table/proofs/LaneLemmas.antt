-- Which docks have lanes, and how lanes are numbered.
use Rattle.std.proofs.Common.{◌≡◌, ◌≢◌, ℕ, zero, suc, ℤ, ◌+◌, ◌<◌, ◌≤◌, ◌^◌, ◌==◌, List, [], ◌∷◌, ◌++◌, length, get_or, set, Bool, true, false, ◌&&◌, ◌||◌, cond, Option, None, Some, refl, sym, ◌∙◌, ap, subst, inl, inr, arith, ne_eqb, true≢false}
use Rattle.std.specs.List.{filter, list_any, range_with_len}
use Rattle.std.proofs.lemmas.Bool.{cases_eq, cases_lt, cases_Bool, and_from, and_left, and_right}
use Rattle.std.proofs.lemmas.List.{get_or-set_same, get_or-set_other, get_or_append_left, get_or_past, get_or_push, length-set, length_push}
use Rattle.std.proofs.lemmas.List.Folds.{list_any-append}
use Rattle.drawing_types.specs.declared.shape.Side.{Side}
use Rattle.drawing_types.specs.declared.shape.Side.TheVariants.{North, East, South, West}
use Rattle.drawing_types.specs.declared.shape.Dock.{Dock}
use Rattle.port_order.specs.declared.spots.Spot.{Spot}
use Rattle.port_order.specs.Child.{spot_at}
use Rattle.level_model.specs.Lanes.{asks_lane, side_by}
use Rattle.dock_table.specs.Lanes.{AreAsked, AreFirstSpots, AreLanePlaces, NumbersLanes, asked, first_same, is_on, lane_at, lane_in, lanes_to, same_dock}
use Rattle.dock_table.specs.Outlines.{dock_in}
use Rattle.dock_table.proofs.EndLemmas.{range_more}
use Rattle.dock_table.proofs.FirstLemmas.{filter_more_no, filter_more_yes, first_of_same, first_spot, same_from, same_parts}
use Rattle.dock_table.proofs.SpotLemmas.{or_false}

pub or_true : (b : Bool) → (b || true) ≡ true
or_true true = refl
or_true false = refl

-- some number below a bound passes a test
pub any_more : (test : ℕ → Bool) (i : ℕ) → list_any test (range_with_len 0 (i + 1)) ≡ (list_any test (range_with_len 0 i) || test i)
any_more test i =
    let e : 0 + i ≡ i = omega arith in
    ap (list_any test) (range_more 0 i) ∙ list_any-append test (range_with_len 0 i) ((0 + i) ∷ []) ∙ ap (λ x. list_any test (range_with_len 0 i) || (test x || false)) e
    ∙ ap (λ b. list_any test (range_with_len 0 i) || b) (or_false (test i))

abbrev asks_at : List Dock → List Spot → ℕ → ℕ → Bool
asks_at docks spots i j = asks_lane (dock_in docks j).side (spot_at spots i).leaves (spot_at spots i).enters

asked_same : (docks : List Dock) (spots : List Spot) (i j : ℕ) → same_dock (dock_in docks i) (dock_in docks j) ≡ false → asked docks spots (i + 1) j ≡ asked docks spots i j
asked_same docks spots i j differ =
    any_more (λ m. same_dock (dock_in docks m) (dock_in docks j) && asks_at docks spots m j) i
    ∙ ap (λ b. asked docks spots i j || b) (and_left (same_dock (dock_in docks i) (dock_in docks j)) (asks_at docks spots i j) differ)
    ∙ or_false (asked docks spots i j)

asked_quiet : (docks : List Dock) (spots : List Spot) (i j : ℕ) → asks_at docks spots i j ≡ false → asked docks spots (i + 1) j ≡ asked docks spots i j
asked_quiet docks spots i j quiet =
    any_more (λ m. same_dock (dock_in docks m) (dock_in docks j) && asks_at docks spots m j) i
    ∙ ap (λ b. asked docks spots i j || b) (and_right (same_dock (dock_in docks i) (dock_in docks j)) (asks_at docks spots i j) quiet)
    ∙ or_false (asked docks spots i j)

asked_yes : (docks : List Dock) (spots : List Spot) (i j : ℕ) → same_dock (dock_in docks i) (dock_in docks j) ≡ true → asks_at docks spots i j ≡ true → asked docks spots (i + 1) j ≡ true
asked_yes docks spots i j same asks =
    any_more (λ m. same_dock (dock_in docks m) (dock_in docks j) && asks_at docks spots m j) i
    ∙ ap (λ b. asked docks spots i j || b) (and_from (same_dock (dock_in docks i) (dock_in docks j)) (asks_at docks spots i j) same asks)
    ∙ or_true (asked docks spots i j)

pub asked_start : (docks : List Dock) (spots : List Spot) (marks : List Bool) → length marks ≡ length docks → ((j : ℕ) → j < length docks → get_or marks j false ≡ false) → AreAsked docks spots 0 marks
asked_start docks spots marks long clear = record { as_long = long; mark_is = λ j h first. clear j h }

-- a spot that asks for a lane, and one that does not
pub asked_marked : (docks : List Dock) (spots : List Spot) (firsts : List ℕ) (i : ℕ) (marks : List Bool) → AreFirstSpots docks firsts → i < length docks → asks_at docks spots i i ≡ true
    → AreAsked docks spots i marks → AreAsked docks spots (i + 1) (set marks (get_or firsts i 0) true)
asked_marked docks spots firsts i marks are h asks s =
    let of_i = first_spot docks i in
    let first_is = are.first_is i h in
    let at_most = of_i.at_most in
    let inside : get_or firsts i 0 < length marks = omega (arith, h, first_is, at_most, s.as_long) in
    record {
      as_long = length-set marks (get_or firsts i 0) true ∙ s.as_long;
      mark_is = λ j less first. elim (cases_eq j (get_or firsts i 0)) [
        | inl e ↦
            let q : j ≡ first_same docks i = e ∙ first_is in
            let parts = same_parts (dock_in docks (first_same docks i)) (dock_in docks i) of_i.same in
            let same : same_dock (dock_in docks i) (dock_in docks j) ≡ true = is_reversed (dock_in docks j) (dock_in docks i) (subst (λ n. same_dock (dock_in docks n) (dock_in docks i) ≡ true) (sym q) of_i.same) in
            let side : (dock_in docks i).side ≡ (dock_in docks j).side = (same_parts (dock_in docks i) (dock_in docks j) same).0 in
            let asks_j : asks_at docks spots i j ≡ true = subst (λ (x : Side). asks_lane x (spot_at spots i).leaves (spot_at spots i).enters ≡ true) side asks in
            ap (λ x. get_or (set marks (get_or firsts i 0) true) x false) e ∙ get_or-set_same marks (get_or firsts i 0) true false inside ∙ sym (asked_yes docks spots i j same asks_j)
        | inr ne ↦
            let differ : same_dock (dock_in docks i) (dock_in docks j) ≡ false = elim (cases_Bool (same_dock (dock_in docks i) (dock_in docks j))) [
              | inl passed ↦ absurd (ne (sym (first_is ∙ first_of_same docks i j first passed)))
              | inr no_same ↦ no_same
            ] in
            get_or-set_other marks (get_or firsts i 0) j true false ne ∙ s.mark_is j less first ∙ sym (asked_same docks spots i j differ)
      ];
    }
  where
    is_reversed : (d k : Dock) → same_dock d k ≡ true → same_dock k d ≡ true
    is_reversed d k e = let parts = same_parts d k e in same_from k d (sym parts.0) (sym parts.1)

pub asked_kept : (docks : List Dock) (spots : List Spot) (i : ℕ) (marks : List Bool) → asks_at docks spots i i ≡ false → AreAsked docks spots i marks → AreAsked docks spots (i + 1) marks
asked_kept docks spots i marks quiet s =
    record {
      as_long = s.as_long;
      mark_is = λ j less first. elim (cases_Bool (same_dock (dock_in docks i) (dock_in docks j))) [
        | inl passed ↦
            let side : (dock_in docks i).side ≡ (dock_in docks j).side = (same_parts (dock_in docks i) (dock_in docks j) passed).0 in
            let quiet_j : asks_at docks spots i j ≡ false = subst (λ (x : Side). asks_lane x (spot_at spots i).leaves (spot_at spots i).enters ≡ false) side quiet in
            s.mark_is j less first ∙ sym (asked_quiet docks spots i j quiet_j)
        | inr no_same ↦ s.mark_is j less first ∙ sym (asked_same docks spots i j no_same)
      ];
    }

-- the lane of the dock that first stands at a spot, by what was found of the spot
pub lane_read : (height : ℤ) (docks : List Dock) (spots : List Spot) (firsts : List ℕ) (marks : List Bool) (j : ℕ) → j < length docks → AreFirstSpots docks firsts → AreAsked docks spots (length docks) marks
    → cond ((get_or firsts j 0 == j) && get_or marks j false) (Some (side_by height (dock_in docks j).side (dock_in docks j).offset)) None ≡ lane_at height docks spots j
lane_read height docks spots firsts marks j h are asks =
    let lane : Bool → Option Side = λ b. cond b (Some (side_by height (dock_in docks j).side (dock_in docks j).offset)) None in
    let first_is = are.first_is j h in
    elim (cases_eq (first_same docks j) j) [
      | inl e ↦ ap (λ b. cond b (Some (side_by height (dock_in docks j).side (dock_in docks j).offset)) None) (ap (λ n. (n == j) && get_or marks j false) first_is ∙ ap (λ b. (first_same docks j == j) && b) (asks.mark_is j h e))
      | inr ne ↦
          ap (λ b. cond b (Some (side_by height (dock_in docks j).side (dock_in docks j).offset)) None)
          (and_left (get_or firsts j 0 == j) (get_or marks j false) (ap (λ n. n == j) first_is ∙ ne_eqb (first_same docks j) j ne)
          ∙ sym (and_left (first_same docks j == j) (asked docks spots (length docks) j) (ne_eqb (first_same docks j) j ne)))
    ]

-- ---- numbering

pub lanes_yes : (side : Side) (sides : List (Option Side)) (j : ℕ) → is_on side (lane_in sides j) ≡ true → lanes_to side sides (j + 1) ≡ lanes_to side sides j + 1
lanes_yes side sides j passed =
    ap length (filter_more_yes (λ m. is_on side (lane_in sides m)) j passed) ∙ length_push (filter (λ m. is_on side (lane_in sides m)) (range_with_len 0 j)) j

pub lanes_no : (side : Side) (sides : List (Option Side)) (j : ℕ) → is_on side (lane_in sides j) ≡ false → lanes_to side sides (j + 1) ≡ lanes_to side sides j
lanes_no side sides j none = ap length (filter_more_no (λ m. is_on side (lane_in sides m)) j none)

pub lanes_few : (side : Side) (sides : List (Option Side)) (j : ℕ) → lanes_to side sides j ≤ j
lanes_few side sides zero = omega arith
lanes_few side sides (suc j) =
    let h = lanes_few side sides j in
    let e : suc j ≡ j + 1 = omega arith in
    elim (cases_Bool (is_on side (lane_in sides j))) [
      | inl passed ↦ let more = lanes_yes side sides j passed in subst (λ x. lanes_to side sides x ≤ x) (sym e) (omega (arith, h, more))
      | inr none ↦ let same = lanes_no side sides j none in subst (λ x. lanes_to side sides x ≤ x) (sym e) (omega (arith, h, same))
    ]

pub numbers_yes : (side : Side) (sides : List (Option Side)) (start j next : ℕ) (old new : List ℕ) → j < length old → is_on side (lane_in sides j) ≡ true → next ≡ start + lanes_to side sides j
    → NumbersLanes side sides start j old new → NumbersLanes side sides start (j + 1) old (set new j next)
numbers_yes side sides start j next old new h passed e s =
    record {
      as_long = length-set new j next ∙ s.as_long;
      numbered = λ k less on. elim (cases_eq k j) [
        | inl q ↦ ap (λ x. get_or (set new j next) x 0) q ∙ get_or-set_same new j next 0 (omega (arith, h, s.as_long)) ∙ e ∙ ap (λ x. start + lanes_to side sides x) (sym q)
        | inr ne ↦ get_or-set_other new j k next 0 ne ∙ s.numbered k (omega (arith, less, ne)) on
      ];
      kept = λ k off.
          let ne : k ≢ j = λ q. true≢false (sym passed ∙ ap (λ x. is_on side (lane_in sides x)) (sym q) ∙ off) in
          get_or-set_other new j k next 0 ne ∙ s.kept k off;
    }

pub numbers_no : (side : Side) (sides : List (Option Side)) (start j : ℕ) (old new : List ℕ) → is_on side (lane_in sides j) ≡ false → NumbersLanes side sides start j old new → NumbersLanes side sides start (j + 1) old new
numbers_no side sides start j old new none s =
    record {
      as_long = s.as_long;
      numbered = λ k less on. elim (cases_eq k j) [
        | inl q ↦ absurd (true≢false (sym on ∙ ap (λ x. is_on side (lane_in sides x)) q ∙ none))
        | inr ne ↦ s.numbered k (omega (arith, less, ne)) on
      ];
      kept = s.kept;
    }

one_side : (lane : Option Side) → is_on North lane ≡ true → is_on South lane ≡ false
one_side None h = refl
one_side (Some North) h = refl
one_side (Some East) h = refl
one_side (Some South) h = absurd cc
one_side (Some West) h = refl

few_numbered : (side : Side) (sides : List (Option Side)) (start : ℕ) (old new : List ℕ) → start + length sides ≤ 2 ^ 17 → NumbersLanes side sides start (length sides) old new → ((j : ℕ) → get_or old j 0 ≤ 2 ^ 17) → (j : ℕ) → get_or new j 0 ≤ 2 ^ 17
few_numbered side sides start old new few is small j = elim (cases_Bool (is_on side (lane_in sides j))) [
  | inr none ↦ let same = is.kept j none in let h = small j in omega (arith, same, h)
  | inl passed ↦ elim (cases_lt j (length sides)) [
    | inl inside ↦ let at = is.numbered j inside passed in let h = lanes_few side sides j in omega (arith, at, h, inside, few)
    | inr past ↦ absurd (true≢false (sym passed ∙ ap (is_on side) (get_or_past sides j None past)))
  ]
]

-- the lanes on the north side, then those on the south
pub both_numbered : (sides : List (Option Side)) (north south : ℕ) (p0 p1 p2 : List ℕ) → length p0 ≡ length sides → north + length sides ≤ 2 ^ 17 → south + length sides ≤ 2 ^ 17 → ((j : ℕ) → get_or p0 j 0 ≤ 2 ^ 17)
    → NumbersLanes North sides north (length sides) p0 p1 → NumbersLanes South sides south (length sides) p1 p2 → AreLanePlaces sides north south p2
both_numbered sides north south p0 p1 p2 long few_north few_south small a b =
    record {
      as_long = b.as_long ∙ a.as_long ∙ long;
      on_north = λ j h on. b.kept j (one_side (lane_in sides j) on) ∙ a.numbered j h on;
      on_south = λ j h on. b.numbered j h on;
      few = few_numbered South sides south p1 p2 few_south b (few_numbered North sides north p0 p1 few_north a small);
    }

-- ---- as spots are read

pub asked_cond : (docks : List Dock) (spots : List Spot) (firsts : List ℕ) (i : ℕ) (marks : List Bool) (b : Bool) → AreFirstSpots docks firsts → i < length docks → asks_at docks spots i i ≡ b → AreAsked docks spots i marks → AreAsked docks spots (i + 1) (cond b (set marks (get_or firsts i 0) true) marks)
asked_cond docks spots firsts i marks true are h asks s = asked_marked docks spots firsts i marks are h asks s
asked_cond docks spots firsts i marks false are h quiet s = asked_kept docks spots i marks quiet s

pub spot_marked : (docks : List Dock) (spots : List Spot) (firsts : List ℕ) (i : ℕ) (marks new : List Bool) (d : Dock) (s : Spot) (first : ℕ) → AreFirstSpots docks firsts → i < length docks → d ≡ dock_in docks i → s ≡ spot_at spots i → first ≡ get_or firsts i 0
    → new ≡ cond (asks_lane d.side s.leaves s.enters) (set marks first true) marks → AreAsked docks spots i marks → AreAsked docks spots (i + 1) new
spot_marked docks spots firsts i marks new d s first are h d_is s_is f_is e are_asked =
    subst (AreAsked docks spots (i + 1))
    (sym (e ∙ ap (λ x. cond (asks_lane d.side s.leaves s.enters) (set marks x true) marks) f_is
    ∙ ap (λ (x : Dock). cond (asks_lane x.side s.leaves s.enters) (set marks (get_or firsts i 0) true) marks) d_is
    ∙ ap (λ (x : Spot). cond (asks_lane (dock_in docks i).side x.leaves x.enters) (set marks (get_or firsts i 0) true) marks) s_is))
    (asked_cond docks spots firsts i marks (asks_at docks spots i i) are h refl are_asked)

numbers_cond : (side : Side) (sides : List (Option Side)) (start j next : ℕ) (old new : List ℕ) (b : Bool) → is_on side (lane_in sides j) ≡ b → j < length old → next ≡ start + lanes_to side sides j → NumbersLanes side sides start j old new
    → (cond b (next + 1) next ≡ start + lanes_to side sides (j + 1)) × NumbersLanes side sides start (j + 1) old (cond b (set new j next) new)
numbers_cond side sides start j next old new true on h e s = let more = lanes_yes side sides j on in (omega (arith, e, more), numbers_yes side sides start j next old new h on e s)
numbers_cond side sides start j next old new false off h e s = let same = lanes_no side sides j off in (omega (arith, e, same), numbers_no side sides start j old new off s)

-- a lane that was numbered where it is on the side
pub lane_numbered : (side : Side) (sides : List (Option Side)) (start j next after : ℕ) (old new newer : List ℕ) (lane : Option Side) → lane ≡ lane_in sides j → j < length old → next ≡ start + lanes_to side sides j → after ≡ cond (is_on side lane) (next + 1) next → newer ≡ cond (is_on side lane) (set new j next) new → NumbersLanes side sides start j old new
    → (after ≡ start + lanes_to side sides (j + 1)) × NumbersLanes side sides start (j + 1) old newer
lane_numbered side sides start j next after old new newer lane is h e after_is newer_is s =
    let both = numbers_cond side sides start j next old new (is_on side (lane_in sides j)) refl h e s in
    let same = ap (is_on side) is in (
      after_is ∙ ap (λ b. cond b (next + 1) next) same ∙ both.0,
      subst (NumbersLanes side sides start (j + 1) old) (sym (newer_is ∙ ap (λ b. cond b (set new j next) new) same)) both.1,
    )

-- a lane that was made of what was read
pub lane_made : (height : ℤ) (docks : List Dock) (spots : List Spot) (firsts : List ℕ) (marks : List Bool) (j first : ℕ) (d : Dock) (mark : Bool) (v : Option Side) → first ≡ get_or firsts j 0 → d ≡ dock_in docks j → mark ≡ get_or marks j false
    → v ≡ cond ((first == j) && mark) (Some (side_by height d.side d.offset)) None → j < length docks → AreFirstSpots docks firsts → AreAsked docks spots (length docks) marks → v ≡ lane_at height docks spots j
lane_made height docks spots firsts marks j first d mark v f_is d_is m_is made h are asks =
    made
    ∙ ap (λ n. cond ((n == j) && mark) (Some (side_by height d.side d.offset)) None) f_is
    ∙ ap (λ (x : Dock). cond ((get_or firsts j 0 == j) && mark) (Some (side_by height x.side x.offset)) None) d_is
    ∙ ap (λ b. cond ((get_or firsts j 0 == j) && b) (Some (side_by height (dock_in docks j).side (dock_in docks j).offset)) None) m_is
    ∙ lane_read height docks spots firsts marks j h are asks

-- a lane that was pushed
pub lane_pushed : (height : ℤ) (docks : List Dock) (spots : List Spot) (j : ℕ) (old new : List (Option Side)) (v : Option Side) → v ≡ lane_at height docks spots j → new ≡ old ++ v ∷ [] → length old ≡ j → ((k : ℕ) → k < j → lane_in old k ≡ lane_at height docks spots k)
    → (length new ≡ j + 1) × ((k : ℕ) → k < j + 1 → lane_in new k ≡ lane_at height docks spots k)
lane_pushed height docks spots j old new v is pushed long before =
    let more = length_push old v in
    let same = ap length pushed in (
      omega (arith, same, more, long),
      λ k h. elim (cases_eq k j) [
        | inl e ↦ subst (λ x. lane_in new x ≡ lane_at height docks spots x) (sym e) (ap (λ xs. lane_in xs j) pushed ∙ get_or_push old v None j long ∙ is)
        | inr ne ↦ ap (λ xs. lane_in xs k) pushed ∙ get_or_append_left old (v ∷ []) None k (omega (arith, h, ne, long)) ∙ before k (omega (arith, h, ne))
      ],
    )

-- a count by another list
pub lanes_counted : (side : Side) (xs sides : List (Option Side)) (start n : ℕ) → xs ≡ sides → length sides ≡ n → start + lanes_to side xs (length xs) ≡ start + lanes_to side sides n
lanes_counted side xs sides start n e long = ap (λ (ys : List (Option Side)). start + lanes_to side ys (length ys)) e ∙ ap (λ m. start + lanes_to side sides m) long
