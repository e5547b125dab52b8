-- The docks of edges' ends, and the lanes of self-loops, edge by edge.
use Rattle.std.proofs.Common.{◌≡◌, ◌≢◌, ℕ, zero, suc, ◌+◌, ◌*◌, ◌<◌, ◌≤◌, ◌^◌, ◌==◌, List, [], ◌∷◌, ◌++◌, length, map, get_or, set, Bool, true, false, ◌&&◌, Option, None, Some, refl, sym, ◌∙◌, ap, subst, inl, inr, arith, eq-eqb, ne_eqb, true≢false}
use Rattle.std.specs.List.{filter, range_with_len}
use Rattle.std.proofs.lemmas.Bool.{cases_eq, cases_Bool, and_from, and_left, and_right, and_parts}
use Rattle.std.proofs.lemmas.List.{get_or-map, get_or-set_same, get_or-set_other, get_or_append_left, get_or_default, get_or_push, get_or_read, length-map, length-set, length_push}
use Rattle.drawing_types.specs.declared.shape.Side.{Side}
use Rattle.drawing_types.specs.declared.shape.Dock.{Dock}
use Rattle.elk_layers.specs.Layered.{Plain, unit_at}
use Rattle.port_order.specs.Child.{no_spot}
use Rattle.level_model.specs.declared.level.LevelEdge.{LevelEdge}
use Rattle.level_model.specs.declared.level.EdgeEnd.{EdgeEnd}
use Rattle.level_model.specs.Conditions.{IsLevel}
use Rattle.level_model.specs.Level.{End, PlainLevel, PlainPlan, child_at, dock_of, dock_of_spot, edge_at, end_at, is_loop, spoke, spots}
use Rattle.dock_table.specs.declared.loops.LoopLanes.{LoopLanes}
use Rattle.dock_table.specs.declared.spots.Spots.{Spots}
use Rattle.dock_table.specs.Ends.{AreEndDocks, AreLoopLanes, CountsLoop, HaveChildren, is_unit_of, loop_on, loops_to, with_unit}
use Rattle.dock_table.specs.Courses.{AreFirstFrom}
use Rattle.dock_table.specs.Lanes.{loop_lane_on}
use Rattle.dock_table.specs.Outlines.{dock_in}
use Rattle.dock_table.specs.Rows.{AreSpotsOf, HasNumber, row_lists}
use Rattle.dock_table.specs.Sides.{AreDocks, FourOrders, dock_by, docks_at, four_at, orders_in}
use Rattle.level_model.specs.Nets.{is_number}
use Rattle.dock_table.proofs.ChainLemmas.{edge_read}
use Rattle.dock_table.proofs.FirstLemmas.{filter_more_no, filter_more_yes}
use Rattle.dock_table.proofs.CourseLemmas.{firsts_hit, firsts_miss}

-- ---- docks of ends

-- the docks of a child are those of its spots
pub child_docks : (l : PlainLevel) (p : PlainPlan) (vs : List FourOrders) (v : Spots) (lists : List (List Dock)) (c : ℕ) → AreSpotsOf l p v → AreDocks l (row_lists v.rows) vs (length l.children) lists → c < length l.children
    → docks_at lists c ≡ map (dock_of_spot l (orders_in vs) c) (spots l p c)
child_docks l p vs v lists c are docks h = docks.docks c h ∙ ap (map (dock_by (child_at l c) c (four_at vs c))) (are.row_is c h)

-- the dock of a spot with an end's number
pub dock_of_end : (l : PlainLevel) (p : PlainPlan) (vs : List FourOrders) (v : Spots) (lists : List (List Dock)) (n : End) (s : EdgeEnd) (number : ℕ) → AreSpotsOf l p v → AreDocks l (row_lists v.rows) vs (length l.children) lists → s ≡ spoke l n → s.child < length l.children → HasNumber l p n number
    → (number < length (docks_at lists s.child)) × (dock_in (docks_at lists s.child) number ≡ dock_of l p (orders_in vs) n)
dock_of_end l p vs v lists n s number are docks is h has =
    let c : ℕ = (spoke l n).child in
    let inside : (spoke l n).child < length l.children = subst (λ (x : EdgeEnd). x.child < length l.children) is h in
    let child = child_docks l p vs v lists (spoke l n).child are docks inside in
    let long = ap length child ∙ length-map (spots l p (spoke l n).child) (dock_of_spot l (orders_in vs) (spoke l n).child) in
    let within = has.within in
    subst (λ (x : EdgeEnd). (number < length (docks_at lists x.child)) × (dock_in (docks_at lists x.child) number ≡ dock_of l p (orders_in vs) n)) (sym is) (
      omega (arith, within, long),
      ap (λ ds. dock_in ds number) child
          ∙ get_or-map (dock_of_spot l (orders_in vs) (spoke l n).child) (spots l p (spoke l n).child) number no_spot (dock_in [] 0) has.within
          ∙ ap (dock_of_spot l (orders_in vs) (spoke l n).child) has.spot_is,
    )

pub source_dock : (l : PlainLevel) (p : PlainPlan) (vs : List FourOrders) (v : Spots) (lists : List (List Dock)) (e : ℕ) (edge : LevelEdge) (number : ℕ) → IsLevel l → AreSpotsOf l p v → AreDocks l (row_lists v.rows) vs (length l.children) lists → edge ≡ edge_at l e → e < length l.edges → number ≡ get_or v.numbers.items (2 * e) number
    → (number < length (docks_at lists edge.source.child)) × (dock_in (docks_at lists edge.source.child) number ≡ dock_of l p (orders_in vs) (end_at e true))
source_dock l p vs v lists e edge number level are docks is h read =
    let two = are.two_each in
    let found : number ≡ get_or v.numbers.items (2 * e) 0 = get_or_read v.numbers.items (2 * e) number (omega (arith, two, h)) read 0 in
    dock_of_end l p vs v lists (end_at e true) edge.source number are docks (ap (λ (x : LevelEdge). x.source) is) (subst (λ (x : LevelEdge). x.source.child < length l.children) (sym is) (level.edges e h).source.child) (subst (HasNumber l p (end_at e true)) (sym found) (are.sources e h))

pub target_dock : (l : PlainLevel) (p : PlainPlan) (vs : List FourOrders) (v : Spots) (lists : List (List Dock)) (e : ℕ) (edge : LevelEdge) (number : ℕ) → IsLevel l → AreSpotsOf l p v → AreDocks l (row_lists v.rows) vs (length l.children) lists → edge ≡ edge_at l e → e < length l.edges → number ≡ get_or v.numbers.items (2 * e + 1) number
    → (number < length (docks_at lists edge.target.child)) × (dock_in (docks_at lists edge.target.child) number ≡ dock_of l p (orders_in vs) (end_at e false))
target_dock l p vs v lists e edge number level are docks is h read =
    let two = are.two_each in
    let found : number ≡ get_or v.numbers.items (2 * e + 1) 0 = get_or_read v.numbers.items (2 * e + 1) number (omega (arith, two, h)) read 0 in
    dock_of_end l p vs v lists (end_at e false) edge.target number are docks (ap (λ (x : LevelEdge). x.target) is) (subst (λ (x : LevelEdge). x.target.child < length l.children) (sym is) (level.edges e h).target.child) (subst (HasNumber l p (end_at e false)) (sym found) (are.targets e h))

pub ends_pushed : (l : PlainLevel) (p : PlainPlan) (vs : List FourOrders) (e : ℕ) (a b : Dock) (old new : List Dock) → a ≡ dock_of l p (orders_in vs) (end_at e true) → b ≡ dock_of l p (orders_in vs) (end_at e false) → new ≡ (old ++ a ∷ []) ++ b ∷ [] → AreEndDocks l p (orders_in vs) e old → AreEndDocks l p (orders_in vs) (e + 1) new
ends_pushed l p vs e a b old new source target pushed s =
    let long = s.as_long in
    let one = length_push old a in
    let two = length_push (old ++ a ∷ []) b in
    let before : (i : ℕ) → i < length old → dock_in ((old ++ a ∷ []) ++ b ∷ []) i ≡ dock_in old i = λ i h.
    get_or_append_left (old ++ a ∷ []) (b ∷ []) (dock_in [] 0) i (omega (arith, h, one)) ∙ get_or_append_left old (a ∷ []) (dock_in [] 0) i h
    in
    let first : dock_in ((old ++ a ∷ []) ++ b ∷ []) (2 * e) ≡ a = get_or_append_left (old ++ a ∷ []) (b ∷ []) (dock_in [] 0) (2 * e) (omega (arith, one, long)) ∙ get_or_push old a (dock_in [] 0) (2 * e) long in
    let second : dock_in ((old ++ a ∷ []) ++ b ∷ []) (2 * e + 1) ≡ b = get_or_push (old ++ a ∷ []) b (dock_in [] 0) (2 * e + 1) (omega (arith, one, long)) in
    subst (AreEndDocks l p (orders_in vs) (e + 1)) (sym pushed) (record {
      as_long = omega (arith, long, one, two);
      sources = λ i h. elim (cases_eq i e) [
        | inl q ↦ subst (λ x. dock_in ((old ++ a ∷ []) ++ b ∷ []) (2 * x) ≡ dock_of l p (orders_in vs) (end_at x true)) (sym q) (first ∙ source)
        | inr ne ↦ before (2 * i) (omega (arith, h, ne, long)) ∙ s.sources i (omega (arith, h, ne))
      ];
      targets = λ i h. elim (cases_eq i e) [
        | inl q ↦ subst (λ x. dock_in ((old ++ a ∷ []) ++ b ∷ []) (2 * x + 1) ≡ dock_of l p (orders_in vs) (end_at x false)) (sym q) (second ∙ target)
        | inr ne ↦ before (2 * i + 1) (omega (arith, h, ne, long)) ∙ s.targets i (omega (arith, h, ne))
      ];
    })

-- ---- lanes of self-loops

pub loops_few : (l : PlainLevel) (ends : List Dock) (side : Side) (c e : ℕ) → loops_to l ends side c e ≤ e
loops_few l ends side c zero = omega arith
loops_few l ends side c (suc e) =
    let h = loops_few l ends side c e in
    let next : suc e ≡ e + 1 = omega arith in
    elim (cases_Bool (loop_on l ends side c e)) [
      | inl passed ↦ let more = ap length (filter_more_yes (loop_on l ends side c) e passed) in let one = length_push (filter (loop_on l ends side c) (range_with_len 0 e)) e in subst (λ x. loops_to l ends side c x ≤ x) (sym next) (omega (arith, h, more, one))
      | inr none ↦ let same = ap length (filter_more_no (loop_on l ends side c) e none) in subst (λ x. loops_to l ends side c x ≤ x) (sym next) (omega (arith, h, same))
    ]

pub loops_start : (l : PlainLevel) (ends : List Dock) (side : Side) (v : LoopLanes) → length v.counts.items ≡ length l.children → length v.places.items ≡ length l.edges → ((c : ℕ) → c < length l.children → get_or v.counts.items c 0 ≡ 0) → ((e : ℕ) → get_or v.places.items e 0 ≤ 2 ^ 16) → AreLoopLanes l ends side 0 v
loops_start l ends side v children edges none few = record { child_count = children; edge_count = edges; count_is = none; place_is = λ e h. absurd (omega (arith, h)); few = few }

-- an edge without a lane on the side, and one with a lane
pub loops_kept : (l : PlainLevel) (ends : List Dock) (side : Side) (e : ℕ) (v : LoopLanes) → (is_loop l e && loop_lane_on (dock_in ends (2 * e)) (dock_in ends (2 * e + 1)) side) ≡ false → AreLoopLanes l ends side e v → AreLoopLanes l ends side (e + 1) v
loops_kept l ends side e v none s =
    let off : (c : ℕ) → loop_on l ends side c e ≡ false = λ c. three (is_loop l e) ((edge_at l e).source.child == c) (loop_lane_on (dock_in ends (2 * e)) (dock_in ends (2 * e + 1)) side) none in
    record {
      child_count = s.child_count;
      edge_count = s.edge_count;
      count_is = λ c h. s.count_is c h ∙ sym (ap length (filter_more_no (loop_on l ends side c) e (off c)));
      place_is = λ i h on. elim (cases_eq i e) [
        | inl q ↦ absurd (true≢false (sym on ∙ ap (λ x. loop_on l ends side (edge_at l x).source.child x) q ∙ off (edge_at l e).source.child))
        | inr ne ↦ s.place_is i (omega (arith, h, ne)) on
      ];
      few = s.few;
    }
  where
    three : (a b c : Bool) → (a && c) ≡ false → ((a && b) && c) ≡ false
    three true true c h = h
    three true false c h = refl
    three false b c h = refl

pub loops_noted : (l : PlainLevel) (ends : List Dock) (side : Side) (e : ℕ) (v w : LoopLanes) (at : ℕ) → length l.edges ≤ 2048 → e < length l.edges → at ≡ (edge_at l e).source.child → at < length l.children → (is_loop l e && loop_lane_on (dock_in ends (2 * e)) (dock_in ends (2 * e + 1)) side) ≡ true
    → w.counts.items ≡ set v.counts.items at (get_or v.counts.items at 0 + 1) → w.places.items ≡ set v.places.items e (get_or v.counts.items at 0) → AreLoopLanes l ends side e v → AreLoopLanes l ends side (e + 1) w
loops_noted l ends side e v w at few_edges h child at_in both counts places s =
    let parts = and_parts (is_loop l e) (loop_lane_on (dock_in ends (2 * e)) (dock_in ends (2 * e + 1)) side) both in
    let on : loop_on l ends side at e ≡ true = and_from (is_loop l e && ((edge_at l e).source.child == at)) (loop_lane_on (dock_in ends (2 * e)) (dock_in ends (2 * e + 1)) side) (and_from (is_loop l e) ((edge_at l e).source.child == at) parts.0 (eq-eqb (edge_at l e).source.child at (sym child))) parts.1 in
    let off : (c : ℕ) → c ≢ at → loop_on l ends side c e ≡ false = λ c ne.
    and_left (is_loop l e && ((edge_at l e).source.child == c)) (loop_lane_on (dock_in ends (2 * e)) (dock_in ends (2 * e + 1)) side) (and_right (is_loop l e) ((edge_at l e).source.child == c) (ne_eqb (edge_at l e).source.child c (λ q. ne (sym q ∙ sym child))))
    in
    let child_long = s.child_count in
    let edge_long = s.edge_count in
    let more : loops_to l ends side at (e + 1) ≡ loops_to l ends side at e + 1 = ap length (filter_more_yes (loop_on l ends side at) e on) ∙ length_push (filter (loop_on l ends side at) (range_with_len 0 e)) e in
    record {
      child_count = ap length counts ∙ length-set v.counts.items at (get_or v.counts.items at 0 + 1) ∙ s.child_count;
      edge_count = ap length places ∙ length-set v.places.items e (get_or v.counts.items at 0) ∙ s.edge_count;
      count_is = λ c less. elim (cases_eq c at) [
        | inl q ↦
            ap (λ xs. get_or xs c 0) counts
            ∙ ap (λ x. get_or (set v.counts.items at (get_or v.counts.items at 0 + 1)) x 0) q
            ∙ get_or-set_same v.counts.items at (get_or v.counts.items at 0 + 1) 0 (omega (arith, at_in, child_long))
            ∙ ap (λ n. n + 1) (s.count_is at at_in)
            ∙ sym more
            ∙ ap (λ x. loops_to l ends side x (e + 1)) (sym q)
        | inr ne ↦
            ap (λ xs. get_or xs c 0) counts
            ∙ get_or-set_other v.counts.items at c (get_or v.counts.items at 0 + 1) 0 ne
            ∙ s.count_is c less
            ∙ sym (ap length (filter_more_no (loop_on l ends side c) e (off c ne)))
      ];
      place_is = λ i less lane. elim (cases_eq i e) [
        | inl q ↦
            ap (λ xs. get_or xs i 0) places
            ∙ ap (λ x. get_or (set v.places.items e (get_or v.counts.items at 0)) x 0) q
            ∙ get_or-set_same v.places.items e (get_or v.counts.items at 0) 0 (omega (arith, h, edge_long))
            ∙ s.count_is at at_in
            ∙ ap (λ x. loops_to l ends side x e) child
            ∙ ap (λ x. loops_to l ends side (edge_at l x).source.child x) (sym q)
        | inr ne ↦ ap (λ xs. get_or xs i 0) places ∙ get_or-set_other v.places.items e i (get_or v.counts.items at 0) 0 ne ∙ s.place_is i (omega (arith, less, ne)) lane
      ];
      few = λ i. elim (cases_eq i e) [
        | inl q ↦
            let at_e = ap (λ xs. get_or xs i 0) places ∙ ap (λ x. get_or (set v.places.items e (get_or v.counts.items at 0)) x 0) q ∙ get_or-set_same v.places.items e (get_or v.counts.items at 0) 0 (omega (arith, h, edge_long)) ∙ s.count_is at at_in in
            let small = loops_few l ends side at e in
            omega (arith, at_e, small, few_edges, h)
        | inr ne ↦ let same = ap (λ xs. get_or xs i 0) places ∙ get_or-set_other v.places.items e i (get_or v.counts.items at 0) 0 ne in let old = s.few i in omega (arith, same, old)
      ];
    }

-- ---- units of children

pub unit_noted : (l : Plain) (u count : ℕ) (child : Option ℕ) (units : List ℕ) → child ≡ (unit_at l.units u).child → u < length l.units → HaveChildren l count → AreFirstFrom (is_unit_of l) (u + 1) (length l.units) count units → AreFirstFrom (is_unit_of l) u (length l.units) count (with_unit child u units)
unit_noted l u count None units is h children are = firsts_miss (is_unit_of l) u (length l.units) count units (λ c. ap (λ o. is_number o c) (sym is)) h are
unit_noted l u count (Some c) units is h children are = firsts_hit (is_unit_of l) u (length l.units) count c units (λ e. ap (λ o. is_number o e) (sym is)) h (children u c h (sym is)) are

-- ---- as an edge is read

-- the dock of a read end is the end's
pub sources_read : (l : PlainLevel) (p : PlainPlan) (vs : List FourOrders) (v : Spots) (lists : List (List Dock)) (es : List LevelEdge) (e : ℕ) (d : LevelEdge) (number : ℕ) → es ≡ l.edges → e < length es → IsLevel l → AreSpotsOf l p v → AreDocks l (row_lists v.rows) vs (length l.children) lists → number ≡ get_or v.numbers.items (2 * e) number
    → (number < length (docks_at lists (get_or es e d).source.child)) × (dock_in (docks_at lists (get_or es e d).source.child) number ≡ dock_of l p (orders_in vs) (end_at e true))
sources_read l p vs v lists es e d number q h level are docks read = let at = edge_read l es e d q h in source_dock l p vs v lists e (get_or es e d) number level are docks at.0 at.1 read

pub targets_read : (l : PlainLevel) (p : PlainPlan) (vs : List FourOrders) (v : Spots) (lists : List (List Dock)) (es : List LevelEdge) (e : ℕ) (d : LevelEdge) (number : ℕ) → es ≡ l.edges → e < length es → IsLevel l → AreSpotsOf l p v → AreDocks l (row_lists v.rows) vs (length l.children) lists → number ≡ get_or v.numbers.items (2 * e + 1) number
    → (number < length (docks_at lists (get_or es e d).target.child)) × (dock_in (docks_at lists (get_or es e d).target.child) number ≡ dock_of l p (orders_in vs) (end_at e false))
targets_read l p vs v lists es e d number q h level are docks read = let at = edge_read l es e d q h in target_dock l p vs v lists e (get_or es e d) number level are docks at.0 at.1 read

-- an edge's lane is counted where it has one
pub loop_counted : (l : PlainLevel) (ends : List Dock) (side : Side) (es : List LevelEdge) (e : ℕ) (d : LevelEdge) (source target : Dock) (v w : LoopLanes) → es ≡ l.edges → e < length es → IsLevel l → source ≡ dock_in ends (2 * e) → target ≡ dock_in ends (2 * e + 1)
    → CountsLoop (((get_or es e d).source.child == (get_or es e d).target.child) && loop_lane_on source target side) e (get_or es e d).source.child v w → AreLoopLanes l ends side e v → AreLoopLanes l ends side (e + 1) w
loop_counted l ends side es e d source target v w q h level s_is t_is counts s =
    let at = edge_read l es e d q h in
    let test : (((get_or es e d).source.child == (get_or es e d).target.child) && loop_lane_on source target side) ≡ (is_loop l e && loop_lane_on (dock_in ends (2 * e)) (dock_in ends (2 * e + 1)) side) =
    ap (λ (x : LevelEdge). (x.source.child == x.target.child) && loop_lane_on source target side) at.0
    ∙ ap (λ x. is_loop l e && loop_lane_on x target side) s_is
    ∙ ap (λ x. is_loop l e && loop_lane_on (dock_in ends (2 * e)) x side) t_is
    in
    let child : (get_or es e d).source.child ≡ (edge_at l e).source.child = ap (λ (x : LevelEdge). x.source.child) at.0 in
    let inside : (get_or es e d).source.child < length l.children = subst (λ (x : LevelEdge). x.source.child < length l.children) (sym at.0) (level.edges e at.1).source.child in
    elim (cases_Bool (is_loop l e && loop_lane_on (dock_in ends (2 * e)) (dock_in ends (2 * e + 1)) side)) [
      | inl passed ↦ loops_noted l ends side e v w (get_or es e d).source.child level.few_edges at.1 child inside passed (counts.counts (test ∙ passed)) (counts.places (test ∙ passed)) s
      | inr none ↦ subst (AreLoopLanes l ends side (e + 1)) (sym (counts.kept (test ∙ none))) (loops_kept l ends side e v none s)
    ]

-- an edge that may be counted
pub loop_ready : (l : PlainLevel) (ends : List Dock) (side : Side) (es : List LevelEdge) (e : ℕ) (d : LevelEdge) (v : LoopLanes) → es ≡ l.edges → e < length es → IsLevel l → AreLoopLanes l ends side e v
    → ((get_or es e d).source.child < length v.counts.items) × (e < length v.places.items) × (get_or v.counts.items (get_or es e d).source.child 0 ≤ 2 ^ 16)
loop_ready l ends side es e d v q h level s =
    let at = edge_read l es e d q h in
    let inside : (get_or es e d).source.child < length l.children = subst (λ (x : LevelEdge). x.source.child < length l.children) (sym at.0) (level.edges e at.1).source.child in
    let children = s.child_count in
    let edges = s.edge_count in
    let count = s.count_is (get_or es e d).source.child inside in
    let few = loops_few l ends side (get_or es e d).source.child e in
    let most = level.few_edges in
    let less = at.1 in
    (omega (arith, inside, children), omega (arith, less, edges), omega (arith, count, few, most, less))

pub dock_kept : (docks : List Dock) (i : ℕ) (d : Dock) → i < length docks → get_or docks i d ≡ dock_in docks i
dock_kept docks i d h = get_or_default docks i d (dock_in [] 0) h

pub two_within : (l : PlainLevel) (ends : List Dock) (es : List LevelEdge) (e : ℕ) → es ≡ l.edges → e < length es → length ends ≡ 2 * length l.edges → (2 * e < length ends) × (2 * e + 1 < length ends)
two_within l ends es e q h long = let same = ap length q in (omega (arith, h, long, same), omega (arith, h, long, same))
