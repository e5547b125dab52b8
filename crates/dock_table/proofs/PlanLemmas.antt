-- The docks and lanes of a child in the words of the level's plan.
use Rattle.std.proofs.Common.{◌≡◌, ℕ, ◌+◌, ◌*◌, ◌<◌, ◌==◌, List, [], ◌∷◌, ◌++◌, length, map, Bool, true, false, ◌&&◌, cond, Option, None, Some, refl, sym, ◌∙◌, ap, subst, arith, append-nil, length-append, eq-eqb, ne_eqb, eqb-true}
use Rattle.std.specs.List.{filter, list_any, range_with_len, All}
use Rattle.std.proofs.lemmas.Bool.{and_from, and_left}
use Rattle.std.proofs.lemmas.List.{get_or-map, length-map}
use Rattle.std.proofs.lemmas.List.Elements.{All-nil, All-cons, All-map}
use Rattle.drawing_types.specs.declared.shape.Side.{Side}
use Rattle.drawing_types.specs.declared.shape.Dock.{Dock}
use Rattle.drawing_types.specs.Shapes.{is_side}
use Rattle.port_order.specs.declared.spots.Spot.{Spot}
use Rattle.port_order.specs.Child.{no_spot, spot_at}
use Rattle.self_loops.specs.Loops.{sides_of_lanes}
use Rattle.level_model.specs.Stage.{Line, dock_lane, loop_lane}
use Rattle.level_model.specs.Level.{PlainLevel, PlainPlan, Orders, child_at, dock_of, dock_of_spot, edge_at, end_at, is_loop, spots}
use Rattle.level_model.specs.Lanes.{asks_lane, dock_eq, docks_with_lane, has_lane, lane_side, lanes, line_eq, loop_sides, loops_of, once, place_of_line, side_by}
use Rattle.dock_table.specs.Ends.{AreEndDocks, loop_on, loops_to}
use Rattle.dock_table.specs.Lanes.{AreLaneSides, asked, first_same, is_on, lane_in, lanes_to, loop_lane_on, same_dock}
use Rattle.dock_table.specs.Outlines.{dock_in}
use Rattle.dock_table.proofs.FirstLemmas.{IsFirstSpot, first_spot, same_self}
use Rattle.dock_table.proofs.OnceLemmas.{any_list, any_same, eq_same, filter_map, filter_same, filter_twice, once_all, place_tested}
use Rattle.port_order.proofs.OrderLemmas.{side_itself}

-- the docks of a child's spots
pub record AreChildDocks (l : PlainLevel) (p : PlainPlan) (o : Orders) (c : ℕ) (docks : List Dock) : Type 0 where
  pub inside : c < length l.children
  pub docks_are : docks ≡ map (dock_of_spot l o c) (spots l p c)

pub docks_long : (l : PlainLevel) (p : PlainPlan) (o : Orders) (c : ℕ) (docks : List Dock) → AreChildDocks l p o c docks → length docks ≡ length (spots l p c)
docks_long l p o c docks are = ap length are.docks_are ∙ length-map (spots l p c) (dock_of_spot l o c)

pub dock_there : (l : PlainLevel) (p : PlainPlan) (o : Orders) (c : ℕ) (docks : List Dock) (i : ℕ) → AreChildDocks l p o c docks → i < length docks → dock_in docks i ≡ dock_of_spot l o c (spot_at (spots l p c) i)
dock_there l p o c docks i are h =
    let long = docks_long l p o c docks are in
    ap (λ ds. dock_in ds i) are.docks_are ∙ get_or-map (dock_of_spot l o c) (spots l p c) i no_spot (dock_in [] 0) (omega (arith, h, long))

pub node_there : (l : PlainLevel) (p : PlainPlan) (o : Orders) (c : ℕ) (docks : List Dock) → AreChildDocks l p o c docks → (i : ℕ) → i < length docks → (dock_in docks i).node ≡ c
node_there l p o c docks are i h = ap (λ (d : Dock). d.node) (dock_there l p o c docks i are h)

-- ---- which docks have lanes

pub has_asked : (l : PlainLevel) (p : PlainPlan) (o : Orders) (c : ℕ) (docks : List Dock) (j : ℕ) → AreChildDocks l p o c docks → j < length docks → has_lane l p o c (dock_in docks j) ≡ asked docks (spots l p c) (length docks) j
has_asked l p o c docks j are h =
    let long = docks_long l p o c docks are in
    let test : Spot → Bool = λ s. dock_eq (dock_of_spot l o c s) (dock_in docks j) && asks_lane (dock_in docks j).side s.leaves s.enters in
    any_list (λ s. dock_eq (dock_of_spot l o c s) (dock_in docks j) && asks_lane (dock_in docks j).side s.leaves s.enters) (spots l p c) no_spot
    ∙ ap (λ n. list_any (λ m. dock_eq (dock_of_spot l o c (spot_at (spots l p c) m)) (dock_in docks j) && asks_lane (dock_in docks j).side (spot_at (spots l p c) m).leaves (spot_at (spots l p c) m).enters) (range_with_len 0 n)) (sym long)
    ∙ any_same (λ m. dock_eq (dock_of_spot l o c (spot_at (spots l p c) m)) (dock_in docks j) && asks_lane (dock_in docks j).side (spot_at (spots l p c) m).leaves (spot_at (spots l p c) m).enters)
    (λ m. same_dock (dock_in docks m) (dock_in docks j) && asks_lane (dock_in docks j).side (spot_at (spots l p c) m).leaves (spot_at (spots l p c) m).enters)
    (length docks)
    (λ m less. ap (λ b. b && asks_lane (dock_in docks j).side (spot_at (spots l p c) m).leaves (spot_at (spots l p c) m).enters)
    (ap (λ d. dock_eq d (dock_in docks j)) (sym (dock_there l p o c docks m are less))
    ∙ eq_same (dock_in docks m) (dock_in docks j) (node_there l p o c docks are m less ∙ sym (node_there l p o c docks are j h))))

pub lane_side_is : (l : PlainLevel) (c : ℕ) (d : Dock) → d.node ≡ c → lane_side l d ≡ side_by (child_at l c).size.height d.side d.offset
lane_side_is l c d e = ap (λ n. side_by (child_at l n).size.height d.side d.offset) e

on_cond : (side s : Side) (b : Bool) → is_on side (cond b (Some s) None) ≡ (b && is_side s side)
on_cond side s true = refl
on_cond side s false = refl

-- ---- the docks with lanes on a side, by the numbers of spots

kept_test : (l : PlainLevel) (p : PlainPlan) (o : Orders) (c : ℕ) (docks : List Dock) (side : Side) (sides : List (Option Side)) (m : ℕ) → AreChildDocks l p o c docks → AreLaneSides (child_at l c).size.height docks (spots l p c) sides → m < length docks
    → (((first_same docks m == m) && has_lane l p o c (dock_in docks m)) && is_side (lane_side l (dock_in docks m)) side) ≡ is_on side (lane_in sides m)
kept_test l p o c docks side sides m are lanes_are h =
    let node = node_there l p o c docks are m h in
    ap (λ b. ((first_same docks m == m) && b) && is_side (lane_side l (dock_in docks m)) side) (has_asked l p o c docks m are h)
    ∙ ap (λ s. ((first_same docks m == m) && asked docks (spots l p c) (length docks) m) && is_side s side) (lane_side_is l c (dock_in docks m) node)
    ∙ sym (on_cond side (side_by (child_at l c).size.height (dock_in docks m).side (dock_in docks m).offset) ((first_same docks m == m) && asked docks (spots l p c) (length docks) m))
    ∙ ap (is_on side) (sym (lanes_are.side_is m h))

abbrev on_side : Side → List (Option Side) → ℕ → Bool
on_side side sides m = is_on side (lane_in sides m)

kept_is : (l : PlainLevel) (p : PlainPlan) (o : Orders) (c : ℕ) (docks : List Dock) (side : Side) (sides : List (Option Side)) → AreChildDocks l p o c docks → AreLaneSides (child_at l c).size.height docks (spots l p c) sides
    → filter (λ d. is_side (lane_side l d) side) (docks_with_lane l p o c) ≡ map (dock_in docks) (filter (on_side side sides) (range_with_len 0 (length docks)))
kept_is l p o c docks side sides are lanes_are =
    let first : ℕ → Bool = λ m. first_same docks m == m in
    let numbers : List ℕ = range_with_len 0 (length docks) in
    ap (λ ds. filter (λ d. is_side (lane_side l d) side) (filter (has_lane l p o c) (once ds))) (sym are.docks_are)
    ∙ ap (λ ds. filter (λ d. is_side (lane_side l d) side) (filter (has_lane l p o c) ds)) (once_all docks c (node_there l p o c docks are))
    ∙ ap (filter (λ d. is_side (lane_side l d) side)) (filter_map (has_lane l p o c) (dock_in docks) (filter (λ m. first_same docks m == m) (range_with_len 0 (length docks))))
    ∙ filter_map (λ d. is_side (lane_side l d) side) (dock_in docks) (filter (λ m. has_lane l p o c (dock_in docks m)) (filter (λ m. first_same docks m == m) (range_with_len 0 (length docks))))
    ∙ ap (λ ns. map (dock_in docks) (filter (λ m. is_side (lane_side l (dock_in docks m)) side) ns)) (filter_twice (λ m. has_lane l p o c (dock_in docks m)) (λ m. first_same docks m == m) (range_with_len 0 (length docks)))
    ∙ ap (map (dock_in docks))
    (filter_twice (λ m. is_side (lane_side l (dock_in docks m)) side) (λ m. (first_same docks m == m) && has_lane l p o c (dock_in docks m)) (range_with_len 0 (length docks))
    ∙ filter_same (λ m. ((first_same docks m == m) && has_lane l p o c (dock_in docks m)) && is_side (lane_side l (dock_in docks m)) side) (on_side side sides) (length docks) (λ m h. kept_test l p o c docks side sides m are lanes_are h))

-- ---- self-loops with lanes on a side

pub loop_bool : (l : PlainLevel) (p : PlainPlan) (o : Orders) (ends : List Dock) (side : Side) (c e : ℕ) (b : Bool) → b ≡ is_loop l e → AreEndDocks l p o (length l.edges) ends → e < length l.edges
    → ((b && ((edge_at l e).source.child == c)) && list_any (is_side side) (loop_sides l p o e)) ≡ ((b && ((edge_at l e).source.child == c)) && loop_lane_on (dock_in ends (2 * e)) (dock_in ends (2 * e + 1)) side)
loop_bool l p o ends side c e false is are h = refl
loop_bool l p o ends side c e true is are h =
    let source = are.sources e h in
    let target = are.targets e h in
    let node : (dock_of l p o (end_at e true)).node ≡ (dock_of l p o (end_at e false)).node = eqb-true (edge_at l e).source.child (edge_at l e).target.child (sym is) in
    ap (λ b. ((edge_at l e).source.child == c) && list_any (is_side side) (sides_of_lanes (dock_of l p o (end_at e true)).side (dock_of l p o (end_at e false)).side b)) (eq_same (dock_of l p o (end_at e true)) (dock_of l p o (end_at e false)) node)
    ∙ ap (λ d. ((edge_at l e).source.child == c) && loop_lane_on d (dock_of l p o (end_at e false)) side) (sym source)
    ∙ ap (λ d. ((edge_at l e).source.child == c) && loop_lane_on (dock_in ends (2 * e)) d side) (sym target)

loops_is : (l : PlainLevel) (p : PlainPlan) (o : Orders) (ends : List Dock) (side : Side) (c : ℕ) → AreEndDocks l p o (length l.edges) ends
    → filter (λ e. list_any (is_side side) (loop_sides l p o e)) (loops_of l c) ≡ filter (loop_on l ends side c) (range_with_len 0 (length l.edges))
loops_is l p o ends side c are =
    filter_twice (λ e. list_any (is_side side) (loop_sides l p o e)) (λ e. is_loop l e && ((edge_at l e).source.child == c)) (range_with_len 0 (length l.edges))
    ∙ filter_same (λ e. (is_loop l e && ((edge_at l e).source.child == c)) && list_any (is_side side) (loop_sides l p o e)) (loop_on l ends side c) (length l.edges)
    (λ e h. loop_bool l p o ends side c e (is_loop l e) refl are h)

-- ---- all lanes of a child on a side

abbrev loop_line : Side → ℕ → Line
loop_line side e = loop_lane e side

abbrev dock_line : List Dock → ℕ → Line
dock_line docks m = dock_lane (dock_in docks m)

map_twice : (f : Dock → Line) (g : ℕ → Dock) (ns : List ℕ) → map f (map g ns) ≡ map (λ n. f (g n)) ns
map_twice f g [] = refl
map_twice f g (n ∷ ns) = ap (λ ms. f (g n) ∷ ms) (map_twice f g ns)

pub lanes_are : (l : PlainLevel) (p : PlainPlan) (o : Orders) (c : ℕ) (docks ends : List Dock) (side : Side) (sides : List (Option Side)) → AreChildDocks l p o c docks → AreEndDocks l p o (length l.edges) ends → AreLaneSides (child_at l c).size.height docks (spots l p c) sides
    → lanes l p o c side ≡ map (loop_line side) (filter (loop_on l ends side c) (range_with_len 0 (length l.edges))) ++ map (dock_line docks) (filter (on_side side sides) (range_with_len 0 (length docks)))
lanes_are l p o c docks ends side sides are ends_are sides_are =
    ap (λ es. map (loop_line side) es ++ map (λ d. dock_lane d) (filter (λ d. is_side (lane_side l d) side) (docks_with_lane l p o c))) (loops_is l p o ends side c ends_are)
    ∙ ap (λ ms. map (loop_line side) (filter (loop_on l ends side c) (range_with_len 0 (length l.edges))) ++ ms)
    (ap (map (λ d. dock_lane d)) (kept_is l p o c docks side sides are sides_are) ∙ map_twice (λ d. dock_lane d) (dock_in docks) (filter (on_side side sides) (range_with_len 0 (length docks))))

pub lanes_count : (l : PlainLevel) (p : PlainPlan) (o : Orders) (c : ℕ) (docks ends : List Dock) (side : Side) (sides : List (Option Side)) → AreChildDocks l p o c docks → AreEndDocks l p o (length l.edges) ends → AreLaneSides (child_at l c).size.height docks (spots l p c) sides
    → length (lanes l p o c side) ≡ loops_to l ends side c (length l.edges) + lanes_to side sides (length docks)
lanes_count l p o c docks ends side sides are ends_are sides_are =
    let whole = ap length (lanes_are l p o c docks ends side sides are ends_are sides_are) in
    let both = length-append (map (loop_line side) (filter (loop_on l ends side c) (range_with_len 0 (length l.edges)))) (map (dock_line docks) (filter (on_side side sides) (range_with_len 0 (length docks)))) in
    let a = length-map (filter (loop_on l ends side c) (range_with_len 0 (length l.edges))) (loop_line side) in
    let b = length-map (filter (on_side side sides) (range_with_len 0 (length docks))) (dock_line docks) in
    omega (arith, whole, both, a, b)

numbers_all : (P : ℕ → Type 0) (ns : List ℕ) → ((n : ℕ) → P n) → All P ns
numbers_all P [] h = All-nil P
numbers_all P (n ∷ ns) h = All-cons P n ns (h n) (numbers_all P ns h)

dock_self : (d : Dock) → dock_eq d d ≡ true
dock_self d = eq_same d d refl ∙ same_self d

-- the place of the lane of a dock that first stands at a spot
pub dock_place : (l : PlainLevel) (p : PlainPlan) (o : Orders) (c : ℕ) (docks ends : List Dock) (side : Side) (sides : List (Option Side)) (j : ℕ) → AreChildDocks l p o c docks → AreEndDocks l p o (length l.edges) ends → AreLaneSides (child_at l c).size.height docks (spots l p c) sides
    → j < length docks → first_same docks j ≡ j → is_on side (lane_in sides j) ≡ true → place_of_line (lanes l p o c side) (dock_lane (dock_in docks j)) ≡ loops_to l ends side c (length l.edges) + lanes_to side sides j
dock_place l p o c docks ends side sides j are ends_are sides_are h first on =
    let loops : List ℕ = filter (loop_on l ends side c) (range_with_len 0 (length l.edges)) in
    let front : List Line = map (loop_line side) (filter (loop_on l ends side c) (range_with_len 0 (length l.edges))) in
    let is_first = subst (IsFirstSpot docks j) first (first_spot docks j) in
    let others : All (λ k. line_eq k (dock_lane (dock_in docks j)) ≡ false) (map (loop_line side) (filter (loop_on l ends side c) (range_with_len 0 (length l.edges)))) =
    All-map (λ k. line_eq k (dock_lane (dock_in docks j)) ≡ false) (loop_line side) (filter (loop_on l ends side c) (range_with_len 0 (length l.edges)))
    (numbers_all (λ n. line_eq (loop_line side n) (dock_lane (dock_in docks j)) ≡ false) (filter (loop_on l ends side c) (range_with_len 0 (length l.edges))) (λ n. refl))
    in
    let place = place_tested (map (loop_line side) (filter (loop_on l ends side c) (range_with_len 0 (length l.edges)))) (dock_line docks) (on_side side sides) (length docks) j [] h on others
    (λ m less. eq_same (dock_in docks m) (dock_in docks j) (node_there l p o c docks are m (omega (arith, less, h)) ∙ sym (node_there l p o c docks are j h)) ∙ is_first.before m less)
    (dock_self (dock_in docks j))
    in
    let a = length-map (filter (loop_on l ends side c) (range_with_len 0 (length l.edges))) (loop_line side) in
    ap (λ ms. place_of_line ms (dock_lane (dock_in docks j)))
    (lanes_are l p o c docks ends side sides are ends_are sides_are
    ∙ ap (λ ms. map (loop_line side) (filter (loop_on l ends side c) (range_with_len 0 (length l.edges))) ++ ms) (sym (append-nil (map (dock_line docks) (filter (on_side side sides) (range_with_len 0 (length docks)))))))
    ∙ omega (arith, place, a)

-- the place of a self-loop's lane
pub loop_place : (l : PlainLevel) (p : PlainPlan) (o : Orders) (c : ℕ) (docks ends : List Dock) (side : Side) (sides : List (Option Side)) (e : ℕ) → AreChildDocks l p o c docks → AreEndDocks l p o (length l.edges) ends → AreLaneSides (child_at l c).size.height docks (spots l p c) sides
    → e < length l.edges → loop_on l ends side c e ≡ true → place_of_line (lanes l p o c side) (loop_lane e side) ≡ loops_to l ends side c e
loop_place l p o c docks ends side sides e are ends_are sides_are h on =
    let place = place_tested [] (loop_line side) (loop_on l ends side c) (length l.edges) e (map (dock_line docks) (filter (on_side side sides) (range_with_len 0 (length docks)))) h on (All-nil (λ k. line_eq k (loop_lane e side) ≡ false))
    (λ m less. and_left (m == e) (is_side side side) (ne_eqb m e (λ q. omega (arith, less, q))))
    (and_from (e == e) (is_side side side) (eq-eqb e e refl) (side_itself side))
    in
    ap (λ ms. place_of_line ms (loop_lane e side)) (lanes_are l p o c docks ends side sides are ends_are sides_are) ∙ omega (arith, place)
