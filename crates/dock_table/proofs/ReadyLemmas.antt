-- What the steps of the table ask of each other.
use Rattle.std.proofs.Common.{◌≡◌, ◌⊎◌, ℕ, ℤ, zero, suc, ◌+◌, ◌*◌, ◌<◌, ◌≤◌, ◌^◌, pos, neg_ℤ, List, [], length, get_or, true, false, Option, None, Some, sym, ◌∙◌, ap, subst, inl, inr, arith}
use Rattle.std.proofs.lemmas.Int.{ints}
use Rattle.std.proofs.lemmas.List.{length-map}
use Rattle.std.proofs.lemmas.List.Elements.{All-get_or}
use Rattle.drawing_types.specs.declared.shape.Dock.{Dock}
use Rattle.drawing_types.specs.declared.shape.Side.{Side}
use Rattle.drawing_types.specs.declared.shape.Side.TheVariants.{North}
use Rattle.drawing_types.specs.Ranges.{IsWithin}
use Rattle.elk_layers.specs.Layered.{unit_at}
use Rattle.port_order.specs.declared.spots.Spot.{Spot}
use Rattle.port_order.specs.Conditions.{AreSpots}
use Rattle.level_model.specs.declared.table.ChildAt.{ChildAt}
use Rattle.level_model.specs.declared.table.Table.{Table}
use Rattle.level_model.specs.Conditions.{IsLevel}
use Rattle.level_model.specs.Level.{End, PlainLevel, PlainPlan, all_ends, child_at, end_at, spoke, spots}
use Rattle.level_model.specs.Table.{child_in, end_in}
use Rattle.level_model.specs.Units.{AreLinked, AreOrders}
use Rattle.port_order.specs.Order.{IsOrderOfSide}
use Rattle.dock_table.specs.declared.loops.LoopLanes.{LoopLanes}
use Rattle.dock_table.specs.declared.spots.Spots.{Spots}
use Rattle.dock_table.specs.Bounds.{AreNumbersIn, IsChildIn, IsEndIn}
use Rattle.dock_table.specs.Ends.{AreLoopLanes, HaveChildren}
use Rattle.dock_table.specs.Entries.{AreEndEntries, AreEntries, AreLanesOf, AreLoopEntries, AreReady, HaveBodies, HaveDocks, HaveFew, HavePlaces, HaveSpots}
use Rattle.dock_table.specs.Lanes.{AreReadable, PlainLanes, lanes_at}
use Rattle.dock_table.specs.Narrow.{IsNearRect, IsNearSpan, IsOffset}
use Rattle.dock_table.specs.Outlines.{dock_in}
use Rattle.dock_table.specs.Rows.{AreCounted, AreSpotsOf, HasNumber, row_at, row_lists}
use Rattle.dock_table.specs.Sides.{AreDocks, AreOrdersTo, FourOrders, HaveOrders, dock_by, docks_at, four_at, orders_in}
use Rattle.dock_table.proofs.FirstLemmas.{first_within}
use Rattle.dock_table.proofs.LaneLemmas.{lanes_few}
use Rattle.dock_table.proofs.LoopLemmas.{loops_few}
use Rattle.dock_table.proofs.RowLemmas.{row_long}
use Rattle.dock_table.proofs.WholeLemmas.{spots_row}

-- the spots of a level, as orders are made of them
pub spots_sound : (l : PlainLevel) (p : PlainPlan) (v : Spots) → AreSpotsOf l p v → (c : ℕ) → c < length l.children → AreSpots (child_at l c) (row_at (row_lists v.rows) c)
spots_sound l p v are c h = subst (AreSpots (child_at l c)) (sym (are.row_is c h)) (are.sound c h)

pub have_orders : (l : PlainLevel) (p : PlainPlan) (v : Spots) (vs : List FourOrders) → AreSpotsOf l p v → AreOrdersTo l (row_lists v.rows) (length l.children) vs → HaveOrders l (row_lists v.rows) vs
have_orders l p v vs are orders =
    record {
      row_count = are.as_many;
      order_count = orders.as_many;
      few = λ c h. subst (λ (row : List Spot). length row ≤ 2 ^ 16) (sym (are.row_is c h)) (are.few c h);
      numbered = λ c h. subst AreCounted (sym (are.row_is c h)) (are.numbered c h);
      sound = spots_sound l p v are;
      orders = orders.four;
    }

docks_long : (l : PlainLevel) (p : PlainPlan) (v : Spots) (vs : List FourOrders) (lists : List (List Dock)) (c : ℕ) → AreSpotsOf l p v → AreDocks l (row_lists v.rows) vs (length l.children) lists → c < length l.children
    → (length (docks_at lists c) ≡ length (row_at (row_lists v.rows) c)) × (length (row_at (row_lists v.rows) c) ≡ length (spots l p c))
docks_long l p v vs lists c are docks h = (ap length (docks.docks c h) ∙ length-map (row_at (row_lists v.rows) c) (dock_by (child_at l c) c (four_at vs c)), ap length (are.row_is c h))

pub have_docks : (l : PlainLevel) (p : PlainPlan) (v : Spots) (vs : List FourOrders) (lists : List (List Dock)) → AreSpotsOf l p v → AreDocks l (row_lists v.rows) vs (length l.children) lists → HaveDocks l lists
have_docks l p v vs lists are docks =
    record {
      as_many = docks.as_many;
      ports = λ c h.
          let long = docks_long l p v vs lists c are docks h in
          let a = long.0 in
          let b = long.1 in
          let row = ap length (spots_row l p c) in
          let all = row_long l p c (all_ends l) in
          omega (arith, a, b, row, all);
      offsets = docks.offsets;
    }

pub have_spots : (l : PlainLevel) (p : PlainPlan) (v : Spots) (vs : List FourOrders) (lists : List (List Dock)) → AreSpotsOf l p v → AreDocks l (row_lists v.rows) vs (length l.children) lists → HaveSpots l lists (row_lists v.rows)
have_spots l p v vs lists are docks =
    record {
      as_many = are.as_many;
      same = λ c h. sym (docks_long l p v vs lists c are docks h).0;
      few = λ c h.
          let long = docks_long l p v vs lists c are docks h in
          let a = long.0 in
          let b = long.1 in
          let few = are.few c h in
          omega (arith, a, b, few);
    }

pub have_few : (l : PlainLevel) (ends : List Dock) (side : Side) (v : LoopLanes) → IsLevel l → AreLoopLanes l ends side (length l.edges) v → HaveFew (length l.children) v.counts.items
have_few l ends side v level are =
    record {
      as_many = are.child_count;
      few = λ c h. let is = are.count_is c h in let small = loops_few l ends side c (length l.edges) in let few = level.few_edges in omega (arith, is, small, few);
    }

pub have_places : (l : PlainLevel) (ends : List Dock) (side : Side) (v : LoopLanes) → AreLoopLanes l ends side (length l.edges) v → HavePlaces (length l.edges) v.places.items
have_places l ends side v are = record { as_many = are.edge_count; few = are.few }

-- units are those of children
pub have_children : (l : PlainLevel) (p : PlainPlan) (layers : List ℕ) → AreLinked l p layers → HaveChildren p.layered (length l.children)
have_children l p layers linked u c h is = elim (linked.units u h) [
  | inl lane ↦ let bad : None ≡ Some c = sym lane.no_child ∙ is in absurd cc
  | inr at ↦
      let unit : (unit_at p.layered.units u).child ≡ Some at.0 = ap (λ x. (unit_at p.layered.units x).child) at.2 ∙ (linked.children at.0 at.1).child in
      let same : at.0 ≡ c = some_same at.0 c (sym unit ∙ is) in
      subst (λ n. n < length l.children) same at.1
]
  where
    some_same : (m n : ℕ) → (let a : Option ℕ = Some m in a) ≡ Some n → m ≡ n
    some_same m n e = cc

-- lanes can be read by the numbers of spots
readable : (l : PlainLevel) (rows : List (List Spot)) (lists : List (List Dock)) (north south : List ℕ) (ws : List PlainLanes) (c : ℕ) → AreLanesOf l rows lists north south (length l.children) ws → c < length l.children → AreReadable (lanes_at ws c) (length (docks_at lists c))
readable l rows lists north south ws c are h =
    let is = are.lanes c h in
    let places = is.places.as_long in
    let sides = is.sides.as_long in
    record {
      firsts_long = is.firsts.as_long;
      sides_long = is.sides.as_long;
      places_long = omega (arith, places, sides);
      first_in = λ i inside. first_within (docks_at lists c) (lanes_at ws c).firsts i is.firsts inside;
      few = is.places.few;
    }

-- how many lanes a child has in the north
north_few : (l : PlainLevel) (rows : List (List Spot)) (lists : List (List Dock)) (north south : List ℕ) (ws : List PlainLanes) (c : ℕ) → AreLanesOf l rows lists north south (length l.children) ws → HaveSpots l lists rows → HaveFew (length l.children) north → c < length l.children → (lanes_at ws c).north ≤ 2 ^ 17
north_few l rows lists north south ws c are spots_are few h =
    let is = (are.lanes c h).north_is in
    let loops = few.few c h in
    let small = lanes_few North (lanes_at ws c).sides (length (docks_at lists c)) in
    let long = spots_are.few c h in
    omega (arith, is, loops, small, long)

pub have_bodies : (l : PlainLevel) (rows : List (List Spot)) (lists : List (List Dock)) (north south : List ℕ) (ws : List PlainLanes) (us : List ℕ) (entries : List ChildAt) → IsLevel l → AreLanesOf l rows lists north south (length l.children) ws → HaveSpots l lists rows → HaveFew (length l.children) north → AreEntries l us lists ws (length l.children) entries
    → HaveBodies l entries
have_bodies l rows lists north south ws us entries level lanes_are spots_are few are =
    record {
      level = level;
      entry_count = are.as_many;
      near = λ c h. (are.entry c h).near;
      few = λ c h. let same = (are.entry c h).north in let most = north_few l rows lists north south ws c lanes_are spots_are few h in omega (arith, same, most);
    }

number_in : (l : PlainLevel) (p : PlainPlan) (v : Spots) (vs : List FourOrders) (lists : List (List Dock)) (n : End) (number : ℕ) → AreSpotsOf l p v → AreDocks l (row_lists v.rows) vs (length l.children) lists → (spoke l n).child < length l.children → HasNumber l p n number → number < length (docks_at lists (spoke l n).child)
number_in l p v vs lists n number are docks h has =
    let long = docks_long l p v vs lists (spoke l n).child are docks h in
    let a = long.0 in
    let b = long.1 in
    let within = has.within in
    omega (arith, a, b, within)

end_offset : (l : PlainLevel) (p : PlainPlan) (v : Spots) (vs : List FourOrders) (lists : List (List Dock)) (c number : ℕ) (d : Dock) → AreDocks l (row_lists v.rows) vs (length l.children) lists → c < length l.children → number < length (docks_at lists c) → d ≡ dock_in (docks_at lists c) number → IsOffset d.offset
end_offset l p v vs lists c number d docks h inside is = subst (λ (x : Dock). IsOffset x.offset) (sym is) (All-get_or (λ (x : Dock). IsOffset x.offset) (docks_at lists c) number (dock_in [] 0) inside (docks.offsets c h))

pub have_ready : (l : PlainLevel) (p : PlainPlan) (v : Spots) (vs : List FourOrders) (rows : List (List Spot)) (lists : List (List Dock)) (ends : List Dock) (north south : List ℕ) (ws : List PlainLanes) (us : List ℕ) (entries : List ChildAt)
    → AreSpotsOf l p v → AreDocks l (row_lists v.rows) vs (length l.children) lists → length ends ≡ 2 * length l.edges → ((i : ℕ) → i < length ends → IsOffset (dock_in ends i).offset) → AreLanesOf l rows lists north south (length l.children) ws → HaveBodies l entries
    → AreReady l v.numbers.items lists ends ws entries
have_ready l p v vs rows lists ends north south ws us entries are docks long offsets lanes_are bodies =
    record {
      level = bodies.level;
      lane_count = lanes_are.as_many;
      entry_count = bodies.entry_count;
      readable = λ c h. readable l rows lists north south ws c lanes_are h;
      near = bodies.near;
      few = bodies.few;
      number_count = are.two_each;
      source_number = λ e h. number_in l p v vs lists (end_at e true) (get_or v.numbers.items (2 * e) 0) are docks (bodies.level.edges e h).source.child (are.sources e h);
      target_number = λ e h. number_in l p v vs lists (end_at e false) (get_or v.numbers.items (2 * e + 1) 0) are docks (bodies.level.edges e h).target.child (are.targets e h);
      end_count = long;
      offsets = offsets;
    }

-- ---- bounds

rect_in : (v : ChildAt) → IsNearRect v.outline → IsChildIn v
rect_in v near =
    record { x = low v.outline.x v.outline.width near.across; y = low v.outline.y v.outline.height near.along; width = size v.outline.x v.outline.width near.across; height = size v.outline.y v.outline.height near.along }
  where
    low : (a s : ℤ) → IsNearSpan a s → IsWithin (neg_ℤ (pos (2 ^ 49))) (pos (2 ^ 49)) a
    low a s n = let p = n.low_end.above in let q = n.low_end.below in record { above = omega (arith, ints, p); below = omega (arith, ints, q) }

    size : (a s : ℤ) → IsNearSpan a s → IsWithin (pos 0) (pos (2 ^ 49)) s
    size a s n = let p = n.low_end.above in let q = n.high_end.below in record { above = n.solid; below = omega (arith, ints, p, q) }

half_way : (i : ℕ) → ((k : ℕ) × (i ≡ 2 * k)) ⊎ ((k : ℕ) × (i ≡ 2 * k + 1))
half_way zero = inl (0, omega arith)
half_way (suc i) = elim (half_way i) [
  | inl even ↦ let e = even.1 in inr (even.0, omega (arith, e))
  | inr odd ↦ let e = odd.1 in inl (odd.0 + 1, omega (arith, e))
]

pub numbers_in : (l : PlainLevel) (numbers : List ℕ) (lists : List (List Dock)) (ends : List Dock) (ws : List PlainLanes) (us : List ℕ) (entries : List ChildAt) (north south : List ℕ) (t : Table) → t.children ≡ entries → AreEntries l us lists ws (length l.children) entries → AreEndEntries l numbers ends ws entries (length l.edges) t.ends → AreLoopEntries l entries north south (length l.edges) t.loops
    → AreNumbersIn t
numbers_in l numbers lists ends ws us entries north south t children entries_are ends_are loops_are =
    record {
      children = λ c h. subst (λ (xs : List ChildAt). IsChildIn (child_in xs c)) (sym children) (rect_in (child_in entries c) (entries_are.entry c (let long = ap length children in let many = entries_are.as_many in omega (arith, h, long, many))).near);
      ends = λ i h. elim (half_way i) [
        | inl even ↦ let e = even.1 in let many = ends_are.as_many in subst (λ x. IsEndIn (end_in t.ends x)) (sym even.1) (ends_are.sources even.0 (omega (arith, h, e, many))).near
        | inr odd ↦ let e = odd.1 in let many = ends_are.as_many in subst (λ x. IsEndIn (end_in t.ends x)) (sym odd.1) (ends_are.targets odd.0 (omega (arith, h, e, many))).near
      ];
      loops = λ e h. (loops_are.entry e (let many = loops_are.as_many in omega (arith, h, many))).near;
    }

-- the orders of sides are those of the plan
pub orders_of_plan : (l : PlainLevel) (p : PlainPlan) (vs : List FourOrders) (v : Spots) → AreSpotsOf l p v → AreOrdersTo l (row_lists v.rows) (length l.children) vs → AreOrders l p (orders_in vs)
orders_of_plan l p vs v are four c side h = subst (λ (row : List Spot). IsOrderOfSide (child_at l c) side row (orders_in vs c side)) (are.row_is c h) (four.four c h side)
