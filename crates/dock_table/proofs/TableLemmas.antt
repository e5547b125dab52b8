-- The table is the level's, in the words of its plan.
use Rattle.std.proofs.Common.{◌≡◌, ◌⊎◌, ℕ, ℤ, zero, suc, ◌+◌, ◌*◌, ◌<◌, ◌≤◌, ◌==◌, List, length, get_or, Bool, true, false, ◌&&◌, cond, Option, None, Some, IsTrue, int_lt, ◌+ℤ◌, refl, sym, ◌∙◌, ap, subst, inl, inr, arith, eq-eqb, true≢false}
use Rattle.std.specs.List.{list_any, range_with_len}
use Rattle.std.proofs.lemmas.Bool.{cases_order, and_from}
use Rattle.drawing_types.specs.declared.shape.Side.{Side}
use Rattle.drawing_types.specs.declared.shape.Side.TheVariants.{North, East, South, West}
use Rattle.drawing_types.specs.declared.shape.Dock.{Dock}
use Rattle.drawing_types.specs.Shapes.{is_side}
use Rattle.drawing_types.specs.Shapes.{hull, rect_at}
use Rattle.port_order.specs.Child.{port_at}
use Rattle.port_order.specs.Order.{IsOrderOfSide}
use Rattle.port_order.specs.Places.{anchor_at, place_of_port}
use Rattle.level_model.specs.Stage.{dock_lane, loop_lane}
use Rattle.level_model.specs.declared.table.ChildAt.{ChildAt}
use Rattle.level_model.specs.declared.table.EndAt.{EndAt}
use Rattle.level_model.specs.declared.table.LoopAt.{LoopAt}
use Rattle.level_model.specs.declared.table.Table.{Table}
use Rattle.level_model.specs.Conditions.{IsLevel}
use Rattle.level_model.specs.Lanes.{has_lane, lane_height, lane_side, lanes, loop_sides, place_of_line, side_by, height_by}
use Rattle.level_model.specs.Level.{End, Orders, PlainLevel, PlainPlan, child_at, dock_of, dock_of_spot, edge_at, end_at, is_loop, outline, outline_from, port_spot, spoke, spot_at_port, spots}
use Rattle.level_model.specs.Table.{IsChildAt, IsEndAt, IsLoopAt, IsTable, child_in, end_in, loop_in}
use Rattle.level_model.specs.Units.{AreOrders}
use Rattle.dock_table.specs.declared.loops.LoopLanes.{LoopLanes}
use Rattle.dock_table.specs.declared.spots.Spots.{Spots}
use Rattle.dock_table.specs.Ends.{AreEndDocks, AreLoopLanes, is_unit_of, loop_on, loops_to}
use Rattle.dock_table.specs.Entries.{AreEndEntries, AreEntries, AreLanesOf, AreLoopEntries, IsEndEntry, IsLoopEntry}
use Rattle.dock_table.specs.Courses.{AreFirst}
use Rattle.dock_table.specs.Lanes.{AreDockLanes, PlainLanes, asked, first_same, height_or, is_on, lane_in, lane_place_in, lane_side_in, lanes_at, lanes_to}
use Rattle.dock_table.specs.Outlines.{dock_in, outline_by}
use Rattle.dock_table.specs.Rows.{AreSpotsOf, HasNumber, row_lists}
use Rattle.dock_table.specs.Sides.{AreDocks, AreOrdersTo, FourOrders, docks_at, orders_in}
use Rattle.dock_table.proofs.FirstLemmas.{IsFirstSpot, first_spot, same_from, same_parts}
use Rattle.dock_table.proofs.LoopLemmas.{child_docks}
use Rattle.dock_table.proofs.PlanLemmas.{AreChildDocks, dock_place, dock_there, docks_long, has_asked, lane_side_is, lanes_count, loop_bool, loop_place, node_there}
use Rattle.dock_table.proofs.WholeLemmas.{number_port}

-- everything that the table was worked out from
pub record IsWorked (l : PlainLevel) (p : PlainPlan) (vs : List FourOrders) (v : Spots) (lists : List (List Dock)) (ends : List Dock) (nl sl : LoopLanes) (ws : List PlainLanes) (us : List ℕ) (entries : List ChildAt) : Type 0 where
  pub level : IsLevel l
  pub spots_are : AreSpotsOf l p v
  pub four : AreOrdersTo l (row_lists v.rows) (length l.children) vs
  pub docks_are : AreDocks l (row_lists v.rows) vs (length l.children) lists
  pub ends_are : AreEndDocks l p (orders_in vs) (length l.edges) ends
  pub north : AreLoopLanes l ends North (length l.edges) nl
  pub south : AreLoopLanes l ends South (length l.edges) sl
  pub lanes_are : AreLanesOf l (row_lists v.rows) lists nl.counts.items sl.counts.items (length l.children) ws
  pub units : AreFirst (is_unit_of p.layered) (length p.layered.units) (length l.children) us
  pub entries_are : AreEntries l us lists ws (length l.children) entries

module _ (l : PlainLevel) (p : PlainPlan) (vs : List FourOrders) (v : Spots) (lists : List (List Dock)) (ends : List Dock) (nl sl : LoopLanes) (ws : List PlainLanes) (us : List ℕ) (entries : List ChildAt) (w : IsWorked l p vs v lists ends nl sl ws us entries) where
  abbrev o : Orders
  o = orders_in vs

  pub orders_are : AreOrders l p (orders_in vs)
  orders_are c side h = subst (λ row. IsOrderOfSide (child_at l c) side row (orders_in vs c side)) (w.spots_are.row_is c h) (w.four.four c h side)

  docks_of : (c : ℕ) → c < length l.children → AreChildDocks l p (orders_in vs) c (docks_at lists c)
  docks_of c h = record { inside = h; docks_are = child_docks l p vs v lists c w.spots_are w.docks_are h }

  lanes_of : (c : ℕ) → c < length l.children → AreDockLanes (child_at l c).size.height (docks_at lists c) (spots l p c) (get_or nl.counts.items c 0) (get_or sl.counts.items c 0) (lanes_at ws c)
  lanes_of c h = subst (λ row. AreDockLanes (child_at l c).size.height (docks_at lists c) row (get_or nl.counts.items c 0) (get_or sl.counts.items c 0) (lanes_at ws c)) (w.spots_are.row_is c h) (w.lanes_are.lanes c h)

  north_count : (c : ℕ) → c < length l.children → (lanes_at ws c).north ≡ length (lanes l p (orders_in vs) c North)
  north_count c h =
      (lanes_of c h).north_is
      ∙ ap (λ n. n + lanes_to North (lanes_at ws c).sides (length (docks_at lists c))) (w.north.count_is c h)
      ∙ sym (lanes_count l p (orders_in vs) c (docks_at lists c) ends North (lanes_at ws c).sides (docks_of c h) w.ends_are (lanes_of c h).sides)

  south_count : (c : ℕ) → c < length l.children → (lanes_at ws c).south ≡ length (lanes l p (orders_in vs) c South)
  south_count c h =
      (lanes_of c h).south_is
      ∙ ap (λ n. n + lanes_to South (lanes_at ws c).sides (length (docks_at lists c))) (w.south.count_is c h)
      ∙ sym (lanes_count l p (orders_in vs) c (docks_at lists c) ends South (lanes_at ws c).sides (docks_of c h) w.ends_are (lanes_of c h).sides)

  -- ---- children

  port_dock : (c k : ℕ) → c < length l.children → k < length (child_at l c).ports → dock_in (docks_at lists c) k ≡ dock_of_spot l (orders_in vs) c (port_spot l p c k)
  port_dock c k h inside =
      let at = number_port l p c k inside in
      let long = docks_long l p (orders_in vs) c (docks_at lists c) (docks_of c h) in
      let within = at.0 in
      dock_there l p (orders_in vs) c (docks_at lists c) k (docks_of c h) (omega (arith, within, long)) ∙ ap (dock_of_spot l (orders_in vs) c) at.1

  outline_plan : (c a m : ℕ) → c < length l.children → a + m ≤ length (child_at l c).ports → outline_by (child_at l c) (docks_at lists c) (range_with_len a m) ≡ outline_from l p (orders_in vs) c (range_with_len a m)
  outline_plan c a zero h most = refl
  outline_plan c a (suc m) h most =
      ap (λ r. hull r (rect_at (place_of_port (child_at l c) (dock_in (docks_at lists c) a).side a (dock_in (docks_at lists c) a).offset) (port_at (child_at l c) a).size)) (outline_plan c (a + 1) m h (omega (arith, most)))
      ∙ ap (λ (d : Dock). hull (outline_from l p (orders_in vs) c (range_with_len (a + 1) m)) (rect_at (place_of_port (child_at l c) d.side a d.offset) (port_at (child_at l c) a).size)) (port_dock c a h (omega (arith, most)))

  outline_is : (c : ℕ) → c < length l.children → (child_in entries c).outline ≡ outline l p (orders_in vs) c
  outline_is c h = (w.entries_are.entry c h).outline_is ∙ outline_plan c 0 (length (child_at l c).ports) h (omega arith)

  pub child_is : (c : ℕ) → c < length l.children → IsChildAt l p (orders_in vs) c (child_in entries c)
  child_is c h =
      let entry = w.entries_are.entry c h in
      record {
        unit = entry.unit_is ∙ w.units.first_is c h;
        outline_is = outline_is c h;
        as_many = entry.as_many;
        ports = λ k inside. entry.ports k inside ∙ ap (λ (d : Dock). place_of_port (child_at l c) d.side k d.offset) (port_dock c k h inside);
        north = entry.north ∙ north_count c h;
        south = entry.south ∙ south_count c h;
      }

  -- ---- heights

  height_is : (c : ℕ) → c < length l.children → (side : Side) (i : ℕ) → height_by l.spacing (child_in entries c).north (child_in entries c).outline.height side i ≡ lane_height l p (orders_in vs) c side i
  height_is c h side i =
      ap (λ n. height_by l.spacing n (child_in entries c).outline.height side i) ((w.entries_are.entry c h).north ∙ north_count c h)
      ∙ ap (λ z. height_by l.spacing (length (lanes l p (orders_in vs) c North)) z side i) (ap (λ r. r.height) (outline_is c h))

  -- ---- ends

  same_record : (d k : Dock) → d.node ≡ k.node → d.side ≡ k.side → d.offset ≡ k.offset → d ≡ k
  same_record d k n s f =
      ap (λ x. record { node = x; side = d.side; offset = d.offset }) n
      ∙ ap (λ x. record { node = k.node; side = x; offset = d.offset }) s
      ∙ ap (λ x. record { node = k.node; side = k.side; offset = x }) f

  first_itself : (docks : List Dock) (i f : ℕ) → IsFirstSpot docks i f → first_same docks f ≡ f
  first_itself docks i f is =
      let of_f = first_spot docks f in
      let most = of_f.at_most in
      let one = same_parts (dock_in docks (first_same docks f)) (dock_in docks f) of_f.same in
      let two = same_parts (dock_in docks f) (dock_in docks i) is.same in
      elim (cases_order (first_same docks f) f) [
        | inl e ↦ e
        | inr other ↦ elim other [
          | inl less ↦ absurd (true≢false (sym (same_from (dock_in docks (first_same docks f)) (dock_in docks i) (one.0 ∙ two.0) (one.1 ∙ two.1)) ∙ is.before (first_same docks f) less))
          | inr more ↦ absurd (omega (arith, more, most))
        ]
      ]

  either_side : (b : Bool) → (cond b South North ≡ North) ⊎ (cond b South North ≡ South)
  either_side true = inr refl
  either_side false = inl refl

  upright_side : (height z : ℤ) (side : Side) → (side_by height side z ≡ North) ⊎ (side_by height side z ≡ South)
  upright_side height z North = inl refl
  upright_side height z East = either_side (int_lt height (z +ℤ z))
  upright_side height z South = inr refl
  upright_side height z West = either_side (int_lt height (z +ℤ z))

  -- the place of the lane of a first spot, by its side
  side_place : (c f : ℕ) (side : Side) → c < length l.children → f < length (docks_at lists c) → first_same (docks_at lists c) f ≡ f → (side ≡ North) ⊎ (side ≡ South) → lane_in (lanes_at ws c).sides f ≡ Some side
      → get_or (lanes_at ws c).places f 0 ≡ place_of_line (lanes l p (orders_in vs) c side) (dock_lane (dock_in (docks_at lists c) f))
  side_place c f side h inside first (inl e) lane =
      let are = lanes_of c h in
      let long = are.sides.as_long in
      let on : is_on North (lane_in (lanes_at ws c).sides f) ≡ true = ap (is_on North) (lane ∙ ap (λ s. Some s) e) in
      are.places.on_north f (omega (arith, inside, long)) on
      ∙ ap (λ n. n + lanes_to North (lanes_at ws c).sides f) (w.north.count_is c h)
      ∙ sym (dock_place l p (orders_in vs) c (docks_at lists c) ends North (lanes_at ws c).sides f (docks_of c h) w.ends_are are.sides inside first on)
      ∙ ap (λ s. place_of_line (lanes l p (orders_in vs) c s) (dock_lane (dock_in (docks_at lists c) f))) (sym e)
  side_place c f side h inside first (inr e) lane =
      let are = lanes_of c h in
      let long = are.sides.as_long in
      let on : is_on South (lane_in (lanes_at ws c).sides f) ≡ true = ap (is_on South) (lane ∙ ap (λ s. Some s) e) in
      are.places.on_south f (omega (arith, inside, long)) on
      ∙ ap (λ n. n + lanes_to South (lanes_at ws c).sides f) (w.south.count_is c h)
      ∙ sym (dock_place l p (orders_in vs) c (docks_at lists c) ends South (lanes_at ws c).sides f (docks_of c h) w.ends_are are.sides inside first on)
      ∙ ap (λ s. place_of_line (lanes l p (orders_in vs) c s) (dock_lane (dock_in (docks_at lists c) f))) (sym e)

  -- the side and the place of the lane of a spot's dock
  lane_found : (c i : ℕ) → c < length l.children → i < length (docks_at lists c) → has_lane l p (orders_in vs) c (dock_in (docks_at lists c) i) ≡ true
      → (lane_side_in (lanes_at ws c) i ≡ Some (lane_side l (dock_in (docks_at lists c) i)))
      × (lane_place_in (lanes_at ws c) i ≡ place_of_line (lanes l p (orders_in vs) c (lane_side l (dock_in (docks_at lists c) i))) (dock_lane (dock_in (docks_at lists c) i)))
  lane_found c i h inside has =
      let docks : List Dock = docks_at lists c in
      let are = lanes_of c h in
      let f_is = are.firsts.first_is i inside in
      let is : IsFirstSpot (docks_at lists c) i (get_or (lanes_at ws c).firsts i 0) = subst (IsFirstSpot (docks_at lists c) i) (sym f_is) (first_spot (docks_at lists c) i) in
      let f : ℕ = get_or (lanes_at ws c).firsts i 0 in
      let most = is.at_most in
      let f_in : get_or (lanes_at ws c).firsts i 0 < length (docks_at lists c) = omega (arith, most, inside) in
      let parts = same_parts (dock_in (docks_at lists c) (get_or (lanes_at ws c).firsts i 0)) (dock_in (docks_at lists c) i) is.same in
      let node_f = node_there l p (orders_in vs) c (docks_at lists c) (docks_of c h) (get_or (lanes_at ws c).firsts i 0) f_in in
      let node_i = node_there l p (orders_in vs) c (docks_at lists c) (docks_of c h) i inside in
      let same : dock_in (docks_at lists c) (get_or (lanes_at ws c).firsts i 0) ≡ dock_in (docks_at lists c) i = same_record _ _ (node_f ∙ sym node_i) parts.0 parts.1 in
      let first = first_itself (docks_at lists c) i (get_or (lanes_at ws c).firsts i 0) is in
      let asks : asked (docks_at lists c) (spots l p c) (length (docks_at lists c)) (get_or (lanes_at ws c).firsts i 0) ≡ true =
      sym (has_asked l p (orders_in vs) c (docks_at lists c) (get_or (lanes_at ws c).firsts i 0) (docks_of c h) f_in) ∙ ap (has_lane l p (orders_in vs) c) same ∙ has
      in
      let side = lane_side_is l c (dock_in (docks_at lists c) (get_or (lanes_at ws c).firsts i 0)) node_f in
      let lane : lane_in (lanes_at ws c).sides (get_or (lanes_at ws c).firsts i 0) ≡ Some (lane_side l (dock_in (docks_at lists c) (get_or (lanes_at ws c).firsts i 0))) =
      are.sides.side_is (get_or (lanes_at ws c).firsts i 0) f_in
      ∙ ap (λ b. cond b (Some (side_by (child_at l c).size.height (dock_in (docks_at lists c) (get_or (lanes_at ws c).firsts i 0)).side (dock_in (docks_at lists c) (get_or (lanes_at ws c).firsts i 0)).offset)) None)
      (and_from (first_same (docks_at lists c) (get_or (lanes_at ws c).firsts i 0) == get_or (lanes_at ws c).firsts i 0) (asked (docks_at lists c) (spots l p c) (length (docks_at lists c)) (get_or (lanes_at ws c).firsts i 0)) (eq-eqb _ _ first) asks)
      ∙ ap (λ s. Some s) (sym side)
      in
      let up = upright_side (child_at l c).size.height (dock_in (docks_at lists c) (get_or (lanes_at ws c).firsts i 0)).offset (dock_in (docks_at lists c) (get_or (lanes_at ws c).firsts i 0)).side in
      let up_side : (lane_side l (dock_in (docks_at lists c) (get_or (lanes_at ws c).firsts i 0)) ≡ North) ⊎ (lane_side l (dock_in (docks_at lists c) (get_or (lanes_at ws c).firsts i 0)) ≡ South) = subst (λ s. (s ≡ North) ⊎ (s ≡ South)) (sym side) up in
      let place = side_place c (get_or (lanes_at ws c).firsts i 0) (lane_side l (dock_in (docks_at lists c) (get_or (lanes_at ws c).firsts i 0))) h f_in first up_side lane in (
        lane ∙ ap (λ d. Some (lane_side l d)) same,
        place ∙ ap (λ d. place_of_line (lanes l p (orders_in vs) c (lane_side l d)) (dock_lane d)) same,
      )

  port_of : (c : ℕ) (n : End) (port : Option ℕ) → (spot_at_port l p c n port).port ≡ port
  port_of c n None = refl
  port_of c n (Some k) = refl

  end_dock : (n : End) (number : ℕ) → (spoke l n).child < length l.children → HasNumber l p n number → (number < length (docks_at lists (spoke l n).child)) × (dock_in (docks_at lists (spoke l n).child) number ≡ dock_of l p (orders_in vs) n)
  end_dock n number h has =
      let long = docks_long l p (orders_in vs) (spoke l n).child (docks_at lists (spoke l n).child) (docks_of (spoke l n).child h) in
      let within = has.within in
      let inside : number < length (docks_at lists (spoke l n).child) = omega (arith, within, long) in
      (inside, dock_there l p (orders_in vs) (spoke l n).child (docks_at lists (spoke l n).child) number (docks_of (spoke l n).child h) inside ∙ ap (dock_of_spot l (orders_in vs) (spoke l n).child) has.spot_is)

  pub end_is : (n : End) (dock : Dock) (number : ℕ) (x : EndAt) → (spoke l n).child < length l.children → HasNumber l p n number → dock ≡ dock_of l p (orders_in vs) n → IsEndEntry l ws entries (spoke l n) dock number x → IsEndAt l p (orders_in vs) n x
  end_is n dock number x h has dock_is entry =
      let c : ℕ = (spoke l n).child in
      let at = end_dock n number h has in
      record {
        dock = entry.dock_is ∙ dock_is;
        anchor = entry.anchor_is
            ∙ ap (λ (d : Dock). anchor_at (child_at l (spoke l n).child) d.side (spoke l n).port d.offset) dock_is
            ∙ ap (λ port. anchor_at (child_at l (spoke l n).child) (dock_of l p (orders_in vs) n).side port (dock_of l p (orders_in vs) n).offset) (sym (port_of (spoke l n).child n (spoke l n).port));
        lane = λ has_it.
            let found = lane_found (spoke l n).child number h at.0 (ap (has_lane l p (orders_in vs) (spoke l n).child) at.1 ∙ has_it) in
            entry.lane_is
            ∙ ap (λ s. height_or l.spacing (child_in entries (spoke l n).child).north (child_in entries (spoke l n).child).outline.height s (lane_place_in (lanes_at ws (spoke l n).child) number)) found.0
            ∙ height_is (spoke l n).child h (lane_side l (dock_in (docks_at lists (spoke l n).child) number)) (lane_place_in (lanes_at ws (spoke l n).child) number)
            ∙ ap (lane_height l p (orders_in vs) (spoke l n).child (lane_side l (dock_in (docks_at lists (spoke l n).child) number))) found.1
            ∙ ap (λ d. lane_height l p (orders_in vs) (spoke l n).child (lane_side l d) (place_of_line (lanes l p (orders_in vs) (spoke l n).child (lane_side l d)) (dock_lane d))) at.1;
      }

  -- ---- self-loops

  loop_there : (e : ℕ) (side : Side) → e < length l.edges → is_loop l e ≡ true → IsTrue (list_any (is_side side) (loop_sides l p (orders_in vs) e)) → loop_on l ends side (edge_at l e).source.child e ≡ true
  loop_there e side h loop has =
      sym (loop_bool l p (orders_in vs) ends side (edge_at l e).source.child e (is_loop l e) refl w.ends_are h)
      ∙ and_from (is_loop l e && ((edge_at l e).source.child == (edge_at l e).source.child)) (list_any (is_side side) (loop_sides l p (orders_in vs) e)) (and_from (is_loop l e) ((edge_at l e).source.child == (edge_at l e).source.child) loop (eq-eqb _ _ refl)) has

  loop_placed : (e : ℕ) (side : Side) → e < length l.edges → loop_on l ends side (edge_at l e).source.child e ≡ true → place_of_line (lanes l p (orders_in vs) (edge_at l e).source.child side) (loop_lane e side) ≡ loops_to l ends side (edge_at l e).source.child e
  loop_placed e side h on =
      let inside = (w.level.edges e h).source.child in
      loop_place l p (orders_in vs) (edge_at l e).source.child (docks_at lists (edge_at l e).source.child) ends side (lanes_at ws (edge_at l e).source.child).sides e (docks_of (edge_at l e).source.child inside) w.ends_are (lanes_of (edge_at l e).source.child inside).sides h on

  pub loop_is : (e : ℕ) (x : LoopAt) → e < length l.edges → is_loop l e ≡ true → IsLoopEntry l entries e (get_or nl.places.items e 0) (get_or sl.places.items e 0) x → IsLoopAt l p (orders_in vs) e x
  loop_is e x h loop entry =
      let inside = (w.level.edges e h).source.child in
      record {
        north = λ has.
            let on = loop_there e North h loop has in
            entry.north_is
            ∙ height_is (edge_at l e).source.child inside North (get_or nl.places.items e 0)
            ∙ ap (lane_height l p (orders_in vs) (edge_at l e).source.child North) (w.north.place_is e h on ∙ sym (loop_placed e North h on));
        south = λ has.
            let on = loop_there e South h loop has in
            entry.south_is
            ∙ height_is (edge_at l e).source.child inside South (get_or sl.places.items e 0)
            ∙ ap (lane_height l p (orders_in vs) (edge_at l e).source.child South) (w.south.place_is e h on ∙ sym (loop_placed e South h on));
      }

  -- ---- the whole table

  pub table_is : (t : Table) → t.children ≡ entries → AreEndEntries l v.numbers.items ends ws entries (length l.edges) t.ends → AreLoopEntries l entries nl.places.items sl.places.items (length l.edges) t.loops → IsTable l p (orders_in vs) t
  table_is t children ends_t loops_t =
      record {
        child_count = ap length children ∙ w.entries_are.as_many;
        end_count = ends_t.as_many;
        loop_count = loops_t.as_many;
        children = λ c h. subst (λ xs. IsChildAt l p (orders_in vs) c (child_in xs c)) (sym children) (child_is c h);
        sources = λ e h. end_is (end_at e true) (dock_in ends (2 * e)) (get_or v.numbers.items (2 * e) 0) (end_in t.ends (2 * e)) (w.level.edges e h).source.child (w.spots_are.sources e h) (w.ends_are.sources e h) (ends_t.sources e h);
        targets = λ e h. end_is (end_at e false) (dock_in ends (2 * e + 1)) (get_or v.numbers.items (2 * e + 1) 0) (end_in t.ends (2 * e + 1)) (w.level.edges e h).target.child (w.spots_are.targets e h) (w.ends_are.targets e h) (ends_t.targets e h);
        loops = λ e h loop. loop_is e (loop_in t.loops e) h loop (loops_t.entry e h);
      }
