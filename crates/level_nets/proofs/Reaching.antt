-- What is asked of a level keeps all numbers in range that the nets are read with.
use Rattle.std.proofs.Common.{◌≡◌, inl, inr, ℕ, ◌<◌, ◌≤◌, ◌^◌, Bool, true, false, List, length, ℤ, pos, neg_ℤ, ◌+ℤ◌, ◌-ℤ◌, ◌≤ℤ◌, ◌<ℤ◌, refl, sym, subst, ap, ◌∙◌, arith}
use Rattle.std.proofs.lemmas.Bool.{and_parts}
use Rattle.std.proofs.lemmas.Int.{ints}
use Rattle.drawing_types.specs.declared.shape.Side.{Side}
use Rattle.drawing_types.specs.declared.shape.Side.TheVariants.{North, East, South, West}
use Rattle.drawing_types.specs.declared.shape.Dock.{Dock}
use Rattle.drawing_types.specs.Shapes.{is_side}
use Rattle.drawing_types.specs.Ranges.{IsWithin}
use Rattle.elk_layers.specs.Layered.{unit_at, IsFromZero}
use Rattle.elk_layers.specs.Lines.{top_of}
use Rattle.self_loops.specs.Loops.{is_upright, passes_left, passes_right}
use Rattle.level_model.specs.Stage.{Line, anchor_line, dock_lane, loop_lane}
use Rattle.level_model.specs.Level.{Orders, End, end_at, spoke, is_loop, dock_of}
use Rattle.level_model.specs.Lanes.{has_one_dock}
use Rattle.level_model.specs.Nets.{of_dock, of_loop, unit_of, unit_of_line, below_top, lane_side_of_end, loop_line, is_inverted}
use Rattle.level_model.proofs.EndLemmas.{child_unit}
use Rattle.level_model.proofs.LinkLemmas.{child_is}
use Rattle.level_model.proofs.NameLemmas.{IsName, IsLine, a_line_is, b_line_is}
use Rattle.level_model.proofs.LineLemmas.{lies_in, line_unit}
use Rattle.level_model.specs.Marks.{AreMarks}
use Rattle.level_nets.specs.declared.sheet.Sheet.{Sheet}
use Rattle.level_nets.specs.Parts.{Parts, plan_of, ArePlanned, EndAbove, IsGiven}
use Rattle.level_nets.specs.Read.{dock_at, child_of, unit_of_dock, passes_on}
use Rattle.level_nets.specs.Reach.{IsBeside, IsBelow, IsDockIn, IsEndIn, IsPassing, AreInReach, IsSheet, parts_in}
use Rattle.level_nets.proofs.Names.{dock_is, inverted_is, west_is, east_is, child_below, unit_is}
use Rattle.level_nets.proofs.Nets.{anchor_is, lane_is, loop_lane_is, laned_source, laned_target}

is_below : (z h t : ℤ) → pos 0 ≤ℤ z → z ≤ℤ h → pos 0 ≤ℤ t → (t +ℤ h) <ℤ pos (2 ^ 49) → IsBelow z
is_below z h t low high top end = record { above = omega (arith, ints, low); below = omega (arith, ints, high, top, end) }

body_in : (b v h t : ℤ) → pos 0 ≤ℤ b → pos 0 ≤ℤ v → (b +ℤ v) ≤ℤ h → pos 0 ≤ℤ t → (t +ℤ h) <ℤ pos (2 ^ 49) → IsFromZero b (pos (2 ^ 49))
body_in b v h t low deep within top end = (low, omega (arith, ints, deep, within, top, end))

near_in : (b a h t : ℤ) → pos 0 ≤ℤ b → b ≤ℤ pos (2 ^ 49) → pos 0 ≤ℤ (b +ℤ a) → (b +ℤ a) ≤ℤ h → pos 0 ≤ℤ t → (t +ℤ h) <ℤ pos (2 ^ 49) → IsWithin (neg_ℤ (pos (2 ^ 49))) (pos (2 ^ 49)) a
near_in b a h t low deep from to top end = record { above = omega (arith, ints, deep, from); below = omega (arith, ints, low, to, top, end) }

module _ (s : Parts) (rows : List (List ℕ)) (o : Orders) (layers : List ℕ) (planned : ArePlanned s rows o layers) (ends : EndAbove s) where
  -- a line's height below the top of its unit is in range
  line_below : (e : ℕ) (m : Line) → IsLine s.level (plan_of s rows) o e m → IsBelow (below_top s.level (plan_of s rows) o m)
  line_below e m h =
      let unit = line_unit s.level (plan_of s rows) o layers planned.ready e m h in
      let lies = lies_in s.level (plan_of s rows) o layers planned.ready e m h in
      is_below (below_top s.level (plan_of s rows) o m) (unit_at s.layered.units (unit_of_line s.level (plan_of s rows) m)).height (top_of s.tops (unit_of_line s.level (plan_of s rows) m))
      lies.0 lies.1 (planned.ready.apart.from_zero (unit_of_line s.level (plan_of s rows) m) unit) (ends (unit_of_line s.level (plan_of s rows) m) unit)

  -- the unit of an end's child
  end_unit : (n : End) → n.edge < length s.level.edges → unit_of_dock s (dock_at s n) ≡ unit_of (plan_of s rows) (spoke s.level n).child
  end_unit n h =
      unit_is s rows o layers planned (dock_at s n) (spoke s.level n).child (ap (λ (d : Dock). d.node) (dock_is s rows o layers planned n h)) (child_below s rows o layers planned n h)

  unit_there : (n : End) → n.edge < length s.level.edges → unit_of (plan_of s rows) (spoke s.level n).child < length s.layered.units
  unit_there n h = child_unit s.level (plan_of s rows) o layers planned.ready (spoke s.level n).child (child_below s rows o layers planned n h)

  body_is : (n : End) → n.edge < length s.level.edges → IsFromZero (unit_at s.layered.units (unit_of_dock s (dock_at s n))).body_top (pos (2 ^ 49))
  body_is n h =
      let u = unit_of (plan_of s rows) (spoke s.level n).child in
      let there = unit_there n h in
      let body = planned.ready.sound.bodies u there (child_is s.level (plan_of s rows) o layers planned.ready (spoke s.level n).child (child_below s rows o layers planned n h)) in
      subst (λ v. IsFromZero (unit_at s.layered.units v).body_top (pos (2 ^ 49))) (sym (end_unit n h))
      (body_in (unit_at s.layered.units u).body_top (unit_at s.layered.units u).body_height (unit_at s.layered.units u).height (top_of s.tops u) body.top body.height body.bottom (planned.ready.apart.from_zero u there) (ends u there))

  anchor_near : (n : End) → n.edge < length s.level.edges → IsBeside (dock_at s n).side
      → IsWithin (neg_ℤ (pos (2 ^ 49))) (pos (2 ^ 49)) ((dock_at s n).offset -ℤ (child_of s (dock_at s n)).outline.y)
  anchor_near n h beside =
      let u = unit_of (plan_of s rows) (spoke s.level n).child in
      let there = unit_there n h in
      let line : IsLine s.level (plan_of s rows) o n.edge (anchor_line (dock_of s.level (plan_of s rows) o n)) =
      (h, (n.at_source, refl), subst (λ (d : Dock). is_upright d.side ≡ false) (dock_is s rows o layers planned n h) beside) in
      let lies = lies_in s.level (plan_of s rows) o layers planned.ready n.edge (anchor_line (dock_of s.level (plan_of s rows) o n)) line in
      let same = anchor_is s rows o layers planned n h in
      let body = body_is n h in
      near_in (unit_at s.layered.units (unit_of_dock s (dock_at s n))).body_top ((dock_at s n).offset -ℤ (child_of s (dock_at s n)).outline.y) (unit_at s.layered.units u).height (top_of s.tops u)
      body.0 body.1 (subst (λ z. pos 0 ≤ℤ z) (sym same) lies.0) (subst (λ z. z ≤ℤ (unit_at s.layered.units u).height) (sym same) lies.1) (planned.ready.apart.from_zero u there) (ends u there)

  dock_in : (n : End) → n.edge < length s.level.edges → IsDockIn s (dock_at s n)
  dock_in n h =
      let node : (dock_at s n).node ≡ (spoke s.level n).child = ap (λ (d : Dock). d.node) (dock_is s rows o layers planned n h) in
      let below = child_below s rows o layers planned n h in
      let many = planned.table.child_count in
      record {
        child = omega (arith, node, below, many);
        unit = subst (λ u. u < length s.layered.units) (sym (end_unit n h)) (unit_there n h);
        body = body_is n h;
        anchor = anchor_near n h;
      }

  end_in_reach : (n : End) → n.edge < length s.level.edges → IsEndIn s n
  end_in_reach n h =
      record {
        dock = dock_in n h;
        lane = λ is_reversed.
            let inverted : is_inverted s.level (plan_of s rows) o n ≡ true = sym (inverted_is s rows o layers planned n h) ∙ is_reversed in
            subst IsBelow (sym (lane_is s rows o layers planned n h inverted))
            (line_below n.edge (dock_lane (dock_of s.level (plan_of s rows) o n)) (a_line_is s.level (plan_of s rows) o layers planned.ready (of_dock n) (h, inverted)));
      }

  -- a self-loop that passes a gap has a net there
  pub passes_is_name : (e : ℕ) (side : Side) → e < length s.level.edges → passes_on s e side ≡ true → IsName s.level (plan_of s rows) o (of_loop e side)
  passes_is_name e North h passes = absurd (let bad : false ≡ true = passes in cc)
  passes_is_name e South h passes = absurd (let bad : false ≡ true = passes in cc)
  passes_is_name e West h passes =
      let parts = and_parts (is_loop s.level e) (passes_left (dock_of s.level (plan_of s rows) o (end_at e true)).side (dock_of s.level (plan_of s rows) o (end_at e false)).side (has_one_dock s.level (plan_of s rows) o e))
      (sym (west_is s rows o layers planned e h) ∙ passes) in
      (h, parts.0, inl (refl, parts.1))
  passes_is_name e East h passes =
      let parts = and_parts (is_loop s.level e) (passes_right (dock_of s.level (plan_of s rows) o (end_at e true)).side (dock_of s.level (plan_of s rows) o (end_at e false)).side (has_one_dock s.level (plan_of s rows) o e))
      (sym (east_is s rows o layers planned e h) ∙ passes) in
      (h, parts.0, inr (refl, parts.1))

  -- off its side an end of the loop comes by a lane
  lane_line : (e : ℕ) (d : Dock) (side : Side) → is_side d.side side ≡ false → IsLine s.level (plan_of s rows) o e (loop_line e d side) → IsLine s.level (plan_of s rows) o e (loop_lane e (lane_side_of_end d.side))
  lane_line e d side other line = rw other at line

  passing_in : (e : ℕ) (side : Side) (t : Bool) → e < length s.level.edges → passes_on s e side ≡ true → IsPassing s e side (dock_at s (end_at e t))
  passing_in e side t h passes =
      subst (IsPassing s e side) (sym (dock_is s rows o layers planned (end_at e t) h)) (step t)
    where
      named : IsName s.level (plan_of s rows) o (of_loop e side)
      named = passes_is_name e side h passes

      step : (t : Bool) → IsPassing s e side (dock_of s.level (plan_of s rows) o (end_at e t))
      step true other =
          subst IsBelow (sym (loop_lane_is s rows o layers planned e (dock_of s.level (plan_of s rows) o (end_at e true)).side h named.1 (laned_source s rows o layers planned e side named other)))
          (line_below e (loop_lane e (lane_side_of_end (dock_of s.level (plan_of s rows) o (end_at e true)).side)) (lane_line e (dock_of s.level (plan_of s rows) o (end_at e true)) side other (a_line_is s.level (plan_of s rows) o layers planned.ready (of_loop e side) named)))
      step false other =
          subst IsBelow (sym (loop_lane_is s rows o layers planned e (dock_of s.level (plan_of s rows) o (end_at e false)).side h named.1 (laned_target s rows o layers planned e side named other)))
          (line_below e (loop_lane e (lane_side_of_end (dock_of s.level (plan_of s rows) o (end_at e false)).side)) (lane_line e (dock_of s.level (plan_of s rows) o (end_at e false)) side other (b_line_is s.level (plan_of s rows) o layers planned.ready (of_loop e side) named)))

  pub are_in_reach : s.layered.layers ≤ 2048 → AreInReach s
  are_in_reach few =
      record {
        as_many_tops = planned.ready.apart.as_many;
        tops = planned.ready.apart.from_zero;
        bottoms = ends;
        as_many_ends = planned.table.end_count;
        as_many_loops = planned.table.loop_count;
        as_many_children = planned.table.child_count;
        few_children = planned.ready.level.few_children;
        few_edges = planned.ready.level.few_edges;
        few_layers = few;
        children = λ c h. subst (λ u. u < length s.layered.units) (sym (planned.table.children c h).unit) (child_unit s.level (plan_of s rows) o layers planned.ready c h);
        ends = λ e t h. end_in_reach (end_at e t) h;
        loops = λ e side t h passes. passing_in e side t h passes;
      }

-- what is asked of a level, with its marks, is what its nets are read with
pub given_sheet : (t : Sheet) → IsGiven (parts_in t) → AreMarks t.reversed.now (length t.level.now.edges) t.is_reversed.now → IsSheet t
given_sheet t given marks =
    let plan = given.plan in
    let many = marks.as_many in
    record {
      sound = plan.planned.ready.sound;
      reach = are_in_reach (parts_in t) plan.rows plan.orders plan.layers plan.planned given.bottoms given.few_layers;
      as_many_marks = many;
      marks = λ e h. marks.each e (omega (arith, h, many));
    }
