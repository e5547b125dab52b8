-- What is read off the table are the nets of the plan: two different pins each, in range.
use Rattle.std.proofs.Common.{◌≡◌, ◌⊎◌, ⊎_elim, ℕ, ◌<◌, ◌^◌, cond, Bool, true, false, not, List, length, ℤ, pos, ◌+ℤ◌, ◌-ℤ◌, ◌≤ℤ◌, ◌<ℤ◌, refl, sym, subst, ap, ◌∙◌, arith}
use Rattle.std.proofs.lemmas.Bool.{eqb-true, and_parts, or_right, not-true}
use Rattle.std.proofs.lemmas.Int.{ints}
use Rattle.std.specs.List.{list_any}
use Rattle.drawing_types.specs.declared.shape.Side.{Side}
use Rattle.drawing_types.specs.declared.shape.Side.TheVariants.{North, East, South, West}
use Rattle.drawing_types.specs.declared.shape.Rect.{Rect}
use Rattle.drawing_types.specs.declared.shape.Dock.{Dock}
use Rattle.drawing_types.specs.Shapes.{is_side}
use Rattle.elk_layers.specs.Layered.{unit_at}
use Rattle.elk_layers.specs.Lines.{top_of}
use Rattle.net_routes.specs.declared.Pin.{Pin}
use Rattle.net_routes.specs.GapFree.{IsNet, IsHeight, AreHeights}
use Rattle.self_loops.specs.Loops.{is_upright, passes_left, passes_right}
use Rattle.level_model.specs.Stage.{Line, anchor_line, dock_lane, loop_lane, Reaches}
use Rattle.level_model.specs.Level.{PlainLevel, PlainPlan, Orders, End, end_at, edge_at, spoke, enters, is_loop, dock_of, outline}
use Rattle.level_model.specs.Lanes.{dock_eq, has_one_dock, loop_sides, body_top}
use Rattle.level_model.specs.Nets.{Name, of_link, of_dock, of_loop, unit_of, unit_of_line, below_top, height_of, inverts, is_inverted, lane_side_of_end, loop_line, a_line, b_line, edge_of, net_of}
use Rattle.level_model.specs.Table.{loop_in}
use Rattle.level_model.proofs.SameLines.{dock_eq-self}
use Rattle.level_model.proofs.LoopSides.{source_left, target_left, source_right, target_right}
use Rattle.level_model.proofs.LaneLemmas.{end_has_lane}
use Rattle.level_model.proofs.NameLemmas.{IsName, IsLine, a_line_is, b_line_is}
use Rattle.level_model.proofs.LineLemmas.{lies_in, line_unit, lines_differ}
use Rattle.level_nets.specs.Parts.{Parts, plan_of, ArePlanned, EndAbove}
use Rattle.level_nets.specs.Read.{at_end, dock_at, child_of, unit_of_dock, anchor_below, lane_of_loop, loop_below, pin, loop_pin, net_named}
use Rattle.level_nets.proofs.Chains.{tail_line_unit, head_line_unit}
use Rattle.level_nets.proofs.Names.{end_is, dock_is, child_below, unit_is}
use Rattle.port_order.proofs.OrderLemmas.{side_same}
use Rattle.level_nets.proofs.PinLemmas.{net_from}

same_pin : (b c : Bool) (x y : ℤ) → b ≡ c → x ≡ y → pin b x ≡ pin c y
same_pin b c x y e f = ap (λ z. pin z x) e ∙ ap (pin c) f

height_is : (t u a b : ℤ) → t ≡ u → a ≡ b → t +ℤ a ≡ (u +ℤ b) -ℤ pos 0
height_is t u a b e f = omega (arith, ints, e, f)

anchor_sum : (a b y z off : ℤ) → a ≡ b → y ≡ z → a +ℤ (off -ℤ y) ≡ (b -ℤ z) +ℤ off
anchor_sum a b y z off e f = omega (arith, ints, e, f)

same_below : (t u a b : ℤ) → t ≡ u → (t +ℤ a) -ℤ pos 0 ≡ (u +ℤ b) -ℤ pos 0 → a ≡ b
same_below t u a b e f = omega (arith, ints, e, f)

in_height : (t a h : ℤ) → pos 0 ≤ℤ t → (t +ℤ h) <ℤ pos (2 ^ 49) → pos 0 ≤ℤ a → a ≤ℤ h → IsHeight ((t +ℤ a) -ℤ pos 0)
in_height t a h low high from to = record { low = omega (arith, ints, low, from); high = omega (arith, ints, high, to) }

-- a loop that passes the gap on a side with both ends on lanes has two lanes
left_on_lanes : (s t : Side) (one : Bool) → passes_left s t one ≡ true → is_side s West ≡ false → is_side t West ≡ false → ⊥
left_on_lanes s t true h a b = absurd (let bad : false ≡ true = h in cc)
left_on_lanes North North false h a b = absurd cc
left_on_lanes North East false h a b = absurd cc
left_on_lanes North South false h a b = absurd cc
left_on_lanes North West false h a b = absurd cc
left_on_lanes East North false h a b = absurd cc
left_on_lanes East East false h a b = absurd cc
left_on_lanes East South false h a b = absurd cc
left_on_lanes East West false h a b = absurd cc
left_on_lanes South North false h a b = absurd cc
left_on_lanes South East false h a b = absurd cc
left_on_lanes South South false h a b = absurd cc
left_on_lanes South West false h a b = absurd cc
left_on_lanes West t false h a b = absurd cc

right_on_lanes : (s t : Side) (one : Bool) → passes_right s t one ≡ true → is_side s East ≡ false → is_side t East ≡ false → lane_side_of_end s ≡ lane_side_of_end t → ⊥
right_on_lanes s t true h a b e = absurd (let bad : false ≡ true = h in cc)
right_on_lanes North North false h a b e = absurd cc
right_on_lanes North East false h a b e = absurd cc
right_on_lanes North South false h a b e = absurd cc
right_on_lanes North West false h a b e = absurd cc
right_on_lanes South North false h a b e = absurd cc
right_on_lanes South East false h a b e = absurd cc
right_on_lanes South South false h a b e = absurd cc
right_on_lanes South West false h a b e = absurd cc
right_on_lanes West North false h a b e = absurd cc
right_on_lanes West East false h a b e = absurd cc
right_on_lanes West South false h a b e = absurd cc
right_on_lanes West West false h a b e = absurd cc
right_on_lanes East t false h a b e = absurd cc

left_two : (s t : Side) → passes_left s t true ≡ true → ⊥
left_two s t h = absurd (let bad : false ≡ true = h in cc)

right_two : (s t : Side) → passes_right s t true ≡ true → ⊥
right_two s t h = absurd (let bad : false ≡ true = h in cc)

inverted_parts : (l : PlainLevel) (p : PlainPlan) (o : Orders) (n : End) → is_inverted l p o n ≡ true → (is_loop l n.edge ≡ false) × (inverts (dock_of l p o n).side (enters p n) ≡ true)
inverted_parts l p o n h = let q = and_parts (not (is_loop l n.edge)) (inverts (dock_of l p o n).side (enters p n)) h in (not-true (is_loop l n.edge) q.0, q.1)

-- the line by which a self-loop comes to a gap lies in the unit of the loop's child
loop_line_unit : (l : PlainLevel) (p : PlainPlan) (e : ℕ) (d : Dock) (side : Side) → d.node ≡ (edge_at l e).source.child → unit_of_line l p (loop_line e d side) ≡ unit_of p d.node
loop_line_unit l p e d side node = step (is_side d.side side)
  where
    step : (b : Bool) → unit_of_line l p (cond b (anchor_line d) (loop_lane e (lane_side_of_end d.side))) ≡ unit_of p d.node
    step true = refl
    step false = ap (unit_of p) (sym node)

-- the lines of a self-loop's two ends differ
module _ (l : PlainLevel) (p : PlainPlan) (o : Orders) (e : ℕ) where
  abbrev source : Dock
  source = dock_of l p o (end_at e true)

  abbrev target : Dock
  target = dock_of l p o (end_at e false)

  abbrev Passes : Side → Type 0
  Passes side =
      ((side ≡ West) × (passes_left source.side target.side (has_one_dock l p o e) ≡ true)) ⊎ ((side ≡ East) × (passes_right source.side target.side (has_one_dock l p o e) ≡ true))

  two_docks : (side : Side) → Passes side → source ≡ target → ⊥
  two_docks side passes same =
      let one : has_one_dock l p o e ≡ true = subst (λ d. dock_eq source d ≡ true) same (dock_eq-self source) in
      ⊎_elim
      (λ (west : (side ≡ West) × (passes_left source.side target.side (has_one_dock l p o e) ≡ true)). left_two source.side target.side (subst (λ b. passes_left source.side target.side b ≡ true) one west.1))
      (λ (east : (side ≡ East) × (passes_right source.side target.side (has_one_dock l p o e) ≡ true)). right_two source.side target.side (subst (λ b. passes_right source.side target.side b ≡ true) one east.1))
      passes

  two_lanes : (side : Side) → Passes side → is_side source.side side ≡ false → is_side target.side side ≡ false → lane_side_of_end source.side ≡ lane_side_of_end target.side → ⊥
  two_lanes side passes a b same =
      ⊎_elim
      (λ (west : (side ≡ West) × (passes_left source.side target.side (has_one_dock l p o e) ≡ true)).
      left_on_lanes source.side target.side (has_one_dock l p o e) west.1 (subst (λ z. is_side source.side z ≡ false) west.0 a) (subst (λ z. is_side target.side z ≡ false) west.0 b))
      (λ (east : (side ≡ East) × (passes_right source.side target.side (has_one_dock l p o e) ≡ true)).
      right_on_lanes source.side target.side (has_one_dock l p o e) east.1 (subst (λ z. is_side source.side z ≡ false) east.0 a) (subst (λ z. is_side target.side z ≡ false) east.0 b) same)
      passes

  pub two_lines : (side : Side) → Passes side → loop_line e source side ≡ loop_line e target side → ⊥
  two_lines side passes = step (is_side source.side side) (is_side target.side side) refl refl
    where
      step : (a b : Bool) → is_side source.side side ≡ a → is_side target.side side ≡ b
          → cond a (anchor_line source) (loop_lane e (lane_side_of_end source.side)) ≡ cond b (anchor_line target) (loop_lane e (lane_side_of_end target.side)) → ⊥
      step true true ea eb same = two_docks side passes (cc)
      step true false ea eb same = absurd cc
      step false true ea eb same = absurd cc
      step false false ea eb same = two_lanes side passes ea eb (cc)

module _ (s : Parts) (rows : List (List ℕ)) (o : Orders) (layers : List ℕ) (planned : ArePlanned s rows o layers) where
  abbrev l : PlainLevel
  l = s.level

  abbrev p : PlainPlan
  p = plan_of s rows

  -- an anchor below the top of its unit
  anchor_at : (d : Dock) → d.node < length s.level.children → anchor_below s d ≡ below_top s.level (plan_of s rows) o (anchor_line d)
  anchor_at d h =
      anchor_sum (unit_at s.layered.units (unit_of_dock s d)).body_top (body_top s.level (plan_of s rows) o d.node) (child_of s d).outline.y (outline s.level (plan_of s rows) o d.node).y d.offset
      (ap (λ u. (unit_at s.layered.units u).body_top) (unit_is s rows o layers planned d d.node refl h) ∙ (planned.ready.units.rooms d.node h).top)
      (ap (λ (r : Rect). r.y) (planned.table.children d.node h).outline_is)

  pub anchor_is : (n : End) → n.edge < length s.level.edges → anchor_below s (dock_at s n) ≡ below_top s.level (plan_of s rows) o (anchor_line (dock_of s.level (plan_of s rows) o n))
  anchor_is n h = ap (anchor_below s) (dock_is s rows o layers planned n h) ∙ anchor_at (dock_of s.level (plan_of s rows) o n) (child_below s rows o layers planned n h)

  -- the top of the unit of an end's child
  pub top_is : (n : End) → n.edge < length s.level.edges → top_of s.tops (unit_of_dock s (dock_at s n)) ≡ top_of s.tops (unit_of (plan_of s rows) (spoke s.level n).child)
  top_is n h = ap (top_of s.tops) (unit_is s rows o layers planned (dock_at s n) (spoke s.level n).child (ap (λ (d : Dock). d.node) (dock_is s rows o layers planned n h)) (child_below s rows o layers planned n h))

  -- the lane of an inverted dock
  pub lane_is : (n : End) → n.edge < length s.level.edges → is_inverted s.level (plan_of s rows) o n ≡ true → (at_end s n).lane ≡ below_top s.level (plan_of s rows) o (dock_lane (dock_of s.level (plan_of s rows) o n))
  lane_is n h inverted =
      let q = inverted_parts s.level (plan_of s rows) o n inverted in
      (end_is s rows o layers planned n h).lane
      (end_has_lane s.level (plan_of s rows) o n.edge n.at_source planned.ready.level h q.0 (or_right (is_upright (dock_of s.level (plan_of s rows) o n).side) (inverts (dock_of s.level (plan_of s rows) o n).side (enters (plan_of s rows) n)) q.1))

  -- the lane of a self-loop
  pub loop_lane_is : (e : ℕ) (side : Side) → e < length s.level.edges → is_loop s.level e ≡ true → list_any (is_side (lane_side_of_end side)) (loop_sides s.level (plan_of s rows) o e) ≡ true
      → lane_of_loop (loop_in s.table.loops e) (lane_side_of_end side) ≡ below_top s.level (plan_of s rows) o (loop_lane e (lane_side_of_end side))
  loop_lane_is e North h loop there = (planned.table.loops e h loop).north there
  loop_lane_is e East h loop there = (planned.table.loops e h loop).north there
  loop_lane_is e South h loop there = (planned.table.loops e h loop).south there
  loop_lane_is e West h loop there = (planned.table.loops e h loop).north there

  -- an end of a self-loop at a side comes there by its line
  pub loop_below_is : (e : ℕ) (t : Bool) (side : Side) → e < length s.level.edges → is_loop s.level e ≡ true
      → (is_side (dock_of s.level (plan_of s rows) o (end_at e t)).side side ≡ false → list_any (is_side (lane_side_of_end (dock_of s.level (plan_of s rows) o (end_at e t)).side)) (loop_sides s.level (plan_of s rows) o e) ≡ true)
      → loop_below s e (dock_at s (end_at e t)) side ≡ below_top s.level (plan_of s rows) o (loop_line e (dock_of s.level (plan_of s rows) o (end_at e t)) side)
  loop_below_is e t side h loop laned =
      ap (λ d. loop_below s e d side) (dock_is s rows o layers planned (end_at e t) h) ∙ step (is_side (dock_of s.level (plan_of s rows) o (end_at e t)).side side) refl
    where
      step : (b : Bool) → is_side (dock_of s.level (plan_of s rows) o (end_at e t)).side side ≡ b
          → cond b (anchor_below s (dock_of s.level (plan_of s rows) o (end_at e t))) (lane_of_loop (loop_in s.table.loops e) (lane_side_of_end (dock_of s.level (plan_of s rows) o (end_at e t)).side))
          ≡ below_top s.level (plan_of s rows) o (cond b (anchor_line (dock_of s.level (plan_of s rows) o (end_at e t))) (loop_lane e (lane_side_of_end (dock_of s.level (plan_of s rows) o (end_at e t)).side)))
      step true same = anchor_at (dock_of s.level (plan_of s rows) o (end_at e t)) (child_below s rows o layers planned (end_at e t) h)
      step false other = loop_lane_is e (dock_of s.level (plan_of s rows) o (end_at e t)).side h loop (laned other)

  pub laned_source : (e : ℕ) (side : Side) → IsName s.level (plan_of s rows) o (of_loop e side)
      → is_side (dock_of s.level (plan_of s rows) o (end_at e true)).side side ≡ false → list_any (is_side (lane_side_of_end (dock_of s.level (plan_of s rows) o (end_at e true)).side)) (loop_sides s.level (plan_of s rows) o e) ≡ true
  laned_source e side named other =
      let one = has_one_dock s.level (plan_of s rows) o e in
      ⊎_elim
      (λ west. source_left (dock_of s.level (plan_of s rows) o (end_at e true)).side (dock_of s.level (plan_of s rows) o (end_at e false)).side one west.1 (subst (λ z. is_side (dock_of s.level (plan_of s rows) o (end_at e true)).side z ≡ false) west.0 other))
      (λ east. source_right (dock_of s.level (plan_of s rows) o (end_at e true)).side (dock_of s.level (plan_of s rows) o (end_at e false)).side one east.1 (subst (λ z. is_side (dock_of s.level (plan_of s rows) o (end_at e true)).side z ≡ false) east.0 other))
      named.2

  pub laned_target : (e : ℕ) (side : Side) → IsName s.level (plan_of s rows) o (of_loop e side)
      → is_side (dock_of s.level (plan_of s rows) o (end_at e false)).side side ≡ false → list_any (is_side (lane_side_of_end (dock_of s.level (plan_of s rows) o (end_at e false)).side)) (loop_sides s.level (plan_of s rows) o e) ≡ true
  laned_target e side named other =
      let one = has_one_dock s.level (plan_of s rows) o e in
      ⊎_elim
      (λ west. target_left (dock_of s.level (plan_of s rows) o (end_at e true)).side (dock_of s.level (plan_of s rows) o (end_at e false)).side one west.1 (subst (λ z. is_side (dock_of s.level (plan_of s rows) o (end_at e false)).side z ≡ false) west.0 other))
      (λ east. target_right (dock_of s.level (plan_of s rows) o (end_at e true)).side (dock_of s.level (plan_of s rows) o (end_at e false)).side one east.1 (subst (λ z. is_side (dock_of s.level (plan_of s rows) o (end_at e false)).side z ≡ false) east.0 other))
      named.2

  -- the pin of an end of a self-loop
  loop_pin_is : (e : ℕ) (t : Bool) (side : Side) → e < length s.level.edges → is_loop s.level e ≡ true → (dock_of s.level (plan_of s rows) o (end_at e t)).node ≡ (edge_at s.level e).source.child
      → (is_side (dock_of s.level (plan_of s rows) o (end_at e t)).side side ≡ false → list_any (is_side (lane_side_of_end (dock_of s.level (plan_of s rows) o (end_at e t)).side)) (loop_sides s.level (plan_of s rows) o e) ≡ true)
      → loop_pin s e (end_at e t) side ≡ pin (is_side side East) (height_of s.level (plan_of s rows) o (loop_line e (dock_of s.level (plan_of s rows) o (end_at e t)) side) -ℤ pos 0)
  loop_pin_is e t side h loop node laned =
      ap (pin (is_side side East))
      (height_is _ _ _ _
      (top_is (end_at e t) h ∙ ap (top_of s.tops) (sym (loop_line_unit s.level (plan_of s rows) e (dock_of s.level (plan_of s rows) o (end_at e t)) side node)))
      (loop_below_is e t side h loop laned))

  target_node : (e : ℕ) → is_loop s.level e ≡ true → (dock_of s.level (plan_of s rows) o (end_at e false)).node ≡ (edge_at s.level e).source.child
  target_node e loop = sym (eqb-true (edge_at s.level e).source.child (edge_at s.level e).target.child loop)

  pub net_is : (n : Name) → IsName s.level (plan_of s rows) o n → net_named s n ≡ net_of s.level (plan_of s rows) o (pos 0) n
  unfolding net_named
  net_is (of_link k) h =
      net_from _ _ _ _
      (ap (pin true) (height_is _ _ _ _ (ap (top_of s.tops) (sym (tail_line_unit s.level (plan_of s rows) o layers planned.ready k h))) (planned.ready.units.pins k h).tail_at))
      (ap (pin false) (height_is _ _ _ _ (ap (top_of s.tops) (sym (head_line_unit s.level (plan_of s rows) o layers planned.ready k h))) (planned.ready.units.pins k h).head_at))
  net_is (of_dock n) h =
      let side = ap (λ (d : Dock). is_side d.side East) (dock_is s rows o layers planned n h.0) in
      net_from _ _ _ _
      (same_pin _ _ _ _ side (height_is _ _ _ _ (top_is n h.0) (lane_is n h.0 h.1)))
      (same_pin _ _ _ _ side (height_is _ _ _ _ (top_is n h.0) (anchor_is n h.0)))
  net_is (of_loop e side) h =
      net_from _ _ _ _
      (loop_pin_is e true side h.0 h.1 refl (laned_source e side h))
      (loop_pin_is e false side h.0 h.1 (target_node e h.1) (laned_target e side h))

  -- lines of one unit at one height that reach one side are one
  level_lines : (e : ℕ) (m n : Line) (side : Side) → IsLine s.level (plan_of s rows) o e m → IsLine s.level (plan_of s rows) o e n → Reaches side m → Reaches side n
      → unit_of_line s.level (plan_of s rows) m ≡ unit_of_line s.level (plan_of s rows) n
      → height_of s.level (plan_of s rows) o m -ℤ pos 0 ≡ height_of s.level (plan_of s rows) o n -ℤ pos 0 → m ≡ n
  level_lines e m n side hm hn rm rn unit height =
      lines_differ s.level (plan_of s rows) o layers planned.ready e e m n side hm hn rm rn unit (same_below _ _ _ _ (ap (top_of s.tops) unit) height)

  loop_reaches : (e : ℕ) (d : Dock) (side : Side) → Reaches side (loop_line e d side)
  loop_reaches e d side = step (is_side d.side side) refl
    where
      step : (b : Bool) → is_side d.side side ≡ b → Reaches side (cond b (anchor_line d) (loop_lane e (lane_side_of_end d.side)))
      step true same = side_same d.side side same
      step false other = tt

  -- the two pins of a net differ
  pub is_net : (n : Name) → IsName s.level (plan_of s rows) o n → IsNet (net_of s.level (plan_of s rows) o (pos 0) n)
  is_net (of_link k) h same = absurd (let bad : true ≡ false = ap (λ (q : Pin). q.on_left) same in cc)
  is_net (of_dock n) h same =
      let one : dock_lane (dock_of s.level (plan_of s rows) o n) ≡ anchor_line (dock_of s.level (plan_of s rows) o n) =
      level_lines n.edge _ _ (dock_of s.level (plan_of s rows) o n).side (a_line_is s.level (plan_of s rows) o layers planned.ready (of_dock n) h) (b_line_is s.level (plan_of s rows) o layers planned.ready (of_dock n) h) tt refl refl
      (ap (λ (q : Pin). q.height) same)
      in absurd cc
  is_net (of_loop e side) h same =
      let one : loop_line e (dock_of s.level (plan_of s rows) o (end_at e true)) side ≡ loop_line e (dock_of s.level (plan_of s rows) o (end_at e false)) side =
      level_lines e _ _ side (a_line_is s.level (plan_of s rows) o layers planned.ready (of_loop e side) h) (b_line_is s.level (plan_of s rows) o layers planned.ready (of_loop e side) h)
      (loop_reaches e (dock_of s.level (plan_of s rows) o (end_at e true)) side) (loop_reaches e (dock_of s.level (plan_of s rows) o (end_at e false)) side)
      (loop_line_unit s.level (plan_of s rows) e (dock_of s.level (plan_of s rows) o (end_at e true)) side refl
      ∙ ap (unit_of (plan_of s rows)) (sym (target_node e h.1))
      ∙ sym (loop_line_unit s.level (plan_of s rows) e (dock_of s.level (plan_of s rows) o (end_at e false)) side (target_node e h.1)))
      (ap (λ (q : Pin). q.height) same)
      in two_lines s.level (plan_of s rows) o e side h.2 one

  module _ (ends : EndAbove s) where
    line_height : (e : ℕ) (m : Line) → IsLine s.level (plan_of s rows) o e m → IsHeight (height_of s.level (plan_of s rows) o m -ℤ pos 0)
    line_height e m h =
        let unit = line_unit s.level (plan_of s rows) o layers planned.ready e m h in
        let lies = lies_in s.level (plan_of s rows) o layers planned.ready e m h in
        in_height _ _ _ (planned.ready.apart.from_zero (unit_of_line s.level (plan_of s rows) m) unit) (ends (unit_of_line s.level (plan_of s rows) m) unit) lies.0 lies.1

    -- and lie in range
    pub are_heights : (n : Name) → IsName s.level (plan_of s rows) o n → AreHeights (net_of s.level (plan_of s rows) o (pos 0) n)
    are_heights n h =
        record {
          a = line_height (edge_of (plan_of s rows) n) (a_line s.level (plan_of s rows) o n) (a_line_is s.level (plan_of s rows) o layers planned.ready n h);
          b = line_height (edge_of (plan_of s rows) n) (b_line s.level (plan_of s rows) o n) (b_line_is s.level (plan_of s rows) o layers planned.ready n h);
        }
