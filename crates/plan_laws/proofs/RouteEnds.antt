-- The ends of the routes of a drawing: at which border a route leaves or comes to its child, and the lanes beyond outlines.
use Rattle.std.proofs.Common.{◌≡◌, inl, inr, ⊎_elim, ℕ, ◌+◌, ◌<◌, eqb, Bool, true, false, not, ◌&&◌, ◌||◌, List, ℤ, pos, ◌+ℤ◌, ◌-ℤ◌, ◌<ℤ◌, length, refl, sym, subst, ap, ◌∙◌, arith}
use Rattle.std.proofs.lemmas.Int.{ints}
use Rattle.std.proofs.lemmas.Bool.{and_from, eqb-true, lt-ltb, or_left, or_right, not_from_false}
use Rattle.std.specs.Prelude.{nat_lt}
use Rattle.std.specs.List.{list_any}
use Rattle.drawing_types.specs.declared.shape.Side.{Side}
use Rattle.drawing_types.specs.declared.shape.Side.TheVariants.{North, South}
use Rattle.drawing_types.specs.declared.shape.Dock.{Dock}
use Rattle.drawing_types.specs.Shapes.{bottom_of}
use Rattle.elk_layers.specs.Lines.{top_of}
use Rattle.self_loops.specs.Loops.{is_upright}
use Rattle.level_model.specs.Stage.{Line, anchor_line, dock_lane, loop_lane, InUse, Stands, offset_along}
use Rattle.level_model.specs.Law.{IsNorthOrSouth}
use Rattle.level_model.specs.Level.{PlainLevel, PlainPlan, Orders, end_at, edge_at, is_loop, dock_of, outline}
use Rattle.level_model.specs.Lanes.{line_eq, lanes, lanes_room, lane_side, lane_height, loop_lane_height, place_of_line, body_top, loop_sides}
use Rattle.level_model.specs.Nets.{a_line, b_line, all_names, edge_of, unit_of, unit_of_line, box_below, below_top}
use Rattle.level_model.specs.FromPlan.{LevelDrawing}
use Rattle.level_model.specs.Drawing.{stage, is_anchor_line, is_in_use}
use Rattle.level_model.specs.Ready.{IsReady}
use Rattle.level_model.proofs.Lists.{Has, has_any}
use Rattle.level_model.proofs.SameLines.{line_eq-self}
use Rattle.level_model.proofs.Places.{room_some}
use Rattle.plan_laws.proofs.Doors.{side_at}
use Rattle.plan_laws.proofs.Ends.{IsPlainEnd, IsUprightEnd}

-- the lane of a dock on the north or south side lies there
lane_side_same : (l : PlainLevel) (k : Dock) (side : Side) → k.side ≡ side → IsNorthOrSouth side → lane_side l k ≡ side
lane_side_same l k side e lies =
    subst (λ z. lane_side l (record { node = k.node; side = z; offset = k.offset }) ≡ side) (sym e)
    (⊎_elim
    (λ h. subst (λ z. lane_side l (record { node = k.node; side = z; offset = k.offset }) ≡ z) (sym h) refl)
    (λ h. subst (λ z. lane_side l (record { node = k.node; side = z; offset = k.offset }) ≡ z) (sym h) refl)
    lies)

above_outline : (t u b y r m z : ℤ) → u ≡ t → z ≡ b -ℤ r → pos 0 <ℤ r → ((u +ℤ z) -ℤ m) <ℤ (((t +ℤ (b -ℤ y)) -ℤ m) +ℤ y)
above_outline t u b y r m z e h k = omega (arith, ints, e, h, k)

below_outline : (t u b y h r m z : ℤ) → u ≡ t → z ≡ b +ℤ h +ℤ r → pos 0 <ℤ r → ((((t +ℤ (b -ℤ y)) -ℤ m) +ℤ y) +ℤ h) <ℤ ((u +ℤ z) -ℤ m)
below_outline t u b y h r m z e k n = omega (arith, ints, e, k, n)

at_anchor : (t b o m y : ℤ) → y ≡ ((t +ℤ b) -ℤ m) +ℤ o → ((t +ℤ (b +ℤ o)) -ℤ m) ≡ y
at_anchor t b o m y h = omega (arith, ints, h)

not_upright : (b : Bool) (side : Side) → side ≡ side_at b → is_upright side ≡ false
not_upright true side e = ap is_upright e
not_upright false side e = ap is_upright e

module _ (l : PlainLevel) (p : PlainPlan) (o : Orders) (d : LevelDrawing) where
  -- an anchor on the east or west side is in use
  anchor_in_use : (e : ℕ) (t : Bool) → e < length l.edges → is_upright (dock_of l p o (end_at e t)).side ≡ false → is_in_use l p o e (anchor_line (dock_of l p o (end_at e t))) ≡ true
  anchor_in_use e t h level =
      let m = anchor_line (dock_of l p o (end_at e t)) in
      or_left
      (list_any (λ k. eqb (edge_of p k) e && (line_eq (a_line l p o k) m || line_eq (b_line l p o k) m)) (all_names l p o) || (nat_lt e (length l.edges) && (is_anchor_line (dock_of l p o (end_at e true)) m || is_anchor_line (dock_of l p o (end_at e false)) m)))
      (nat_lt e (length l.edges) && is_loop l e && list_any (λ side. line_eq (loop_lane e side) m) (loop_sides l p o e))
      (or_right
      (list_any (λ k. eqb (edge_of p k) e && (line_eq (a_line l p o k) m || line_eq (b_line l p o k) m)) (all_names l p o))
      (nat_lt e (length l.edges) && (is_anchor_line (dock_of l p o (end_at e true)) m || is_anchor_line (dock_of l p o (end_at e false)) m))
      (and_from (nat_lt e (length l.edges)) (is_anchor_line (dock_of l p o (end_at e true)) m || is_anchor_line (dock_of l p o (end_at e false)) m) (lt-ltb e (length l.edges) h) (either t level)))
    where
      either : (t : Bool) → is_upright (dock_of l p o (end_at e t)).side ≡ false
          → (is_anchor_line (dock_of l p o (end_at e true)) (anchor_line (dock_of l p o (end_at e t))) || is_anchor_line (dock_of l p o (end_at e false)) (anchor_line (dock_of l p o (end_at e t)))) ≡ true
      either true level =
          let m = anchor_line (dock_of l p o (end_at e true)) in
          or_left (is_anchor_line (dock_of l p o (end_at e true)) m) (is_anchor_line (dock_of l p o (end_at e false)) m)
          (and_from (not (is_upright (dock_of l p o (end_at e true)).side)) (line_eq m m) (not_from_false (is_upright (dock_of l p o (end_at e true)).side) level) (line_eq-self m))
      either false level =
          let m = anchor_line (dock_of l p o (end_at e false)) in
          or_right (is_anchor_line (dock_of l p o (end_at e true)) m) (is_anchor_line (dock_of l p o (end_at e false)) m)
          (and_from (not (is_upright (dock_of l p o (end_at e false)).side)) (line_eq m m) (not_from_false (is_upright (dock_of l p o (end_at e false)).side) level) (line_eq-self m))

  -- a lane that a self-loop has is in use
  pub loop_lane_in_use : (e : ℕ) (side : Side) → e < length l.edges → is_loop l e ≡ true → Has (loop_sides l p o e) side → is_in_use l p o e (loop_lane e side) ≡ true
  loop_lane_in_use e side h loop has =
      let m = loop_lane e side in
      or_right
      (list_any (λ k. eqb (edge_of p k) e && (line_eq (a_line l p o k) m || line_eq (b_line l p o k) m)) (all_names l p o) || (nat_lt e (length l.edges) && (is_anchor_line (dock_of l p o (end_at e true)) m || is_anchor_line (dock_of l p o (end_at e false)) m)))
      (nat_lt e (length l.edges) && is_loop l e && list_any (λ side. line_eq (loop_lane e side) m) (loop_sides l p o e))
      (and_from (nat_lt e (length l.edges) && is_loop l e) (list_any (λ side. line_eq (loop_lane e side) m) (loop_sides l p o e))
      (and_from (nat_lt e (length l.edges)) (is_loop l e) (lt-ltb e (length l.edges) h) loop)
      (has_any (λ s. line_eq (loop_lane e s) m) (loop_sides l p o e) side has (line_eq-self m)))

  -- both docks of a self-loop lie at its child
  pub loop_node : (e : ℕ) (t : Bool) → is_loop l e ≡ true → (edge_at l e).source.child ≡ (dock_of l p o (end_at e t)).node
  loop_node e true loop = refl
  loop_node e false loop = eqb-true (edge_at l e).source.child (edge_at l e).target.child loop

  module _ (st : Stands (stage l p o d)) where
    -- an end on the east side (b is true) or on the west side
    pub plain_end : (e : ℕ) (t b : Bool) → e < length l.edges → (dock_of l p o (end_at e t)).side ≡ side_at b → IsPlainEnd (stage l p o d) e t b
    plain_end e t b h side =
        record {
          edge_in = h;
          side = side;
          in_use = anchor_in_use e t h (not_upright b _ side);
          height = at_anchor (top_of p.tops (unit_of p (dock_of l p o (end_at e t)).node)) (box_below l p o (dock_of l p o (end_at e t)).node) (dock_of l p o (end_at e t)).offset d.top ((stage l p o d).anchor e t).y (along b side);
        }
      where
        along : (b : Bool) → (dock_of l p o (end_at e t)).side ≡ side_at b
            → ((stage l p o d).anchor e t).y ≡ ((stage l p o d).box (dock_of l p o (end_at e t)).node).y +ℤ (dock_of l p o (end_at e t)).offset
        along true s = subst (λ z. offset_along z ((stage l p o d).box (dock_of l p o (end_at e t)).node) ((stage l p o d).anchor e t) (dock_of l p o (end_at e t)).offset) s (st.ends e t h).offset
        along false s = subst (λ z. offset_along z ((stage l p o d).box (dock_of l p o (end_at e t)).node) ((stage l p o d).anchor e t) (dock_of l p o (end_at e t)).offset) s (st.ends e t h).offset

  module _ (layers : List ℕ) (ready : IsReady l p o layers) where
    some_room : (i : ℕ) → pos 0 <ℤ lanes_room l (i + 1)
    some_room i = room_some i l.spacing.edge_node l.spacing.edge_edge ready.level.spacing.edge_node.above ready.level.spacing.edge_edge.above

    -- lanes lie beyond the outline of their child
    lane_above : (c : ℕ) (m : Line) (i : ℕ) → below_top l p o m ≡ lane_height l p o c North i → unit_of_line l p m ≡ unit_of p c → (stage l p o d).height m <ℤ ((stage l p o d).outline c).y
    lane_above c m i h u = above_outline (top_of p.tops (unit_of p c)) (top_of p.tops (unit_of_line l p m)) (body_top l p o c) (outline l p o c).y (lanes_room l (i + 1)) d.top (below_top l p o m) (ap (λ z. top_of p.tops z) u) h (some_room i)

    lane_below : (c : ℕ) (m : Line) (i : ℕ) → below_top l p o m ≡ lane_height l p o c South i → unit_of_line l p m ≡ unit_of p c → bottom_of ((stage l p o d).outline c) <ℤ (stage l p o d).height m
    lane_below c m i h u = below_outline (top_of p.tops (unit_of p c)) (top_of p.tops (unit_of_line l p m)) (body_top l p o c) (outline l p o c).y (outline l p o c).height (lanes_room l (i + 1)) d.top (below_top l p o m) (ap (λ z. top_of p.tops z) u) h (some_room i)

    -- an end on the north or south side, and its dock's lane or the lane of a self-loop there
    pub upright_dock : (e : ℕ) (t : Bool) → e < length l.edges → IsNorthOrSouth (dock_of l p o (end_at e t)).side → InUse (stage l p o d) e (dock_lane (dock_of l p o (end_at e t)))
        → IsUprightEnd (stage l p o d) e t (dock_lane (dock_of l p o (end_at e t)))
    upright_dock e t h lies used =
        let k = dock_of l p o (end_at e t) in
        record {
          edge_in = h;
          upright = lies;
          in_use = used;
          is_lane = tt;
          unit = refl;
          north = λ n. lane_above k.node (dock_lane k) (place_of_line (lanes l p o k.node North) (dock_lane k)) (ap (λ s. loop_lane_height l p o k.node s (dock_lane k)) (lane_side_same l k North n (inl refl))) refl;
          south = λ s. lane_below k.node (dock_lane k) (place_of_line (lanes l p o k.node South) (dock_lane k)) (ap (λ z. loop_lane_height l p o k.node z (dock_lane k)) (lane_side_same l k South s (inr refl))) refl;
        }

    pub upright_loop : (e : ℕ) (t : Bool) (side : Side) → e < length l.edges → is_loop l e ≡ true → (dock_of l p o (end_at e t)).side ≡ side → IsNorthOrSouth side → Has (loop_sides l p o e) side
        → IsUprightEnd (stage l p o d) e t (loop_lane e side)
    upright_loop e t side h loop at lies has =
        let c = (edge_at l e).source.child in
        let node = loop_node e t loop in
        record {
          edge_in = h;
          upright = subst (λ z. IsNorthOrSouth z) (sym at) lies;
          in_use = loop_lane_in_use e side h loop has;
          is_lane = tt;
          unit = ap (unit_of p) node;
          north = λ n. subst (λ z. (stage l p o d).height (loop_lane e side) <ℤ ((stage l p o d).outline z).y) node
              (lane_above c (loop_lane e side) (place_of_line (lanes l p o c North) (loop_lane e side)) (ap (λ z. loop_lane_height l p o c z (loop_lane e side)) (sym at ∙ n)) refl);
          south = λ s. subst (λ z. bottom_of ((stage l p o d).outline z) <ℤ (stage l p o d).height (loop_lane e side)) node
              (lane_below c (loop_lane e side) (place_of_line (lanes l p o c South) (loop_lane e side)) (ap (λ z. loop_lane_height l p o c z (loop_lane e side)) (sym at ∙ s)) refl);
        }
