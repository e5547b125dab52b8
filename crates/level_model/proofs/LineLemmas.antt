-- Lines lie in their units, clear of outlines, and no two that reach one border of a unit lie at one height.
use Rattle.std.proofs.Common.{◌≡◌, inl, inr, ⊎_elim, ℕ, ◌<◌, Bool, true, false, ℤ, pos, ◌+ℤ◌, ◌-ℤ◌, ◌≤ℤ◌, ◌<ℤ◌, List, length, refl, sym, subst, ap, ◌∙◌, arith}
use Rattle.std.proofs.lemmas.Int.{ints}
use Rattle.std.specs.Prelude.{Option, None, Some}
use Rattle.drawing_types.specs.declared.shape.Side.{Side}
use Rattle.drawing_types.specs.declared.shape.Side.TheVariants.{North, East, South, West}
use Rattle.drawing_types.specs.declared.shape.Dock.{Dock}
use Rattle.port_order.specs.declared.children.Child.{Child}
use Rattle.port_order.specs.Places.{anchor_at}
use Rattle.self_loops.specs.Loops.{is_upright}
use Rattle.elk_layers.specs.Layered.{unit_at, is_child}
use Rattle.elk_layers.specs.Lines.{top_of}
use Rattle.level_model.specs.Stage.{Stage, Line, anchor_line, dock_lane, loop_lane, long_lane, Uses, Reaches, LinesStand, IsLaneAt, LaneClear, unit_of_line as unit_on}
use Rattle.level_model.specs.Level.{PlainLevel, PlainPlan, Orders, end_at, child_at, edge_at, spoke, spot_of, dock_of, dock_of_spot, anchor_of_spot, outline}
use Rattle.level_model.specs.Lanes.{lanes, body_top, lane_side, unit_height}
use Rattle.level_model.specs.Nets.{unit_of, unit_of_line, below_top, box_below}
use Rattle.level_model.specs.FromPlan.{LevelDrawing}
use Rattle.level_model.specs.Drawing.{stage}
use Rattle.level_model.specs.Ready.{IsReady}
use Rattle.level_model.specs.Conditions.{IsLevel}
use Rattle.level_model.specs.Units.{AreOrders}
use Rattle.level_model.proofs.SpotLemmas.{spoke_there}
use Rattle.level_model.proofs.SameLines.{same_dock}
use Rattle.level_model.proofs.EndLemmas.{lanes_from_zero, column_there, child_unit, anchor_in}
use Rattle.level_model.proofs.LaneLemmas.{IsLaneOf}
use Rattle.level_model.proofs.LaneHeights.{IsUpTo, above, below, one_lane, lane_within}
use Rattle.level_model.proofs.LinkLemmas.{child_is}
use Rattle.level_model.proofs.NameLemmas.{IsLine, line_is}

-- on the east and west sides an anchor's height is its offset
pub level_offset : (c : Child) (side : Side) (port : Option ℕ) (offset : ℤ) → is_upright side ≡ false → (anchor_at c side port offset).y ≡ offset
level_offset c North port offset h = absurd cc
level_offset c East (Some k) offset h = refl
level_offset c East None offset h = refl
level_offset c South port offset h = absurd cc
level_offset c West (Some k) offset h = refl
level_offset c West None offset h = refl

-- heights that are equal in one unit are equal below its top
same_below : (t u a b z : ℤ) → t ≡ u → ((t +ℤ a) -ℤ z) ≡ ((u +ℤ b) -ℤ z) → a ≡ b
same_below t u a b z h e = omega (arith, ints, h, e)

below_top_edge : (t a z : ℤ) → pos 0 ≤ℤ a → (t -ℤ z) ≤ℤ ((t +ℤ a) -ℤ z)
below_top_edge t a z h = omega (arith, ints, h)

above_bottom_edge : (t a u z : ℤ) → a ≤ℤ u → ((t +ℤ a) -ℤ z) ≤ℤ ((t +ℤ u) -ℤ z)
above_bottom_edge t a u z h = omega (arith, ints, h)

-- the height of a line of the stage, by the unit that the plan gives it
pub on_unit : (l : PlainLevel) (p : PlainPlan) (o : Orders) (d : LevelDrawing) (m : Line) → unit_on (stage l p o d) m ≡ unit_of_line l p m
on_unit l p o d (anchor_line k) = refl
on_unit l p o d (dock_lane k) = refl
on_unit l p o d (loop_lane e side) = refl
on_unit l p o d (long_lane u) = refl

module _ (l : PlainLevel) (p : PlainPlan) (o : Orders) (level : IsLevel l) (orders : AreOrders l p o) where
  -- an anchor's line lies at the height of the child's outline
  anchor_between : (e : ℕ) (t : Bool) → e < length l.edges → is_upright (dock_of l p o (end_at e t)).side ≡ false
      → (body_top l p o (spoke l (end_at e t)).child ≤ℤ below_top l p o (anchor_line (dock_of l p o (end_at e t))))
      × (below_top l p o (anchor_line (dock_of l p o (end_at e t))) ≤ℤ (body_top l p o (spoke l (end_at e t)).child +ℤ (outline l p o (spoke l (end_at e t)).child).height))
  anchor_between e t h beside =
      let c = (spoke l (end_at e t)).child in
      let s = spot_of l p (end_at e t) in
      let rel = anchor_in l p o level orders e t h in
      let y : (anchor_of_spot l o c s).y ≡ (dock_of_spot l o c s).offset = level_offset (child_at l c) (dock_of_spot l o c s).side s.port (dock_of_spot l o c s).offset beside in
      between (body_top l p o c) (outline l p o c).y (outline l p o c).height (dock_of_spot l o c s).offset (rw y at rel.top) (rw y at rel.bottom)
    where
      between : (b y h z : ℤ) → y ≤ℤ z → z ≤ℤ (y +ℤ h) → (b ≤ℤ ((b -ℤ y) +ℤ z)) × (((b -ℤ y) +ℤ z) ≤ℤ (b +ℤ h))
      between b y h z low high = (omega (arith, ints, low), omega (arith, ints, high))

  -- and so in the child's unit
  pub anchor_within : (e : ℕ) (t : Bool) → e < length l.edges → is_upright (dock_of l p o (end_at e t)).side ≡ false
      → IsUpTo (unit_height l p o (spoke l (end_at e t)).child) (below_top l p o (anchor_line (dock_of l p o (end_at e t))))
  anchor_within e t h beside =
      let c = (spoke l (end_at e t)).child in
      let z = anchor_between e t h beside in (
        from_top _ _ (lanes_from_zero l p o level orders (length (lanes l p o c North))) z.0,
        to_bottom _ _ _ z.1 (lanes_from_zero l p o level orders (length (lanes l p o c South))),
      )
    where
      from_top : (b z : ℤ) → pos 0 ≤ℤ b → b ≤ℤ z → pos 0 ≤ℤ z
      from_top b z h k = omega (arith, ints, h, k)

      to_bottom : (a z s : ℤ) → z ≤ℤ a → pos 0 ≤ℤ s → z ≤ℤ (a +ℤ s)
      to_bottom a z s h k = omega (arith, ints, h, k)

module _ (l : PlainLevel) (p : PlainPlan) (o : Orders) (layers : List ℕ) (ready : IsReady l p o layers) where
  dock_child_there : (e : ℕ) (d : Dock) → e < length l.edges → (t : Bool) × (dock_of l p o (end_at e t) ≡ d) → d.node < length l.children
  dock_child_there e d h has = subst (λ (z : Dock). z.node < length l.children) has.1 (spoke_there l e has.0 ready.level h).child

  pub line_unit : (e : ℕ) (m : Line) → IsLine l p o e m → unit_of_line l p m < length p.layered.units
  line_unit e (anchor_line d) h = child_unit l p o layers ready d.node (dock_child_there e d h.0 h.1)
  line_unit e (dock_lane d) h = child_unit l p o layers ready d.node (dock_child_there e d h.0 h.1)
  line_unit e (loop_lane f side) h = child_unit l p o layers ready (edge_at l f).source.child h.2.there
  line_unit e (long_lane u) h = h.2

  anchor_lies : (e : ℕ) (t : Bool) → e < length l.edges → is_upright (dock_of l p o (end_at e t)).side ≡ false
      → IsUpTo (unit_at p.layered.units (unit_of p (spoke l (end_at e t)).child)).height (below_top l p o (anchor_line (dock_of l p o (end_at e t))))
  anchor_lies e t h beside =
      let room = ready.units.rooms (spoke l (end_at e t)).child (spoke_there l e t ready.level h).child in
      let z = anchor_within l p o ready.level ready.units.orders e t h beside in
      (z.0, rw room.height z.1)

  lane_lies : (c : ℕ) (side : Side) (m : Line) → IsLaneOf l p o c side m → IsUpTo (unit_at p.layered.units (unit_of_line l p m)).height (below_top l p o m)
  lane_lies c side m h =
      let room = ready.units.rooms c h.there in
      let z = lane_within l p o ready.level ready.units.orders c side m h in
      (z.0, subst (λ u. below_top l p o m ≤ℤ (unit_at p.layered.units u).height) (sym h.unit) (rw room.height z.1))

  -- a line lies in its unit
  pub lies_in : (e : ℕ) (m : Line) → IsLine l p o e m → IsUpTo (unit_at p.layered.units (unit_of_line l p m)).height (below_top l p o m)
  lies_in e (anchor_line d) h =
      let has = h.1 in
      subst (λ (z : Dock). IsUpTo (unit_at p.layered.units (unit_of p z.node)).height (below_top l p o (anchor_line z))) has.1
      (anchor_lies e has.0 h.0 (subst (λ (z : Dock). is_upright z.side ≡ false) (sym has.1) h.2))
  lies_in e (dock_lane d) h = lane_lies d.node (lane_side l d) (dock_lane d) h.2
  lies_in e (loop_lane f side) h = lane_lies (edge_at l f).source.child side (loop_lane f side) h.2
  lies_in e (long_lane u) h = (omega (arith, ints), ready.sound.heights u h.2)

  -- no unit is that of two children
  pub one_unit : (b c : ℕ) → b < length l.children → c < length l.children → unit_of p b ≡ unit_of p c → b ≡ c
  one_unit b c hb hc same =
      let kb : (unit_at p.layered.units (unit_of p b)).child ≡ Some b = (ready.units.linked.children b hb).child in
      let kc : (unit_at p.layered.units (unit_of p c)).child ≡ Some c = (ready.units.linked.children c hc).child in
      let both : Some b ≡ Some c = sym kb ∙ ap (λ u. (unit_at p.layered.units u).child) same ∙ kc in
      cc

  off_lane : (c : ℕ) (side : Side) (n : Line) (z : ℤ) → IsLaneOf l p o c side n → body_top l p o c ≤ℤ z → z ≤ℤ (body_top l p o c +ℤ (outline l p o c).height) → z ≡ below_top l p o n → ⊥
  off_lane c side n z h low high e =
      ⊎_elim
      (λ (sn : side ≡ North). let a = above l p o ready.level ready.units.orders c n (subst (λ s. IsLaneOf l p o c s n) sn h) in up _ _ _ _ low a.height a.some e)
      (λ (ss : side ≡ South). let a = below l p o ready.level ready.units.orders c n (subst (λ s. IsLaneOf l p o c s n) ss h) in down (body_top l p o c) (outline l p o c).height _ _ _ high a.height a.some e)
      h.upright
    where
      up : (b r z y : ℤ) → b ≤ℤ z → y ≡ b -ℤ r → pos 0 <ℤ r → z ≡ y → ⊥
      up b r z y h k s e = absurd (omega (arith, ints, h, k, s, e))

      down : (b v r z y : ℤ) → z ≤ℤ (b +ℤ v) → y ≡ b +ℤ v +ℤ r → pos 0 <ℤ r → z ≡ y → ⊥
      down b v r z y h k s e = absurd (omega (arith, ints, h, k, s, e))

  -- an anchor's line and a lane of one unit are not at one height
  anchor_off_lane : (e c : ℕ) (d : Dock) (side : Side) (n : Line) → IsLine l p o e (anchor_line d) → IsLaneOf l p o c side n → unit_of p d.node ≡ unit_of_line l p n → below_top l p o (anchor_line d) ≡ below_top l p o n → ⊥
  anchor_off_lane e c d side n h k unit height =
      let has = h.1 in
      let node : d.node ≡ c = one_unit d.node c (dock_child_there e d h.0 has) k.there (unit ∙ k.unit) in
      let z = anchor_between l p o ready.level ready.units.orders e has.0 h.0 (subst (λ (x : Dock). is_upright x.side ≡ false) (sym has.1) h.2) in
      let low : body_top l p o d.node ≤ℤ below_top l p o (anchor_line d) = subst (λ (x : Dock). body_top l p o x.node ≤ℤ below_top l p o (anchor_line x)) has.1 z.0 in
      let high : below_top l p o (anchor_line d) ≤ℤ (body_top l p o d.node +ℤ (outline l p o d.node).height) = subst (λ (x : Dock). below_top l p o (anchor_line x) ≤ℤ (body_top l p o x.node +ℤ (outline l p o x.node).height)) has.1 z.1 in
      off_lane c side n (below_top l p o (anchor_line d)) k (subst (λ x. body_top l p o x ≤ℤ below_top l p o (anchor_line d)) node low) (subst (λ x. below_top l p o (anchor_line d) ≤ℤ (body_top l p o x +ℤ (outline l p o x).height)) node high) height

  two_anchors : (e f : ℕ) (d k : Dock) → IsLine l p o e (anchor_line d) → IsLine l p o f (anchor_line k) → d.side ≡ k.side → unit_of p d.node ≡ unit_of p k.node → below_top l p o (anchor_line d) ≡ below_top l p o (anchor_line k) → d ≡ k
  two_anchors e f d k h g side unit height =
      let node : d.node ≡ k.node = one_unit d.node k.node (dock_child_there e d h.0 h.1) (dock_child_there f k g.0 g.1) unit in
      same_dock d k node side (cancel _ _ _ (subst (λ x. (box_below l p o x +ℤ d.offset) ≡ (box_below l p o k.node +ℤ k.offset)) node height))
    where
      cancel : (b x y : ℤ) → (b +ℤ x) ≡ (b +ℤ y) → x ≡ y
      cancel b x y e = omega (arith, ints, e)

  two_lanes : (b c : ℕ) (s t : Side) (m n : Line) → IsLaneOf l p o b s m → IsLaneOf l p o c t n → unit_of_line l p m ≡ unit_of_line l p n → below_top l p o m ≡ below_top l p o n → m ≡ n
  two_lanes b c s t m n h k unit height =
      let node : b ≡ c = one_unit b c h.there k.there (sym h.unit ∙ unit ∙ k.unit) in
      one_lane l p o ready.level ready.units.orders c s t m n (subst (λ x. IsLaneOf l p o x s m) node h) k height

  -- the unit of a lane of a long edge is that of no child
  pub no_child_unit : (u c : ℕ) → is_child p.layered u ≡ false → c < length l.children → u ≡ unit_of p c → ⊥
  no_child_unit u c lane h same = absurd (let child : is_child p.layered u ≡ true = ap (is_child p.layered) same ∙ child_is l p o layers ready c h in let bad : true ≡ false = sym child ∙ lane in cc)

  -- two lines that reach one border of one unit at one height are one
  pub lines_differ : (e f : ℕ) (m n : Line) (side : Side) → IsLine l p o e m → IsLine l p o f n → Reaches side m → Reaches side n → unit_of_line l p m ≡ unit_of_line l p n → below_top l p o m ≡ below_top l p o n → m ≡ n
  lines_differ e f (anchor_line d) (anchor_line k) side h g r q unit height = ap anchor_line (two_anchors e f d k h g (r ∙ sym q) unit height)
  lines_differ e f (anchor_line d) (dock_lane k) side h g r q unit height = absurd (anchor_off_lane e k.node d (lane_side l k) (dock_lane k) h g.2 unit height)
  lines_differ e f (anchor_line d) (loop_lane j s) side h g r q unit height = absurd (anchor_off_lane e (edge_at l j).source.child d s (loop_lane j s) h g.2 unit height)
  lines_differ e f (anchor_line d) (long_lane v) side h g r q unit height = absurd (no_child_unit v d.node g.3 (dock_child_there e d h.0 h.1) (sym unit))
  lines_differ e f (dock_lane d) (anchor_line k) side h g r q unit height = absurd (anchor_off_lane f d.node k (lane_side l d) (dock_lane d) g h.2 (sym unit) (sym height))
  lines_differ e f (dock_lane d) (dock_lane k) side h g r q unit height = two_lanes d.node k.node (lane_side l d) (lane_side l k) (dock_lane d) (dock_lane k) h.2 g.2 unit height
  lines_differ e f (dock_lane d) (loop_lane j s) side h g r q unit height = two_lanes d.node (edge_at l j).source.child (lane_side l d) s (dock_lane d) (loop_lane j s) h.2 g.2 unit height
  lines_differ e f (dock_lane d) (long_lane v) side h g r q unit height = absurd (no_child_unit v d.node g.3 (dock_child_there e d h.0 h.1) (sym unit))
  lines_differ e f (loop_lane i s) (anchor_line k) side h g r q unit height = absurd (anchor_off_lane f (edge_at l i).source.child k s (loop_lane i s) g h.2 (sym unit) (sym height))
  lines_differ e f (loop_lane i s) (dock_lane k) side h g r q unit height = two_lanes (edge_at l i).source.child k.node s (lane_side l k) (loop_lane i s) (dock_lane k) h.2 g.2 unit height
  lines_differ e f (loop_lane i s) (loop_lane j t) side h g r q unit height = two_lanes (edge_at l i).source.child (edge_at l j).source.child s t (loop_lane i s) (loop_lane j t) h.2 g.2 unit height
  lines_differ e f (loop_lane i s) (long_lane v) side h g r q unit height = absurd (no_child_unit v (edge_at l i).source.child g.3 h.2.there (sym unit))
  lines_differ e f (long_lane u) (anchor_line k) side h g r q unit height = absurd (no_child_unit u k.node h.3 (dock_child_there f k g.0 g.1) unit)
  lines_differ e f (long_lane u) (dock_lane k) side h g r q unit height = absurd (no_child_unit u k.node h.3 (dock_child_there f k g.0 g.1) unit)
  lines_differ e f (long_lane u) (loop_lane j t) side h g r q unit height = absurd (no_child_unit u (edge_at l j).source.child h.3 g.2.there unit)
  lines_differ e f (long_lane u) (long_lane v) side h g r q unit height = ap long_lane unit

  module _ (d : LevelDrawing) where
    abbrev s : Stage
    s = stage l p o d

    edge_first : (e : ℕ) (m : Line) → IsLine l p o e m → e < length l.edges
    edge_first e (anchor_line k) h = h.0
    edge_first e (dock_lane k) h = h.0
    edge_first e (loop_lane f side) h = h.0
    edge_first e (long_lane u) h = h.0

    used : (e : ℕ) (m : Line) → IsLine l p o e m → Uses s e m
    used e (anchor_line k) h = h.1
    used e (dock_lane k) h = h.1
    used e (loop_lane f side) h = h.1
    used e (long_lane u) h = h.1

    lane_clear : (c : ℕ) (side : Side) (m : Line) → IsLaneOf l p o c side m → LaneClear s m c
    lane_clear c side m h =
        let t : top_of p.tops (unit_of_line l p m) ≡ top_of p.tops (unit_of p c) = ap (top_of p.tops) h.unit in
        ⊎_elim
        (λ (sn : side ≡ North). let a = above l p o ready.level ready.units.orders c m (subst (λ x. IsLaneOf l p o c x m) sn h) in inl (up _ _ (body_top l p o c) (outline l p o c).y _ _ d.top t a.height a.some))
        (λ (ss : side ≡ South). let a = below l p o ready.level ready.units.orders c m (subst (λ x. IsLaneOf l p o c x m) ss h) in inr (down _ _ (body_top l p o c) (outline l p o c).y (outline l p o c).height _ _ d.top t a.height a.some))
        h.upright
      where
        up : (t u b y r n z : ℤ) → t ≡ u → n ≡ b -ℤ r → pos 0 <ℤ r → ((t +ℤ n) -ℤ z) <ℤ (((u +ℤ (b -ℤ y)) -ℤ z) +ℤ y)
        up t u b y r n z h k w = omega (arith, ints, h, k, w)

        down : (t u b y v r n z : ℤ) → t ≡ u → n ≡ b +ℤ v +ℤ r → pos 0 <ℤ r → ((((u +ℤ (b -ℤ y)) -ℤ z) +ℤ y) +ℤ v) <ℤ ((t +ℤ n) -ℤ z)
        down t u b y v r n z h k w = omega (arith, ints, h, k, w)

    clear : (e : ℕ) (m : Line) (c : ℕ) → IsLine l p o e m → IsLaneAt s m c → LaneClear s m c
    clear e (anchor_line k) c h at = absurd at
    clear e (dock_lane k) c h at = subst (LaneClear s (dock_lane k)) at (lane_clear k.node (lane_side l k) (dock_lane k) h.2)
    clear e (loop_lane f side) c h at = subst (LaneClear s (loop_lane f side)) at (lane_clear (edge_at l f).source.child side (loop_lane f side) h.2)
    clear e (long_lane u) c h at = absurd at

    pub lines_stand : LinesStand s
    lines_stand =
        record {
          edge = λ e m runs. edge_first e m (line_is l p o layers ready e m runs);
          used = λ e m runs. used e m (line_is l p o layers ready e m runs);
          unit = λ e m runs. rw (on_unit l p o d m) (line_unit e m (line_is l p o layers ready e m runs));
          column = λ e m runs. rw (on_unit l p o d m) (column_there l p o layers ready (unit_of_line l p m) (line_unit e m (line_is l p o layers ready e m runs)));
          top = λ e m runs. rw (on_unit l p o d m) (below_top_edge (top_of p.tops (unit_of_line l p m)) _ d.top (lies_in e m (line_is l p o layers ready e m runs)).0);
          bottom = λ e m runs. rw (on_unit l p o d m) (above_bottom_edge (top_of p.tops (unit_of_line l p m)) _ _ d.top (lies_in e m (line_is l p o layers ready e m runs)).1);
          clear = λ e m c runs at. clear e m c (line_is l p o layers ready e m runs) at;
          no_child = λ e u c runs stands same. no_child_unit u c (line_is l p o layers ready e (long_lane u) runs).3 stands.there same;
          differ = λ e f m n side runs also r q unit height.
              let one : unit_of_line l p m ≡ unit_of_line l p n = sym (on_unit l p o d m) ∙ unit ∙ on_unit l p o d n in
              lines_differ e f m n side (line_is l p o layers ready e m runs) (line_is l p o layers ready f n also) r q one
              (same_below _ _ _ _ _ (ap (top_of p.tops) one) height);
        }
