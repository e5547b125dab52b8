-- Routes keep out of outlines and boxes.
use Rattle.std.proofs.Common.{◌≡◌, ◌≢◌, ◌⊎◌, ⊎_elim, inl, inr, ℕ, ◌+◌, ◌<◌, ◌≤◌, Bool, true, false, ℤ, ◌+ℤ◌, ◌≤ℤ◌, ◌<ℤ◌, List, subst, sym, ap, ◌∙◌, arith, length}
use Rattle.std.proofs.lemmas.Int.{ints, clamps, by_lt_z}
use Rattle.std.proofs.lemmas.Bool.{cases_Bool, cases_lt, cases_eq}
use Rattle.std.specs.Int.{int_min, int_max}
use Rattle.drawing_types.specs.declared.shape.Point.{Point}
use Rattle.drawing_types.specs.declared.shape.Dock.{Dock}
use Rattle.drawing_types.specs.Shapes.{right_of, bottom_of}
use Rattle.drawing_types.specs.Segments.{MeetsRect, EntersRect, MeetsSpan, EntersSpan}
use Rattle.elk_doc.specs.Clear.{IsClear}
use Rattle.drawing_types.proofs.SegmentBounds.{MeetsRect-spans, spans-MeetsRect, EntersRect-spans}
use Rattle.net_routes.specs.declared.Pin.{Pin}
use Rattle.net_routes.specs.Pieces.{Abscissa, left_border, slot, right_border, border_of, Corner, IsAbscissa, net_at}
use Rattle.net_routes.proofs.Borders.{IsBorder, PinAt, from_pin, to_pin}
use Rattle.route_lines.specs.Points.{gap_in as gap_at, stand, point_at}
use Rattle.route_lines.proofs.Dropping.{some_all, meetings_split, entries_split}
use Rattle.level_model.specs.Stage.{Stage, Line, anchor_line, dock_lane, loop_lane, long_lane, HasDock, InUse, IsLane, IsLaneAt, unit_of_line, ChildStands, Stands, IsPinOf}
use Rattle.level_model.specs.Law.{IsPart, stub, lane_part, border_part, net_part, IsLanePart, IsNetPart, IsLawful}
use Rattle.level_model.proofs.Zones.{InUnit, three_ways, stub_in, lane_in, border_in, dock_child, net_before, net_after, x_of, y_of}
use Rattle.plan_laws.proofs.AtDocks.{north_above, south_below, east_right, west_left}
use Rattle.plan_laws.proofs.Paths.{some_at}
use Rattle.plan_laws.proofs.Sharing.{together}

no_meet_right : (a b c d low size : ℤ) → a ≤ℤ c → b ≤ℤ c → c <ℤ d → d ≤ℤ low → MeetsSpan a b low size → ⊥
no_meet_right a b c d low size h k l m x = let s = x.starts in absurd (omega (arith, ints, clamps))

no_meet_left : (a b c d low size : ℤ) → c ≤ℤ a → c ≤ℤ b → d <ℤ c → (low +ℤ size) ≤ℤ d → MeetsSpan a b low size → ⊥
no_meet_left a b c d low size h k l m x = let s = x.ends in absurd (omega (arith, ints, clamps))

-- a piece in a unit does not meet the outline of another unit's child
unit_clear : (s : Stage) (u c : ℕ) (a b : Point) → Stands s → InUnit s u a b → ChildStands s c → u ≢ s.unit_of c → MeetsRect a b (s.outline c) → ⊥
unit_clear s u c a b st x k n m =
    let spans = MeetsRect-spans a b (s.outline c) m in
    ⊎_elim
    (λ l. no_meet_right a.x b.x _ _ _ _ x.a_right x.b_right (st.row.apart _ _ l k.column) k.left spans.0)
    (λ r. ⊎_elim
    (λ same. ⊎_elim
    (λ l. no_meet_right a.y b.y _ _ _ _ x.a_bottom x.b_bottom l k.top spans.1)
    (λ l. no_meet_left a.y b.y _ _ _ _ x.a_top x.b_top l k.bottom spans.1)
    (st.column u (s.unit_of c) x.unit k.unit n same))
    (λ l. no_meet_left a.x b.x _ _ _ _ x.a_left x.b_left (st.row.apart _ _ l x.column) k.right spans.0)
    r)
    (three_ways (s.layer u) (s.layer (s.unit_of c)))

-- the child in whose unit a line of e lies is an end node of e
line_end : (s : Stage) (e c : ℕ) (l : Line) → Stands s → InUse s e l → ChildStands s c → unit_of_line s l ≡ s.unit_of c → (at_source : Bool) × ((s.dock e at_source).node ≡ c)
line_end s e c (anchor_line d) st u k h =
    let has : HasDock s e d = st.lines.used e (anchor_line d) u in
    (has.0, ap (λ (z : Dock). z.node) has.1 ∙ st.one_child d.node c (dock_child s e d st (st.lines.edge e _ u) has) k h)
line_end s e c (dock_lane d) st u k h =
    let has : HasDock s e d = st.lines.used e (dock_lane d) u in
    (has.0, ap (λ (z : Dock). z.node) has.1 ∙ st.one_child d.node c (dock_child s e d st (st.lines.edge e _ u) has) k h)
line_end s e c (loop_lane f side) st u k h =
    let one : f ≡ e = st.lines.used e (loop_lane f side) u in
    let h' : s.unit_of (s.dock e true).node ≡ s.unit_of c = subst (λ z. s.unit_of (s.dock z true).node ≡ s.unit_of c) one h in
    (true, st.one_child _ c (st.ends e true (st.lines.edge e _ u)).child k h')
line_end s e c (long_lane v) st u k h = absurd (st.lines.no_child e v c u k h)

-- a lane in the unit of a child is a lane at that child
lane_at : (s : Stage) (e c : ℕ) (l : Line) → Stands s → InUse s e l → IsLane l → ChildStands s c → unit_of_line s l ≡ s.unit_of c → IsLaneAt s l c
lane_at s e c (anchor_line d) st u il k h = absurd il
lane_at s e c (dock_lane d) st u il k h =
    let has : HasDock s e d = st.lines.used e (dock_lane d) u in
    st.one_child d.node c (dock_child s e d st (st.lines.edge e _ u) has) k h
lane_at s e c (loop_lane f side) st u il k h =
    let one : f ≡ e = st.lines.used e (loop_lane f side) u in
    st.one_child _ c (subst (λ z. ChildStands s (s.dock z true).node) (sym one) (st.ends e true (st.lines.edge e _ u)).child) k h
lane_at s e c (long_lane v) st u il k h = absurd (st.lines.no_child e v c u k h)

-- a line that is the end of a net's pin at a column, at the height where the net meets an outline there
met_line : (s : Stage) (e c : ℕ) (l : Line) (y : ℤ) → Stands s → ChildStands s c → InUse s e l → s.layer (unit_of_line s l) ≡ s.layer (s.unit_of c) → s.height l ≡ y
    → (s.outline c).y ≤ℤ y → y ≤ℤ bottom_of (s.outline c) → (at_source : Bool) × ((s.dock e at_source).node ≡ c)
met_line s e c l y st k u layers h low high =
    let t = st.lines.top e l u in
    let b = st.lines.bottom e l u in
    elim (cases_eq (unit_of_line s l) (s.unit_of c)) [
      | inl same ↦ line_end s e c l st u k same
      | inr differ ↦
          absurd (⊎_elim
          (λ less. above _ _ _ _ _ b h less k.top low)
          (λ less. below _ _ _ _ _ t h less k.bottom high)
          (st.column _ _ (st.lines.unit e l u) k.unit differ layers))
    ]
  where
    above : (h y b t o : ℤ) → h ≤ℤ b → h ≡ y → b <ℤ t → t ≤ℤ o → o ≤ℤ y → ⊥
    above h y b t o p q r z w = absurd (omega (arith, ints))

    below : (h y t b o : ℤ) → t ≤ℤ h → h ≡ y → b <ℤ t → o ≤ℤ b → y ≤ℤ o → ⊥
    below h y t b o p q r z w = absurd (omega (arith, ints))

clash : (x y : ℤ) → x <ℤ y → y ≤ℤ x → ⊥
clash x y h k = absurd (omega (arith, ints))

-- the line of a pin that touches the column of a layer lies in that layer
touching : (s : Stage) (e g r : ℕ) (a : Abscissa) (p : Pin) → Stands s → g < length s.gaps → r < s.layers → border_of p.on_left ≡ a
    → (pin : IsPinOf s e g p) → ((g ≤ r) × (s.col_left r ≤ℤ stand (gap_at s.gaps g) a)) ⊎ ((r < g) × (stand (gap_at s.gaps g) a ≤ℤ s.col_right r))
    → s.layer (unit_of_line s pin.line) ≡ r
touching s e g r a p st g_in r_in at pin h =
    let inner = st.inner g g_in in
    let gap = st.gap g g_in in
    elim (cases_Bool p.on_left) [
      | inl l ↦
          let side = pin.left l in
          let is_left : a ≡ left_border = sym at ∙ ap border_of l in
          let col = st.lines.column e pin.line pin.in_use in
          ⊎_elim
          (λ x. absurd (clash _ _ (inner.left_apart (s.layer (unit_of_line s pin.line)) r side.0 x.0 r_in) (subst (λ z. s.col_left r ≤ℤ stand (gap_at s.gaps g) z) is_left x.1)))
          (λ x. elim (cases_lt r (s.layer (unit_of_line s pin.line))) [
            | inl less ↦
                absurd (clash3 _ _ _ _ (st.row.apart r _ less col) (st.row.columns _ col)
                (gap.after (s.layer (unit_of_line s pin.line)) left_border (below_next _ _ side.0) col tt)
                (subst (λ z. stand (gap_at s.gaps g) z ≤ℤ s.col_right r) is_left x.1))
            | inr not_less ↦ equal_next _ _ _ side.0 x.0 not_less
          ])
          h
      | inr l ↦
          let side = pin.right l in
          let is_right : a ≡ right_border = sym at ∙ ap border_of l in
          let col = st.lines.column e pin.line pin.in_use in
          let g_col : g < s.layers = subst (λ z. z < s.layers) side.0 col in
          ⊎_elim
          (λ x. elim (cases_lt g r) [
            | inl less ↦
                absurd (clash3 _ _ _ _ (st.row.apart g r less r_in)
                (subst (λ z. s.col_left r ≤ℤ stand (gap_at s.gaps g) z) is_right x.1)
                (gap.before g right_border (le_self g) g_col tt) (st.row.columns g g_col))
            | inr not_less ↦ side.0 ∙ equal_le _ _ x.0 not_less
          ])
          (λ x. absurd (clash _ _ (inner.right_apart r x.0 g_col) (subst (λ z. stand (gap_at s.gaps g) z ≤ℤ s.col_right r) is_right x.1)))
          h
    ]
  where
    clash3 : (x y z w : ℤ) → x <ℤ y → y ≤ℤ z → z ≤ℤ w → w ≤ℤ x → ⊥
    clash3 x y z w h k l m = absurd (omega (arith, ints))

    below_next : (m g : ℕ) → m + 1 ≡ g → m < g
    below_next m g h = omega arith

    equal_next : (m g r : ℕ) → m + 1 ≡ g → r < g → m ≤ r → m ≡ r
    equal_next m g r h k l = omega arith

    equal_le : (g r : ℕ) → g ≤ r → r ≤ g → g ≡ r
    equal_le g r h k = omega arith

    le_self : (g : ℕ) → g ≤ g
    le_self g = omega arith

border_or_slot : (s : Stage) (g r : ℕ) (a : Abscissa) → Stands s → g < length s.gaps → r < s.layers → IsAbscissa (gap_at s.gaps g).count a
    → ((g ≤ r) × (s.col_left r ≤ℤ stand (gap_at s.gaps g) a)) ⊎ ((r < g) × (stand (gap_at s.gaps g) a ≤ℤ s.col_right r)) → IsBorder a
border_or_slot s g r left_border st gi ri i h = tt
border_or_slot s g r right_border st gi ri i h = tt
border_or_slot s g r (slot j) st gi ri i h =
    ⊎_elim
    (λ x. absurd (clash _ _ ((st.gap g gi).slot_before r j x.0 ri i) x.1))
    (λ x. absurd (clash _ _ ((st.gap g gi).slot_after r j x.0 ri i) x.1))
    h

-- an end of a piece of a net that touches the column of c at a height of its outline: c is an end node of e
end_meets : (s : Stage) (e c : ℕ) (k : Corner) (z : Point) → Stands s → ChildStands s c → {a b : Point} (p : IsNetPart s e a b)
    → (IsBorder k.at → PinAt (net_at (gap_at s.gaps p.gap).nets p.net) k) → IsAbscissa (gap_at s.gaps p.gap).count k.at
    → z ≡ point_at (stand (gap_at s.gaps p.gap) k.at) k.height
    → ((p.gap ≤ s.layer (s.unit_of c)) × (s.col_left (s.layer (s.unit_of c)) ≤ℤ z.x)) ⊎ ((s.layer (s.unit_of c) < p.gap) × (z.x ≤ℤ s.col_right (s.layer (s.unit_of c))))
    → (s.outline c).y ≤ℤ z.y → z.y ≤ℤ bottom_of (s.outline c) → (at_source : Bool) × ((s.dock e at_source).node ≡ c)
end_meets s e c k z st child p pin abscissa is touch low high =
    let zx = x_of z _ _ is in
    let zy = y_of z _ _ is in
    let touch' = subst (λ x. ((p.gap ≤ s.layer (s.unit_of c)) × (s.col_left (s.layer (s.unit_of c)) ≤ℤ x)) ⊎ ((s.layer (s.unit_of c) < p.gap) × (x ≤ℤ s.col_right (s.layer (s.unit_of c))))) zx touch in
    let at_border = border_or_slot s p.gap (s.layer (s.unit_of c)) k.at st p.gap_there child.column abscissa touch' in
    let found = pin at_border in
    let of_gap = (st.nets p.gap p.gap_there).pins p.net found.pin p.net_there found.has in
    let mine = subst (λ w. IsPinOf s w p.gap found.pin) p.owner of_gap in
    let layers = touching s e p.gap (s.layer (s.unit_of c)) k.at found.pin st p.gap_there child.column found.at mine touch' in
    met_line s e c mine.line z.y st child mine.in_use layers (mine.height ∙ found.height ∙ sym zy) low high

-- a horizontal piece of a net that touches a column's border and an outline there: at one of its ends a line of e lies there
net_meets : (s : Stage) (e c : ℕ) (a b : Point) → Stands s → (p : IsNetPart s e a b) → ChildStands s c → MeetsRect a b (s.outline c) → (at_source : Bool) × ((s.dock e at_source).node ≡ c)
net_meets s e c a b st p k m =
    let spans = MeetsRect-spans a b (s.outline c) m in
    let starts = spans.0.starts in
    let ends = spans.0.ends in
    elim (cases_lt (s.layer (s.unit_of c)) p.gap) [
      | inl less ↦
          let side = net_after s e (s.layer (s.unit_of c)) a b st p less k.column in
          ⊎_elim
          (λ level.
          let h = level_in a.y b.y _ _ level spans.1.starts spans.1.ends in
          by_lt_z (s.col_right (s.layer (s.unit_of c))) a.x
          (λ far. end_meets s e c p.to b st k p (to_pin _ _ _ _ p.piece) p.to_in p.b_is
          (inr (less, touch_left a.x b.x _ _ far side.1 ends k.right))
          (rw (← level) h.0) (rw (← level) h.1))
          (λ near. end_meets s e c p.from a st k p (from_pin _ _ _ _ p.piece) p.from_in p.a_is (inr (less, near)) h.0 h.1))
          (λ up. absurd (past_left a.x b.x _ _ up.0 up.1 ends k.right))
          side.2
      | inr more ↦
          let side = net_before s e (s.layer (s.unit_of c)) a b st p more k.column in
          ⊎_elim
          (λ level.
          let h = level_in a.y b.y _ _ level spans.1.starts spans.1.ends in
          by_lt_z a.x (s.col_left (s.layer (s.unit_of c)))
          (λ far. end_meets s e c p.to b st k p (to_pin _ _ _ _ p.piece) p.to_in p.b_is
          (inl (more, touch_right a.x b.x _ _ far side.1 starts k.left))
          (rw (← level) h.0) (rw (← level) h.1))
          (λ near. end_meets s e c p.from a st k p (from_pin _ _ _ _ p.piece) p.from_in p.a_is (inl (more, near)) h.0 h.1))
          (λ up. absurd (past_right a.x b.x _ _ up.0 up.1 starts k.left))
          side.2
    ]
  where
    level_in : (a b low size : ℤ) → a ≡ b → low ≤ℤ int_max a b → int_min a b ≤ℤ (low +ℤ size) → (low ≤ℤ a) × (a ≤ℤ (low +ℤ size))
    level_in a b low size h k l = (omega (arith, ints, clamps), omega (arith, ints, clamps))

    touch_left : (a b z o : ℤ) → z <ℤ a → z ≤ℤ b → int_min a b ≤ℤ o → o ≤ℤ z → b ≤ℤ z
    touch_left a b z o h k l m = omega (arith, ints, clamps)

    touch_right : (a b z o : ℤ) → a <ℤ z → b ≤ℤ z → o ≤ℤ int_max a b → z ≤ℤ o → z ≤ℤ b
    touch_right a b z o h k l m = omega (arith, ints, clamps)

    past_left : (a b z o : ℤ) → a ≡ b → z <ℤ a → int_min a b ≤ℤ o → o ≤ℤ z → ⊥
    past_left a b z o h k l m = absurd (omega (arith, ints, clamps))

    past_right : (a b z o : ℤ) → a ≡ b → a <ℤ z → o ≤ℤ int_max a b → z ≤ℤ o → ⊥
    past_right a b z o h k l m = absurd (omega (arith, ints, clamps))

-- a piece of a route of e that meets the outline of c: c is an end node of e
part_meets : (s : Stage) (e c : ℕ) (a b : Point) → Stands s → ChildStands s c → IsPart s e a b → MeetsRect a b (s.outline c) → (at_source : Bool) × ((s.dock e at_source).node ≡ c)
part_meets s e c a b st k (stub p) m = (
  p.at_source,
  elim (cases_eq (s.unit_of (s.dock e p.at_source).node) (s.unit_of c)) [
    | inl same ↦ st.one_child (s.dock e p.at_source).node c (st.ends e p.at_source p.edge_in).child k same
    | inr differ ↦ absurd (unit_clear s _ c a b st (stub_in s e a b st p) k differ m)
  ],
)
part_meets s e c a b st k (lane_part p) m =
    elim (cases_eq (unit_of_line s p.lane) (s.unit_of c)) [
      | inl same ↦ line_end s e c p.lane st p.in_use k same
      | inr differ ↦ absurd (unit_clear s _ c a b st (lane_in s e a b st p) k differ m)
    ]
part_meets s e c a b st k (border_part p) m = (
  p.at_source,
  elim (cases_eq (s.unit_of (s.dock e p.at_source).node) (s.unit_of c)) [
    | inl same ↦ st.one_child (s.dock e p.at_source).node c (st.ends e p.at_source p.edge_in).child k same
    | inr differ ↦ absurd (unit_clear s _ c a b st (border_in s e a b st p) k differ m)
  ],
)
part_meets s e c a b st k (net_part p) m = net_meets s e c a b st p k m

-- what enters the box meets the outline
box_in_outline : (s : Stage) (c : ℕ) (a b : Point) → ChildStands s c → EntersRect a b (s.box c) → MeetsRect a b (s.outline c)
box_in_outline s c a b k m =
    let spans = EntersRect-spans a b (s.box c) m in
    spans-MeetsRect a b (s.outline c) (wider _ _ _ _ _ _ k.box_left k.box_right spans.0) (wider _ _ _ _ _ _ k.box_top k.box_bottom spans.1)
  where
    wider : (a b low size o o_size : ℤ) → o ≤ℤ low → (low +ℤ size) ≤ℤ (o +ℤ o_size) → EntersSpan a b low size → MeetsSpan a b o o_size
    wider a b low size o o_size h k m =
        let real = m.real in
        let starts = m.starts in
        let ends = m.ends in
        record { real = omega (arith, ints); starts = omega (arith, ints, clamps); ends = omega (arith, ints, clamps) }

no_enter_before : (a b low size : ℤ) → a ≤ℤ low → b ≤ℤ low → EntersSpan a b low size → ⊥
no_enter_before a b low size h k m = let starts = m.starts in absurd (omega (arith, ints, clamps))

no_enter_after : (a b low size : ℤ) → (low +ℤ size) ≤ℤ a → (low +ℤ size) ≤ℤ b → EntersSpan a b low size → ⊥
no_enter_after a b low size h k m = let ends = m.ends in absurd (omega (arith, ints, clamps))

le3 : (x y z w : ℤ) → x ≤ℤ y → y ≤ℤ z → z ≤ℤ w → x ≤ℤ w
le3 x y z w h k l = omega (arith, ints)

lane_enters : (s : Stage) (e c : ℕ) (a b : Point) → Stands s → ChildStands s c → (p : IsLanePart s e a b) → unit_of_line s p.lane ≡ s.unit_of c → EntersRect a b (s.box c) → ⊥
lane_enters s e c a b st k p same m =
    let y = (EntersRect-spans a b (s.box c) m).1 in
    ⊎_elim
    (λ l. no_enter_before a.y b.y _ _ (above _ _ _ _ p.a_y l k.box_top) (above _ _ _ _ p.b_y l k.box_top) y)
    (λ l. no_enter_after a.y b.y _ _ (below _ _ _ _ p.a_y l k.box_bottom) (below _ _ _ _ p.b_y l k.box_bottom) y)
    (st.lines.clear e p.lane c p.in_use (lane_at s e c p.lane st p.in_use p.is_lane k same))
  where
    above : (y h o z : ℤ) → y ≡ h → h <ℤ o → o ≤ℤ z → y ≤ℤ z
    above y h o z p q r = omega (arith, ints)

    below : (y h o z : ℤ) → y ≡ h → o <ℤ h → z ≤ℤ o → z ≤ℤ y
    below y h o z p q r = omega (arith, ints)

-- no piece of a route enters a box
part_enters : (s : Stage) (e c : ℕ) (a b : Point) → Stands s → ChildStands s c → IsPart s e a b → EntersRect a b (s.box c) → ⊥
part_enters s e c a b st k (stub p) m =
    elim (cases_eq (s.unit_of (s.dock e p.at_source).node) (s.unit_of c)) [
      | inl same ↦
          let one : (s.dock e p.at_source).node ≡ c = st.one_child (s.dock e p.at_source).node c (st.ends e p.at_source p.edge_in).child k same in
          let y = (EntersRect-spans a b (s.box c) m).1 in
          ⊎_elim
          (λ h. let u = subst (λ z. a.y ≤ℤ (s.box z).y × b.y ≤ℤ (s.box z).y) one (north_above s e a b st p h) in no_enter_before a.y b.y _ _ u.0 u.1 y)
          (λ h. let u = subst (λ z. bottom_of (s.box z) ≤ℤ a.y × bottom_of (s.box z) ≤ℤ b.y) one (south_below s e a b st p h) in no_enter_after a.y b.y _ _ u.0 u.1 y)
          p.upright
      | inr differ ↦ unit_clear s _ c a b st (stub_in s e a b st p) k differ (box_in_outline s c a b k m)
    ]
part_enters s e c a b st k (lane_part p) m =
    elim (cases_eq (unit_of_line s p.lane) (s.unit_of c)) [
      | inl same ↦ lane_enters s e c a b st k p same m
      | inr differ ↦ unit_clear s _ c a b st (lane_in s e a b st p) k differ (box_in_outline s c a b k m)
    ]
part_enters s e c a b st k (border_part p) m =
    elim (cases_eq (s.unit_of (s.dock e p.at_source).node) (s.unit_of c)) [
      | inl same ↦
          let one : (s.dock e p.at_source).node ≡ c = st.one_child (s.dock e p.at_source).node c (st.ends e p.at_source p.edge_in).child k same in
          let x = (EntersRect-spans a b (s.box c) m).0 in
          ⊎_elim
          (λ h. let u = subst (λ z. right_of (s.box z) ≤ℤ a.x × right_of (s.box z) ≤ℤ b.x) one (east_right s e a b st p h) in no_enter_after a.x b.x _ _ u.0 u.1 x)
          (λ h. let u = subst (λ z. a.x ≤ℤ (s.box z).x × b.x ≤ℤ (s.box z).x) one (west_left s e a b st p h) in no_enter_before a.x b.x _ _ u.0 u.1 x)
          p.level
      | inr differ ↦ unit_clear s _ c a b st (border_in s e a b st p) k differ (box_in_outline s c a b k m)
    ]
part_enters s e c a b st k (net_part p) m =
    let x = (EntersRect-spans a b (s.box c) m).0 in
    elim (cases_lt (s.layer (s.unit_of c)) p.gap) [
      | inl less ↦
          let n = net_after s e (s.layer (s.unit_of c)) a b st p less k.column in
          no_enter_after a.x b.x _ _ (le3 _ _ _ _ k.box_right k.right n.0) (le3 _ _ _ _ k.box_right k.right n.1) x
      | inr more ↦
          let n = net_before s e (s.layer (s.unit_of c)) a b st p more k.column in
          no_enter_before a.x b.x _ _ (le3 _ _ _ _ n.0 k.left k.box_left) (le3 _ _ _ _ n.1 k.left k.box_left) x
    ]

both_ends : (P : Bool → Type 0) → P true → P false → (t : Bool) → P t
both_ends P x y true = x
both_ends P x y false = y

pub clear_law : (s : Stage) (e c : ℕ) (ps : List Point) → Stands s → IsLawful s e ps → ChildStands s c → IsClear ps (s.dock e true).node (s.dock e false).node c (s.outline c) (s.box c)
clear_law s e c ps st x k =
    record {
      foreign = λ source target i h m.
          together (IsPart s e) (λ a b. MeetsRect a b (s.outline c)) x.fine
          (λ a b u v. let h = part_meets s e c a b st k u v in both_ends (λ t. (s.dock e t).node ≢ c) source target h.0 h.1) x.parts
          (some_all (λ a b. MeetsRect a b (s.outline c)) x.fine ps (meetings_split (s.outline c)) x.tidied.dropped (some_at (λ a b. MeetsRect a b (s.outline c)) ps i h m));
      own = λ _ i h m.
          together (IsPart s e) (λ a b. EntersRect a b (s.box c)) x.fine (λ a b u v. part_enters s e c a b st k u v) x.parts
          (some_all (λ a b. EntersRect a b (s.box c)) x.fine ps (entries_split (s.box c)) x.tidied.dropped (some_at (λ a b. EntersRect a b (s.box c)) ps i h m));
    }
