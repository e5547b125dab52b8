-- Where the pieces of routes lie: in their unit, or in their gap.
use Rattle.std.proofs.Common.{◌≡◌, ◌≢◌, ◌⊎◌, ⊎_elim, inl, inr, ℕ, ◌+◌, ◌<◌, ◌≤◌, ℤ, ◌≤ℤ◌, ◌<ℤ◌, subst, sym, ap, ◌∙◌, arith}
use Rattle.std.proofs.lemmas.Int.{ints, clamps}
use Rattle.std.proofs.lemmas.Bool.{cases_lt}
use Rattle.drawing_types.specs.declared.shape.Point.{Point}
use Rattle.drawing_types.specs.declared.shape.Dock.{Dock}
use Rattle.drawing_types.specs.Segments.{Share, IsBetween}
use Rattle.drawing_types.proofs.SegmentBounds.{SharedPiece, Share-piece}
use Rattle.net_routes.specs.Pieces.{slot, IsAbscissa}
use Rattle.route_lines.specs.Points.{gap_in as gap_at, stand, point_at}
use Rattle.level_model.specs.Stage.{Stage, HasDock, unit_of_line, ChildStands, Stands}
use Rattle.level_model.specs.Law.{IsStub, IsLanePart, IsBorderPart, IsNetPart}

pub three_ways : (m n : ℕ) → (m < n) ⊎ ((m ≡ n) ⊎ (n < m))
three_ways m n = ⊎_elim (λ l. inl l) (λ l. ⊎_elim (λ k. inr (inr k)) (λ k. inr (inl (omega arith))) (cases_lt n m)) (cases_lt m n)

-- a piece lies in the column of a unit, between the unit's top and bottom
pub record InUnit (s : Stage) (u : ℕ) (a b : Point) : Type 0 where
  pub unit : u < s.units
  pub column : s.layer u < s.layers
  pub a_left : s.col_left (s.layer u) ≤ℤ a.x
  pub b_left : s.col_left (s.layer u) ≤ℤ b.x
  pub a_right : a.x ≤ℤ s.col_right (s.layer u)
  pub b_right : b.x ≤ℤ s.col_right (s.layer u)
  pub a_top : s.top u ≤ℤ a.y
  pub b_top : s.top u ≤ℤ b.y
  pub a_bottom : a.y ≤ℤ s.bottom u
  pub b_bottom : b.y ≤ℤ s.bottom u

-- a number between two that lie in a stretch lies in it
pub within : (p q z low high : ℤ) → IsBetween p q z → low ≤ℤ p → p ≤ℤ high → low ≤ℤ q → q ≤ℤ high → (low ≤ℤ z) × (z ≤ℤ high)
within p q z low high h a b c d = let x = h.0 in let y = h.1 in (omega (arith, ints, clamps), omega (arith, ints, clamps))

-- the child of a dock that an edge has
pub dock_child : (s : Stage) (e : ℕ) (d : Dock) → Stands s → e < s.edges → HasDock s e d → ChildStands s d.node
dock_child s e d st lt has = subst (λ (z : Dock). ChildStands s z.node) has.1 (st.ends e has.0 lt).child

pub le_trans : (a b c : ℤ) → a ≤ℤ b → b ≤ℤ c → a ≤ℤ c
le_trans a b c h k = omega (arith, ints)

pub stub_in : (s : Stage) (e : ℕ) (a b : Point) → Stands s → (p : IsStub s e a b) → InUnit s (s.unit_of (s.dock e p.at_source).node) a b
stub_in s e a b st p =
    let d = st.ends e p.at_source p.edge_in in
    let c = d.child in
    let o = d.in_outline in
    let x0 : s.col_left (s.layer (s.unit_of (s.dock e p.at_source).node)) ≤ℤ (s.anchor e p.at_source).x = le_trans _ _ _ c.left o.left in
    let x1 : (s.anchor e p.at_source).x ≤ℤ s.col_right (s.layer (s.unit_of (s.dock e p.at_source).node)) = le_trans _ _ _ o.right c.right in
    let y0 : s.top (s.unit_of (s.dock e p.at_source).node) ≤ℤ (s.anchor e p.at_source).y = le_trans _ _ _ c.top o.top in
    let y1 : (s.anchor e p.at_source).y ≤ℤ s.bottom (s.unit_of (s.dock e p.at_source).node) = le_trans _ _ _ o.bottom c.bottom in
    let l0 = p.reach_top in
    let l1 = p.reach_bottom in
    let wa = within _ _ _ _ _ p.a_y y0 y1 l0 l1 in
    let wb = within _ _ _ _ _ p.b_y y0 y1 l0 l1 in
    record {
      unit = c.unit;
      column = c.column;
      a_left = rw p.a_x x0;
      b_left = rw p.b_x x0;
      a_right = rw p.a_x x1;
      b_right = rw p.b_x x1;
      a_top = wa.0;
      b_top = wb.0;
      a_bottom = wa.1;
      b_bottom = wb.1;
    }

pub lane_in : (s : Stage) (e : ℕ) (a b : Point) → Stands s → (p : IsLanePart s e a b) → InUnit s (unit_of_line s p.lane) a b
lane_in s e a b st p =
    let col = st.lines.column e p.lane p.in_use in
    let ordered = st.row.columns (s.layer (unit_of_line s p.lane)) col in
    let t = st.lines.top e p.lane p.in_use in
    let l = st.lines.bottom e p.lane p.in_use in
    let wa = within _ _ _ _ _ p.a_x (le_self _) ordered ordered (le_self _) in
    let wb = within _ _ _ _ _ p.b_x (le_self _) ordered ordered (le_self _) in
    record {
      unit = st.lines.unit e p.lane p.in_use;
      column = col;
      a_left = wa.0;
      b_left = wb.0;
      a_right = wa.1;
      b_right = wb.1;
      a_top = rw p.a_y t;
      b_top = rw p.b_y t;
      a_bottom = rw p.a_y l;
      b_bottom = rw p.b_y l;
    }
  where
    le_self : (z : ℤ) → z ≤ℤ z
    le_self z = omega (arith, ints)

pub border_in : (s : Stage) (e : ℕ) (a b : Point) → Stands s → (p : IsBorderPart s e a b) → InUnit s (s.unit_of (s.dock e p.at_source).node) a b
border_in s e a b st p =
    let d = st.ends e p.at_source p.edge_in in
    let c = d.child in
    let o = d.in_outline in
    let x0 : s.col_left (s.layer (s.unit_of (s.dock e p.at_source).node)) ≤ℤ (s.anchor e p.at_source).x = le_trans _ _ _ c.left o.left in
    let x1 : (s.anchor e p.at_source).x ≤ℤ s.col_right (s.layer (s.unit_of (s.dock e p.at_source).node)) = le_trans _ _ _ o.right c.right in
    let y0 : s.top (s.unit_of (s.dock e p.at_source).node) ≤ℤ (s.anchor e p.at_source).y = le_trans _ _ _ c.top o.top in
    let y1 : (s.anchor e p.at_source).y ≤ℤ s.bottom (s.unit_of (s.dock e p.at_source).node) = le_trans _ _ _ o.bottom c.bottom in
    let wa = within _ _ _ _ _ p.a_x x0 x1 p.reach_left p.reach_right in
    let wb = within _ _ _ _ _ p.b_x x0 x1 p.reach_left p.reach_right in
    record {
      unit = c.unit;
      column = c.column;
      a_left = wa.0;
      b_left = wb.0;
      a_right = wa.1;
      b_right = wb.1;
      a_top = rw p.a_y y0;
      b_top = rw p.b_y y0;
      a_bottom = rw p.a_y y1;
      b_bottom = rw p.b_y y1;
    }

-- pieces with a stretch of x, or of y, between them share nothing
apart_x : (a b c d : Point) (p q : ℤ) → a.x ≤ℤ p → b.x ≤ℤ p → p <ℤ q → q ≤ℤ c.x → q ≤ℤ d.x → SharedPiece a b c d → ⊥
apart_x a b c d p q ha hb h hc hd m = let across = m.across in absurd (omega (arith, ints, clamps))

apart_y : (a b c d : Point) (p q : ℤ) → a.y ≤ℤ p → b.y ≤ℤ p → p <ℤ q → q ≤ℤ c.y → q ≤ℤ d.y → SharedPiece a b c d → ⊥
apart_y a b c d p q ha hb h hc hd m = let along = m.along in absurd (omega (arith, ints, clamps))

pub reversed_share : (a b c d : Point) → Share a b c d → Share c d a b
reversed_share a b c d m =
    record {
      one = m.one;
      other = m.other;
      differ = m.differ;
      one_on_first = m.one_on_second;
      one_on_second = m.one_on_first;
      other_on_first = m.other_on_second;
      other_on_second = m.other_on_first;
    }

columns_apart : (s : Stage) (u v : ℕ) (a b c d : Point) → Stands s → InUnit s u a b → InUnit s v c d → s.layer u < s.layer v → Share a b c d → ⊥
columns_apart s u v a b c d st x y less m =
    apart_x a b c d _ _ x.a_right x.b_right (st.row.apart (s.layer u) (s.layer v) less y.column) y.a_left y.b_left (Share-piece a b c d m)

-- pieces in two units share nothing
pub units_apart : (s : Stage) (u v : ℕ) (a b c d : Point) → Stands s → InUnit s u a b → InUnit s v c d → u ≢ v → Share a b c d → ⊥
units_apart s u v a b c d st x y n m =
    ⊎_elim
    (λ less. columns_apart s u v a b c d st x y less m)
    (λ rest. ⊎_elim
    (λ same. ⊎_elim
    (λ l. apart_y a b c d _ _ x.a_bottom x.b_bottom l y.a_top y.b_top (Share-piece a b c d m))
    (λ l. apart_y c d a b _ _ y.a_bottom y.b_bottom l x.a_top x.b_top (Share-piece c d a b (reversed_share a b c d m)))
    (st.column u v x.unit y.unit n same))
    (λ more. columns_apart s v u c d a b st y x more (reversed_share a b c d m))
    rest)
    (three_ways (s.layer u) (s.layer v))

-- The piece c d lies left of z, at z at most where it is level; then it shares nothing with a piece right of z.
left_piece : (a b c d : Point) (z : ℤ) → c.x ≤ℤ z → d.x ≤ℤ z → z ≤ℤ a.x → z ≤ℤ b.x → ((c.y ≡ d.y) ⊎ ((c.x ≡ d.x) × (c.x <ℤ z))) → SharedPiece a b c d → ⊥
left_piece a b c d z hc hd ha hb h m =
    let across = m.across in
    ⊎_elim
    (λ e. ⊎_elim (λ l. absurd (omega (arith, ints, clamps))) (λ l. absurd (omega (arith, ints, clamps))) m.long)
    (λ e. let e0 = e.0 in let e1 = e.1 in absurd (omega (arith, ints, clamps)))
    h

right_piece : (a b c d : Point) (z : ℤ) → z ≤ℤ c.x → z ≤ℤ d.x → a.x ≤ℤ z → b.x ≤ℤ z → ((c.y ≡ d.y) ⊎ ((c.x ≡ d.x) × (z <ℤ c.x))) → SharedPiece a b c d → ⊥
right_piece a b c d z hc hd ha hb h m =
    let across = m.across in
    ⊎_elim
    (λ e. ⊎_elim (λ l. absurd (omega (arith, ints, clamps))) (λ l. absurd (omega (arith, ints, clamps))) m.long)
    (λ e. let e0 = e.0 in let e1 = e.1 in absurd (omega (arith, ints, clamps)))
    h

pub x_of : (p : Point) (x y : ℤ) → p ≡ point_at x y → p.x ≡ x
x_of p x y e = ap (λ (q : Point). q.x) e

pub y_of : (p : Point) (x y : ℤ) → p ≡ point_at x y → p.y ≡ y
y_of p x y e = ap (λ (q : Point). q.y) e

-- a piece of a net left of a column: at the column's border at most where it is level
pub net_before : (s : Stage) (e r : ℕ) (a b : Point) → Stands s → (p : IsNetPart s e a b) → p.gap ≤ r → r < s.layers
    → (a.x ≤ℤ s.col_left r) × (b.x ≤ℤ s.col_left r) × ((a.y ≡ b.y) ⊎ ((a.x ≡ b.x) × (a.x <ℤ s.col_left r)))
net_before s e r a b st p le lt =
    let g = st.gap p.gap p.gap_there in
    let ax = x_of a _ _ p.a_is in
    let bx = x_of b _ _ p.b_is in
    let ay = y_of a _ _ p.a_is in
    let by = y_of b _ _ p.b_is in (
      rw ax (g.before r p.from.at le lt p.from_in),
      rw bx (g.before r p.to.at le lt p.to_in),
      ⊎_elim
          (λ h. inl (ay ∙ h ∙ sym by))
          (λ (h : (i : ℕ) × (p.from.at ≡ slot i) × (p.to.at ≡ slot i)). let fx = ap (λ z. stand (gap_at s.gaps p.gap) z) h.1 in
          let tx = ap (λ z. stand (gap_at s.gaps p.gap) z) h.2 in
          let in_gap : h.0 < (gap_at s.gaps p.gap).count = subst (λ z. IsAbscissa (gap_at s.gaps p.gap).count z) h.1 p.from_in in
          inr (ax ∙ fx ∙ sym (bx ∙ tx), rw (ax ∙ fx) (g.slot_before r h.0 le lt in_gap)))
          p.straight,
    )

pub net_after : (s : Stage) (e r : ℕ) (a b : Point) → Stands s → (p : IsNetPart s e a b) → r < p.gap → r < s.layers
    → (s.col_right r ≤ℤ a.x) × (s.col_right r ≤ℤ b.x) × ((a.y ≡ b.y) ⊎ ((a.x ≡ b.x) × (s.col_right r <ℤ a.x)))
net_after s e r a b st p le lt =
    let g = st.gap p.gap p.gap_there in
    let ax = x_of a _ _ p.a_is in
    let bx = x_of b _ _ p.b_is in
    let ay = y_of a _ _ p.a_is in
    let by = y_of b _ _ p.b_is in (
      rw ax (g.after r p.from.at le lt p.from_in),
      rw bx (g.after r p.to.at le lt p.to_in),
      ⊎_elim
          (λ h. inl (ay ∙ h ∙ sym by))
          (λ (h : (i : ℕ) × (p.from.at ≡ slot i) × (p.to.at ≡ slot i)). let fx = ap (λ z. stand (gap_at s.gaps p.gap) z) h.1 in
          let tx = ap (λ z. stand (gap_at s.gaps p.gap) z) h.2 in
          let in_gap : h.0 < (gap_at s.gaps p.gap).count = subst (λ z. IsAbscissa (gap_at s.gaps p.gap).count z) h.1 p.from_in in
          inr (ax ∙ fx ∙ sym (bx ∙ tx), rw (ax ∙ fx) (g.slot_after r h.0 le lt in_gap)))
          p.straight,
    )

-- a piece in a unit and a piece of a net share nothing
pub unit_net_apart : (s : Stage) (u f : ℕ) (a b c d : Point) → Stands s → InUnit s u a b → IsNetPart s f c d → Share a b c d → ⊥
unit_net_apart s u f a b c d st x p m =
    ⊎_elim
    (λ less. let n = net_after s f (s.layer u) c d st p less x.column in
    right_piece a b c d (s.col_right (s.layer u)) n.0 n.1 x.a_right x.b_right n.2 (Share-piece a b c d m))
    (λ more. let n = net_before s f (s.layer u) c d st p (omega arith) x.column in
    left_piece a b c d (s.col_left (s.layer u)) n.0 n.1 x.a_left x.b_left n.2 (Share-piece a b c d m))
    (cases_lt (s.layer u) p.gap)

-- pieces of nets in two gaps share nothing
pub gaps_apart : (s : Stage) (e f : ℕ) (a b c d : Point) → Stands s → (p : IsNetPart s e a b) → (q : IsNetPart s f c d) → p.gap < q.gap → Share a b c d → ⊥
gaps_apart s e f a b c d st p q less m =
    let last : q.gap < s.layers + 1 = rw (← st.row.as_many) q.gap_there in
    let in_range : p.gap < s.layers = omega arith in
    let x = net_before s e p.gap a b st p (omega arith) in_range in
    let y = net_after s f p.gap c d st q less in_range in
    let ordered = st.row.columns p.gap in_range in
    left_piece c d a b (s.col_left p.gap) x.0 x.1 (le_trans _ _ _ ordered y.0) (le_trans _ _ _ ordered y.1) x.2 (Share-piece c d a b (reversed_share a b c d m))
