-- Outlines in a drawing, and the distances that they keep.
use Rattle.std.proofs.Common.{◌≡◌, ◌≢◌, ◌⊎◌, inl, inr, ℕ, ◌+◌, ◌-◌, ◌<◌, true, ℤ, pos, ◌+ℤ◌, ◌-ℤ◌, ◌≤ℤ◌, ◌<ℤ◌, List, [], ◌∷◌, length, get_or, refl, sym, subst, ap, ◌∙◌, arith}
use Rattle.std.proofs.lemmas.Int.{ints, clamps}
use Rattle.std.proofs.lemmas.Bool.{cases_order}
use Rattle.std.specs.Prelude.{slice_index}
use Rattle.std.specs.Int.{int_min, int_max}
use Rattle.std.specs.List.{filter, range_with_len}
use Rattle.drawing_types.specs.declared.shape.Point.{Point}
use Rattle.drawing_types.specs.declared.shape.Size.{Size}
use Rattle.drawing_types.specs.declared.shape.Rect.{Rect}
use Rattle.drawing_types.specs.Shapes.{rect_at, moved_by, hull}
use Rattle.drawing_types.specs.Clearance.{IsLeftBy, IsAboveBy}
use Rattle.drawing_types.proofs.SameShapes.{same_rect}
use Rattle.elk_layers.specs.Layered.{unit_at, row_at, is_child}
use Rattle.elk_layers.specs.Lines.{top_of}
use Rattle.port_order.specs.Child.{port_at}
use Rattle.level_model.specs.Level.{PlainLevel, PlainPlan, Orders, child_at, port_place, outline_from}
use Rattle.level_model.specs.Nets.{unit_of, layer_of_child, column_width}
use Rattle.level_model.specs.FromPlan.{LevelDrawing, box_place, IsPlaced, IsDrawnFrom}
use Rattle.level_model.specs.Drawing.{outline_at}
use Rattle.level_model.specs.Ready.{IsReady}
use Rattle.level_model.specs.Apart.{drawn_box, drawn_port, drawn_outline_from, OutlinesAreDrawn, ChildrenApart, ChildrenKeepApart}
use Rattle.level_model.proofs.Lists.{Has, has_filter, filter_has, below_has, has_at, at_has}
use Rattle.level_model.proofs.Columns.{rights}
use Rattle.level_model.proofs.GapLemmas.{columns, inner_room_is}
use Rattle.plan_laws.proofs.RowLemmas.{ends_above, row_there}
use Rattle.level_model.proofs.EndLemmas.{child_unit, column_there, child_stands}
use Rattle.level_model.proofs.LineLemmas.{one_unit}
use Rattle.level_model.proofs.LinkLemmas.{child_is}

-- a rectangle, moved by a point
abbrev moved : Point → Rect → Rect
moved b r = record { x = b.x +ℤ r.x; y = b.y +ℤ r.y; width = r.width; height = r.height }

low_moved : (b u v : ℤ) → int_min (b +ℤ u) (b +ℤ v) ≡ b +ℤ int_min u v
low_moved b u v = omega (arith, ints, clamps)

high_moved : (b x w y v : ℤ) → int_max ((b +ℤ x) +ℤ w) ((b +ℤ y) +ℤ v) ≡ b +ℤ int_max (x +ℤ w) (y +ℤ v)
high_moved b x w y v = omega (arith, ints, clamps)

span_moved : (b h k low m : ℤ) → h ≡ b +ℤ k → low ≡ b +ℤ m → (h -ℤ low) ≡ (k -ℤ m)
span_moved b h k low m e f = omega (arith, ints, e, f)

hull_moved : (b : Point) (r s : Rect) → hull (moved b r) (moved b s) ≡ moved b (hull r s)
hull_moved b r s =
    same_rect _ _ (low_moved b.x r.x s.x) (low_moved b.y r.y s.y)
    (span_moved b.x _ _ _ _ (high_moved b.x r.x r.width s.x s.width) (low_moved b.x r.x s.x))
    (span_moved b.y _ _ _ _ (high_moved b.y r.y r.height s.y s.height) (low_moved b.y r.y s.y))

at_corner : (b : Point) (s : Size) → rect_at b s ≡ moved b (rect_at (record { x = pos 0; y = pos 0 }) s)
at_corner b s = same_rect _ _ (nothing b.x) (nothing b.y) refl refl
  where
    nothing : (z : ℤ) → z ≡ z +ℤ pos 0
    nothing z = omega (arith, ints)

module _ (l : PlainLevel) (p : PlainPlan) (o : Orders) (d : LevelDrawing) (c : ℕ) (placed : IsPlaced l p o d c) where
  outline_moved : (ks : List ℕ) → ((k : ℕ) → Has ks k → k < length (child_at l c).ports) → drawn_outline_from l d c ks ≡ moved (box_place l p o d c) (outline_from l p o c ks)
  outline_moved [] known = ap (λ b. rect_at b (child_at l c).size) placed.box ∙ at_corner (box_place l p o d c) (child_at l c).size
  outline_moved (k ∷ ks) known =
      let rest = outline_moved ks (λ j h. known j (inr h)) in
      let port : rect_at (moved_by (drawn_box l d c) (drawn_port d c k)) (port_at (child_at l c) k).size ≡ moved (box_place l p o d c) (rect_at (port_place l p o c k) (port_at (child_at l c) k).size) =
      ap (λ q. rect_at (moved_by (drawn_box l d c) q) (port_at (child_at l c) k).size) (placed.ports k (known k (inl refl)))
      ∙ ap (λ b. rect_at (moved_by (rect_at b (child_at l c).size) (port_place l p o c k)) (port_at (child_at l c) k).size) placed.box
      in
      ap (λ r. hull r (rect_at (moved_by (drawn_box l d c) (drawn_port d c k)) (port_at (child_at l c) k).size)) rest
      ∙ ap (hull (moved (box_place l p o d c) (outline_from l p o c ks))) port
      ∙ hull_moved (box_place l p o d c) (outline_from l p o c ks) (rect_at (port_place l p o c k) (port_at (child_at l c) k).size)

pub outlines_are_drawn : OutlinesAreDrawn
outlines_are_drawn l p o d c placed = outline_moved l p o d c placed (range_with_len 0 (length (child_at l c).ports)) (λ k has. below_has (length (child_at l c).ports) k has)

module _ (l : PlainLevel) (p : PlainPlan) (o : Orders) (layers : List ℕ) (ready : IsReady l p o layers) where
  -- the children's units of a row
  abbrev bodies : ℕ → List ℕ
  bodies r = filter (is_child p.layered) (row_at p.rows r)

  abbrev body : ℕ → ℤ
  body u = top_of p.tops u +ℤ (unit_at p.layered.units u).body_top

  abbrev depth : ℕ → ℤ
  depth u = (unit_at p.layered.units u).body_height +ℤ (p.layered.node_node -ℤ pos 1)

  body_in : (r u : ℕ) → r < length p.rows → Has (bodies r) u → (u < length p.layered.units) × (is_child p.layered u ≡ true)
  body_in r u there h =
      let q = filter_has (is_child p.layered) (row_at p.rows r) u h in
      let at = at_has (row_at p.rows r) 0 u q.0 in
      (subst (λ v. v < length p.layered.units) at.2 (ready.rows.in_range r there at.0 at.1), q.1)

  body_next : (t bt bh n bt' t' : ℤ) → (t +ℤ ((bt +ℤ bh +ℤ n) -ℤ bt')) ≤ℤ t' → ((t +ℤ bt) +ℤ (bh +ℤ (n -ℤ pos 1))) <ℤ (t' +ℤ bt')
  body_next t bt bh n bt' t' h = omega (arith, ints, h)

  depth_from_zero : (r u : ℕ) → r < length p.rows → Has (bodies r) u → pos 0 ≤ℤ depth u
  depth_from_zero r u there h =
      let q = body_in r u there h in
      some _ _ ((ready.sound.bodies u q.0 q.1).height) ready.sound.node_node_is.low
    where
      some : (b n : ℤ) → pos 0 ≤ℤ b → pos 1 ≤ℤ n → pos 0 ≤ℤ (b +ℤ (n -ℤ pos 1))
      some b n h k = omega (arith, ints, h, k)

  bodies_apart : (r i j : ℕ) → r < length p.rows → i < j → j < length (bodies r) → (body (slice_index (bodies r) i) +ℤ depth (slice_index (bodies r) i)) <ℤ body (slice_index (bodies r) j)
  bodies_apart r i j there less within =
      ends_above (λ k. body (slice_index (bodies r) k)) (λ k. depth (slice_index (bodies r) k)) (length (bodies r))
      (λ k h. body_next (top_of p.tops (slice_index (bodies r) k)) (unit_at p.layered.units (slice_index (bodies r) k)).body_top (unit_at p.layered.units (slice_index (bodies r) k)).body_height p.layered.node_node _ _ (ready.apart.body_room r there k h))
      (λ k h. depth_from_zero r (slice_index (bodies r) k) there (has_at (bodies r) k 0 h))
      (j - (i + 1)) i j (omega (arith, less)) within

  -- the unit of a child stands in its row
  has_body : (c : ℕ) → c < length l.children → Has (bodies (layer_of_child p c)) (unit_of p c)
  has_body c h =
      let u = unit_of p c in
      let at = ready.rows.complete u (child_unit l p o layers ready c h) in
      has_filter (is_child p.layered) (row_at p.rows (layer_of_child p c)) u
      (subst (Has (row_at p.rows (layer_of_child p c))) at.unit_is (has_at (row_at p.rows (layer_of_child p c)) at.place 0 at.within)) (child_is l p o layers ready c h)

  module _ (d : LevelDrawing) (drawn : IsDrawnFrom l p o d) where
    outline_above : (b c : ℕ) → b < length l.children → c < length l.children → (body (unit_of p b) +ℤ depth (unit_of p b)) <ℤ body (unit_of p c) → IsAboveBy l.spacing.node_node (outline_at l p o d b) (outline_at l p o d c)
    outline_above b c hb hc less =
        let rb = ready.units.rooms b hb in
        let rc = ready.units.rooms c hc in
        stands _ _ _ _ _ _ _ _ _ _ _ _ d.top rb.top rb.body rc.top ready.units.node_node less
      where
        stands : (t bt bh n t' bt' B H B' m y y' z : ℤ) → bt ≡ B → bh ≡ H → bt' ≡ B' → n ≡ m → ((t +ℤ bt) +ℤ (bh +ℤ (n -ℤ pos 1))) <ℤ (t' +ℤ bt')
            → (((((t +ℤ (B -ℤ y)) -ℤ z) +ℤ y) +ℤ H) +ℤ m) ≤ℤ (((t' +ℤ (B' -ℤ y')) -ℤ z) +ℤ y')
        stands t bt bh n t' bt' B H B' m y y' z e f g h less = omega (arith, ints, e, f, g, h, less)

    -- of two children of one row the one stands above the other
    same_row : (b c : ℕ) → b < length l.children → c < length l.children → b ≢ c → layer_of_child p b ≡ layer_of_child p c
        → IsAboveBy l.spacing.node_node (outline_at l p o d b) (outline_at l p o d c) ⊎ IsAboveBy l.spacing.node_node (outline_at l p o d c) (outline_at l p o d b)
    same_row b c hb hc differ same =
        let r = layer_of_child p b in
        let there = row_there l p o d layers ready (unit_of p b) (child_unit l p o layers ready b hb) in
        let at_b = at_has (bodies r) 0 (unit_of p b) (has_body b hb) in
        let at_c = at_has (bodies r) 0 (unit_of p c) (subst (λ q. Has (bodies q) (unit_of p c)) (sym same) (has_body c hc)) in
        elim (cases_order at_b.0 at_c.0) [
          | inl one ↦ absurd (differ (one_unit l p o layers ready b c hb hc (sym at_b.2 ∙ ap (λ i. get_or (bodies r) i 0) one ∙ at_c.2)))
          | inr (inl less) ↦ inl (outline_above b c hb hc (ordered r at_b.0 at_c.0 (unit_of p b) (unit_of p c) there less at_c.1 at_b.2 at_c.2))
          | inr (inr less) ↦ inr (outline_above c b hc hb (ordered r at_c.0 at_b.0 (unit_of p c) (unit_of p b) there less at_b.1 at_c.2 at_b.2))
        ]
      where
        ordered : (r i j u v : ℕ) → r < length p.rows → i < j → j < length (bodies r) → get_or (bodies r) i 0 ≡ u → get_or (bodies r) j 0 ≡ v → (body u +ℤ depth u) <ℤ body v
        ordered r i j u v there less within eu ev =
            subst (λ x. (body u +ℤ depth u) <ℤ body x) ev (subst (λ x. (body x +ℤ depth x) <ℤ body (get_or (bodies r) j 0)) eu (bodies_apart r i j there less within))

    earlier : (b c : ℕ) → b < length l.children → c < length l.children → layer_of_child p b < layer_of_child p c → IsLeftBy l.spacing.node_layers (outline_at l p o d b) (outline_at l p o d c)
    earlier b c hb hc less =
        let rb = layer_of_child p b in
        let rc = layer_of_child p c in
        let there : rc < p.layers = column_there l p o layers ready (unit_of p c) (child_unit l p o layers ready c hc) in
        before _ _ _ _ _ _ (child_stands l p o layers ready d drawn b hb).right
        (inner_room_is l p o d ready.level.spacing drawn (rb + 1) (omega arith) (omega (arith, less, there)))
        (rights p.layers d.gaps (column_width l p o) (columns l p o d ready.level.spacing drawn) (rb + 1) rc (omega (arith, less)) (omega (arith, there)))
        (child_stands l p o layers ready d drawn c hc).left
      where
        before : (x y z w v n : ℤ) → x ≤ℤ y → (y +ℤ n) ≤ℤ z → z ≤ℤ w → w ≤ℤ v → (x +ℤ n) ≤ℤ v
        before x y z w v n a b c e = omega (arith, ints, a, b, c, e)

    pub children_apart : (b c : ℕ) → b < length l.children → c < length l.children → b ≢ c → ChildrenApart l d layers b c
    children_apart b c hb hc differ =
        let layer_b = (ready.units.linked.children b hb).layer_is in
        let layer_c = (ready.units.linked.children c hc).layer_is in
        record {
          same_layer = λ same. rw (outlines_are_drawn l p o d b (drawn.children b hb), outlines_are_drawn l p o d c (drawn.children c hc)) (same_row b c hb hc differ (layer_b ∙ same ∙ sym layer_c));
          earlier_layer = λ less. rw (outlines_are_drawn l p o d b (drawn.children b hb), outlines_are_drawn l p o d c (drawn.children c hc)) (earlier b c hb hc (rw (layer_b, layer_c) less));
        }

pub children_keep_apart : ChildrenKeepApart
children_keep_apart l p o d layers ready drawn b c hb hc differ = children_apart l p o layers ready d drawn b c hb hc differ
