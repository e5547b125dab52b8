-- A planned node of boxes is no larger than its children together and its cost, and so no planned node is.
use Rattle.std.proofs.Common.{◌≡◌, ⊎_elim, inl, inr, ℕ, zero, suc, ◌+◌, ◌*◌, ◌<◌, ◌≤◌, ◌^◌, List, [], ◌∷◌, map, length, get_or, ℤ, pos, ◌+ℤ◌, ◌-ℤ◌, ◌≤ℤ◌, Some, IsTrue, refl, sym, ap, ap₂, ◌∙◌, subst, arith}
use Rattle.std.specs.List.{range_with_len}
use Rattle.std.proofs.lemmas.Bool.{cases_Bool, cases_lt}
use Rattle.std.proofs.lemmas.Int.{ints}
use Rattle.drawing_types.specs.declared.shape.Point.{Point}
use Rattle.drawing_types.specs.declared.shape.Rect.{Rect}
use Rattle.drawing_types.specs.declared.shape.Size.{Size}
use Rattle.elk_doc.specs.declared.document.Direction.{Direction}
use Rattle.elk_doc.specs.declared.document.Direction.TheVariants.{Right, Left, Down, Up}
use Rattle.elk_doc.specs.declared.document.LevelOptions.{LevelOptions}
use Rattle.elk_doc.specs.declared.drawing.Placed.{Placed}
use Rattle.elk_doc.specs.Document.{Document, node_at}
use Rattle.drawing_types.specs.Shapes.{origin}
use Rattle.elk_doc.specs.Drawing.{box_of}
use Rattle.elk_doc.specs.Fits.{IsSolid, child_count, edge_count}
use Rattle.elk_doc.specs.Level.{IsChild, children, is_child}
use Rattle.elk_doc.specs.Numbers.{total_below}
use Rattle.elk_doc.specs.Places.{outline_of}
use Rattle.elk_doc.specs.Shapes.{rotated}
use Rattle.drawing_types.specs.Shapes.{hull, moved_by, rect_at}
use Rattle.elk_doc.specs.Sound.{IsSound}
use Rattle.elk_doc.proofs.NumberLaws.{length-numbers_below}
use Rattle.drawing_types.proofs.SameShapes.{same_rect}
use Rattle.port_order.specs.declared.children.Child.{Child}
use Rattle.port_order.specs.Child as laid
use Rattle.port_order.specs.Conditions.{IsSmall}
use Rattle.box_pack.specs.Boxes.{IsGreatest}
use Rattle.box_pack.specs.Spaced.{AreSpaced, gapped, height_at, width_at}
use Rattle.level_model.specs.Conditions.{IsLevel}
use Rattle.level_model.specs.FromPlan.{LevelDrawing, point_or}
use Rattle.level_model.specs.Level.{PlainLevel, child_at}
use Rattle.level_model.specs.Apart.{drawn_outline, drawn_outline_from}
use Rattle.plan_laws.proofs.ApartLemmas.{outlines_are_drawn}
use Rattle.level_draw.specs.Drawing.{drawn_in}
use Rattle.rotated_levels.proofs.Sums.{over}
use Rattle.working_frame.specs.Rotated.{box_size, child_number, level_of, rotated_size}
use Rattle.working_frame.proofs.NumberedLemmas.{levels_are_listed, numbers_match}
use Rattle.rotated_levels.specs.Outlines.{shifted}
use Rattle.rotated_levels.proofs.HullLemmas.{hull_moved, place_moved}
use Rattle.rotated_levels.proofs.OutlineLemmas.{drawn_port_box, outlines_rotate_back}
use Rattle.compound.specs.Boxed.{IsBoxedPlan, outline_sizes, size_of}
use Rattle.compound.specs.Planned.{IsPlannedLevel}
use Rattle.compound.proofs.EdgeLemmas.{level_sound}
use Rattle.compound.proofs.PortLemmas as boxed
use Rattle.compound.proofs.RowLemmas.{size_count, sizes_solid, spaced}
use Rattle.compound.proofs.ListLemmas.{over_numbers}
use Rattle.compound.proofs.NodeLemmas.{content_least, content_most, framed_most, framed_solid, level_short, parted_least, parted_most, size_sum, rotated_least, rotated_sum}
use Rattle.compound.proofs.OutlineLemmas.{outline_high, outline_wide}
use Rattle.compound.proofs.SumLemmas.{cost, room}

-- ---- outlines wherever their boxes stand

abbrev between : Point → Point → Point
between a b = record { x = a.x -ℤ b.x; y = a.y -ℤ b.y }

there : (a b : ℤ) → a ≡ (a -ℤ b) +ℤ b
there a b = omega (arith, ints)

outline_elsewhere : (l : PlainLevel) (v w : LevelDrawing) (i : ℕ) → v.ports ≡ w.ports → (ks : List ℕ)
    → drawn_outline_from l v i ks ≡ shifted (between (point_or v.boxes i) (point_or w.boxes i)) (drawn_outline_from l w i ks)
outline_elsewhere l v w i same [] = same_rect _ _ (there _ _) (there _ _) refl refl
outline_elsewhere l v w i same (k ∷ ks) =
    let by = between (point_or v.boxes i) (point_or w.boxes i) in
    let box : rect_at (point_or v.boxes i) (child_at l i).size ≡ shifted by (rect_at (point_or w.boxes i) (child_at l i).size) = same_rect _ _ (there _ _) (there _ _) refl refl in
    ap₂ hull (outline_elsewhere l v w i same ks)
    (ap₂ (λ r ports. rect_at (moved_by r (point_or (get_or ports i []) k)) (laid.port_at (child_at l i) k).size) box same
    ∙ place_moved by (rect_at (point_or w.boxes i) (child_at l i).size) (point_or (get_or w.ports i []) k) (laid.port_at (child_at l i) k).size)
    ∙ sym (hull_moved by (drawn_outline_from l w i ks) (drawn_port_box l w i k))

-- the width and the height of a rectangle together
abbrev rect_sum : Rect → ℤ
rect_sum r = r.width +ℤ r.height

rotated_rect_sum : (way : Direction) (r : Rect) → rect_sum (rotated way r) ≡ rect_sum r
rotated_rect_sum Right r = refl
rotated_rect_sum Left r = refl
rotated_rect_sum Down r = omega (arith, ints)
rotated_rect_sum Up r = omega (arith, ints)

-- ---- sums

gapped_front : (gap : ℤ) (value : ℕ → ℤ) (n : ℕ) → gapped gap value (suc n) ≡ (value 0 +ℤ gap) +ℤ gapped gap (λ i. value (suc i)) n
unfolding gapped
gapped_front gap value zero = omega (arith, ints)
gapped_front gap value (suc n) = let rest = gapped_front gap value n in omega (arith, ints, rest)

gapped_none : (gap : ℤ) (value : ℕ → ℤ) → gapped gap value 0 ≡ pos 0
unfolding gapped
gapped_none gap value = refl

rows_most : (s : ℕ → Size) (t : ℕ → ℤ) (gap : ℤ) (xs : List ℕ) → gap ≤ℤ pos (2 ^ 20)
    → ((i : ℕ) → i < length xs → ((s (get_or xs i 0)).width +ℤ (s (get_or xs i 0)).height) ≤ℤ (t (get_or xs i 0) +ℤ pos (2 ^ 24)))
    → (gapped gap (width_at (map s xs)) (length xs) +ℤ gapped gap (height_at (map s xs)) (length xs)) ≤ℤ (over t xs +ℤ pos (length xs * (2 ^ 24 + 2 ^ 21)))
rows_most s t gap [] small each =
    let w = gapped_none gap (width_at (map s [])) in
    let h = gapped_none gap (height_at (map s [])) in
    omega (arith, ints, w, h)
rows_most s t gap (x ∷ xs) small each =
    let w = gapped_front gap (width_at (map s (x ∷ xs))) (length xs) in
    let h = gapped_front gap (height_at (map s (x ∷ xs))) (length xs) in
    let rest = rows_most s t gap xs small (λ i less. each (suc i) (omega (arith, less))) in
    let here = each 0 (omega arith) in
    joined _ _ _ _ _ _ gap _ _ (length xs) w h here rest small
  where
    joined : (gw gh a b rw rh gap t u : ℤ) (n : ℕ) → gw ≡ (a +ℤ gap) +ℤ rw → gh ≡ (b +ℤ gap) +ℤ rh → (a +ℤ b) ≤ℤ (t +ℤ pos (2 ^ 24)) → (rw +ℤ rh) ≤ℤ (u +ℤ pos (n * (2 ^ 24 + 2 ^ 21))) → gap ≤ℤ pos (2 ^ 20)
        → (gw +ℤ gh) ≤ℤ ((t +ℤ u) +ℤ pos (suc n * (2 ^ 24 + 2 ^ 21)))
    joined gw gh a b rw rh gap t u n p q h k small = omega (arith, ints, p, q, h, k, small)

greatest_least : (n : ℕ) (value : ℕ → ℤ) (z : ℤ) → IsGreatest n value z → ((i : ℕ) → i < n → pos 0 ≤ℤ value i) → pos 0 ≤ℤ z
greatest_least n value z greatest least =
    ⊎_elim
    (λ (some : 0 < n). let (i, within, is) = greatest.some some in let low = least i within in omega (arith, ints, low, is))
    (λ (none : n ≤ 0). let is = greatest.none (omega (arith, none)) in omega (arith, ints, is))
    (cases_lt 0 n)

-- sides that are not negative in the frame are not in the document
least_back : (way : Direction) (s : Size) → pos 0 ≤ℤ (rotated_size way s).width → pos 0 ≤ℤ (rotated_size way s).height → (pos 0 ≤ℤ s.width) × (pos 0 ≤ℤ s.height)
least_back Right s w h = (w, h)
least_back Left s w h = (w, h)
least_back Down s w h = (h, w)
least_back Up s w h = (h, w)

-- ---- levels of boxes

module _ (d : Document) (p : Placed) (n : ℕ) (o : LevelOptions) (s : IsSound d) (within : n < length d.nodes) (is : (node_at d n).level ≡ Some o) (boxes : IsTrue o.boxes) (planned : IsBoxedPlan d p n o) where
  abbrev l : PlainLevel
  l = level_of d p n o

  level : IsLevel l
  level = subst IsLevel (boxed.level_is d p n o s within is boxes planned) planned.laid_out.ready.level

  in_level : (i : ℕ) → i < length (children d n) → i < length l.children
  in_level i h = subst (λ m. i < m) (sym (levels_are_listed d p n o).child_count) h

  child_is : (i : ℕ) → i < length (children d n) → (child_at l i).size ≡ rotated_size o.direction (box_size p (child_number d n i))
  child_is i h = ap (λ (c : Child). c.size) ((levels_are_listed d p n o).child i h)

  number_solid : (i : ℕ) → i < length (children d n) → IsSolid (box_of p (child_number d n i))
  number_solid i h =
      let small : IsSmall (rotated_size o.direction (box_size p (child_number d n i))) = subst IsSmall (child_is i h) (level.children i (in_level i h)).sound.size in
      let sides = least_back o.direction (box_size p (child_number d n i)) small.width.above small.height.above in
      record { width = sides.0; height = sides.1 }

  children_solid : (c : ℕ) → IsChild d n c → IsSolid (box_of p c)
  children_solid c h =
      let m = (numbers_match d n).children in
      subst (λ k. IsSolid (box_of p k)) (m.found c h) (number_solid _ (m.place_in c h))

  -- ---- outlines

  abbrev made : LevelDrawing
  made = drawn_in planned.out planned.laid_out.drawn.left planned.laid_out.drawn.top

  abbrev here : LevelDrawing
  here = boxed.drawing d p n o s within is boxes planned

  made_sum : (i : ℕ) → i < length (children d n) → rect_sum (drawn_outline l made i) ≤ℤ (((child_at l i).size.width +ℤ (child_at l i).size.height) +ℤ pos (2 ^ 24))
  made_sum i h =
      let inside = in_level i h in
      let ready = boxed.ready d p n o s within is boxes planned in
      let drawn = boxed.drawn d p n o s within is boxes planned in
      let plan = boxed.plan d p n o s within is boxes planned in
      let orders = planned.laid_out.orders in
      let short = level_short d p n o s i inside in
      let w = outline_wide l plan orders level ready.units.orders i inside short in
      let t = outline_high l plan orders level ready.units.orders i inside short in
      subst (λ (r : Rect). rect_sum r ≤ℤ (((child_at l i).size.width +ℤ (child_at l i).size.height) +ℤ pos (2 ^ 24))) (sym (outlines_are_drawn l plan orders made i (drawn.children i inside)))
      (both _ _ (child_at l i).size.width (child_at l i).size.height w t)
    where
      both : (a b x y : ℤ) → a ≤ℤ (x +ℤ pos (2 ^ 23)) → b ≤ℤ (y +ℤ pos (2 ^ 23)) → (a +ℤ b) ≤ℤ ((x +ℤ y) +ℤ pos (2 ^ 24))
      both a b x y h k = omega (arith, ints, h, k)

  here_sum : (i : ℕ) → i < length (children d n) → rect_sum (outline_of d p (child_number d n i)) ≡ rect_sum (drawn_outline l made i)
  here_sum i h =
      sym (rotated_rect_sum o.direction (outline_of d p (child_number d n i)))
      ∙ ap rect_sum (outlines_rotate_back d p n o here origin (boxed.rotated_back d p n o s within is boxes planned) i h)
      ∙ ap rect_sum (outline_elsewhere l here made i refl (range_with_len 0 (length (child_at l i).ports)))

  outline_most : (i : ℕ) → i < length (children d n) → rect_sum (outline_of d p (child_number d n i)) ≤ℤ (size_sum p (child_number d n i) +ℤ pos (2 ^ 24))
  outline_most i h =
      let same = here_sum i h in
      let most = made_sum i h in
      let size = ap (λ (z : Size). z.width +ℤ z.height) (child_is i h) ∙ rotated_sum o.direction (box_size p (child_number d n i)) in
      joined _ _ ((child_at l i).size.width +ℤ (child_at l i).size.height) (size_sum p (child_number d n i)) same most size
    where
      joined : (a b c e : ℤ) → a ≡ b → b ≤ℤ (c +ℤ pos (2 ^ 24)) → c ≡ e → a ≤ℤ (e +ℤ pos (2 ^ 24))
      joined a b c e p q r = omega (arith, ints, p, q, r)

  -- ---- the extent

  abbrev extent : Size
  extent = planned.squarest.rows.extent

  rows_spaced : AreSpaced (outline_sizes d p n) o.spacing.node_node planned.squarest.rows
  rows_spaced = spaced d p n o (level_sound d n o s within is).spacing planned children_solid

  extent_least : (pos 0 ≤ℤ extent.width) × (pos 0 ≤ℤ extent.height)
  extent_least =
      let has = planned.rows.rows.extent in
      let sizes = sizes_solid d p n o (level_sound d n o s within is).spacing planned children_solid in (
        greatest_least _ _ _ has.width (λ i h. let x = rows_spaced.right i h in let w = sizes.width i h in omega (arith, ints, x, w)),
        greatest_least _ _ _ has.height (λ i h. let y = rows_spaced.down i h in let t = sizes.height i h in omega (arith, ints, y, t)),
      )

  extent_most : (extent.width +ℤ extent.height) ≤ℤ (total_below (is_child d n) (size_sum p) (length d.nodes) +ℤ pos (room (child_count d n) (edge_count d n)))
  extent_most =
      let count = size_count d p n o (level_sound d n o s within is).spacing planned children_solid in
      let w = subst (λ m. extent.width ≤ℤ gapped o.spacing.node_node (width_at (outline_sizes d p n)) m) count rows_spaced.width in
      let h = subst (λ m. extent.height ≤ℤ gapped o.spacing.node_node (height_at (outline_sizes d p n)) m) count rows_spaced.height in
      let most = rows_most (λ c. size_of (outline_of d p c)) (size_sum p) o.spacing.node_node (children d n) (level_sound d n o s within is).spacing.node_node.below outline_most in
      let all = over_numbers (is_child d n) (size_sum p) (length d.nodes) in
      let many = length-numbers_below (is_child d n) (length d.nodes) in
      joined _ _ _ _ (over (size_sum p) (children d n)) (total_below (is_child d n) (size_sum p) (length d.nodes)) (length (children d n)) (child_count d n) (edge_count d n) (child_count d n * edge_count d n) w h most all many
    where
      joined : (a b x y u t : ℤ) (k c e z : ℕ) → a ≤ℤ x → b ≤ℤ y → (x +ℤ y) ≤ℤ (u +ℤ pos (k * (2 ^ 24 + 2 ^ 21))) → u ≡ t → k ≡ c → (a +ℤ b) ≤ℤ (t +ℤ pos (c * 2 ^ 25 + 2 ^ 23 * (c + e + z + 1)))
      joined a b x y u t k c e z p q h m n = omega (arith, ints, p, q, h, m, n)

  rotated_extent_most : ((rotated_size o.direction extent).width +ℤ (rotated_size o.direction extent).height) ≤ℤ (total_below (is_child d n) (size_sum p) (length d.nodes) +ℤ pos (room (child_count d n) (edge_count d n)))
  rotated_extent_most = subst (λ z. z ≤ℤ (total_below (is_child d n) (size_sum p) (length d.nodes) +ℤ pos (room (child_count d n) (edge_count d n)))) (sym (rotated_sum o.direction extent)) extent_most

  rotated_extent_least : (pos 0 ≤ℤ (rotated_size o.direction extent).width) × (pos 0 ≤ℤ (rotated_size o.direction extent).height)
  rotated_extent_least = rotated_least o.direction extent extent_least.0 extent_least.1

  boxes_solid : IsSolid (box_of p n)
  boxes_solid = framed_solid d p n o s within is (rotated_size o.direction extent) rotated_extent_least.0 rotated_extent_least.1 planned.size

  boxes_most : size_sum p n ≤ℤ (total_below (is_child d n) (size_sum p) (length d.nodes) +ℤ pos (cost d n))
  boxes_most = framed_most d p n o s within is (rotated_size o.direction extent) rotated_extent_least.0 rotated_extent_least.1 planned.size rotated_extent_most

-- ---- all levels

module _ (d : Document) (p : Placed) (n : ℕ) (o : LevelOptions) (s : IsSound d) (within : n < length d.nodes) (is : (node_at d n).level ≡ Some o) (planned : IsPlannedLevel d p n o) where
  pub level_solid : IsSolid (box_of p n)
  level_solid =
      elim (cases_Bool o.boxes) [
        | inl boxes ↦ boxes_solid d p n o s within is boxes (planned.boxed boxes)
        | inr layered ↦
            elim (cases_Bool o.split) [
              | inl split ↦
                  (let plan = planned.parted split in
                  let least = parted_least d p n o s within is plan in
                  framed_solid d p n o s within is plan.out.extent least.0 least.1 plan.size)
              | inr whole ↦
                  (let plan = planned.layered layered whole in
                  let least = content_least d p n o s plan in
                  framed_solid d p n o s within is plan.out.extent least.0 least.1 plan.size)
            ]
      ]

  pub level_most : size_sum p n ≤ℤ (total_below (is_child d n) (size_sum p) (length d.nodes) +ℤ pos (cost d n))
  level_most =
      elim (cases_Bool o.boxes) [
        | inl boxes ↦ boxes_most d p n o s within is boxes (planned.boxed boxes)
        | inr layered ↦
            elim (cases_Bool o.split) [
              | inl split ↦
                  (let plan = planned.parted split in
                  let least = parted_least d p n o s within is plan in
                  framed_most d p n o s within is plan.out.extent least.0 least.1 plan.size (parted_most d p n o s within is plan))
              | inr whole ↦
                  (let plan = planned.layered layered whole in
                  let least = content_least d p n o s plan in
                  framed_most d p n o s within is plan.out.extent least.0 least.1 plan.size (content_most d p n o s plan))
            ]
      ]
