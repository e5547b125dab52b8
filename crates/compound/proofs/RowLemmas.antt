-- Outlines of boxes stand in rows within the padding of their node.
use Rattle.std.proofs.Common.{◌≡◌, ◌≢◌, ⊎_elim, inl, inr, ℕ, ◌<◌, ◌≤◌, List, length, get_or, ℤ, pos, ◌+ℤ◌, ◌≤ℤ◌, sym, ap, ◌∙◌, subst, subst₂, arith}
use Rattle.std.proofs.lemmas.Bool.{cases_lt}
use Rattle.std.proofs.lemmas.Int.{ints}
use Rattle.std.proofs.lemmas.List.{get_or-map, length-map}
use Rattle.drawing_types.specs.declared.shape.Point.{Point}
use Rattle.drawing_types.specs.declared.shape.Rect.{Rect}
use Rattle.drawing_types.specs.declared.shape.Size.{Size}
use Rattle.elk_doc.specs.declared.document.LevelOptions.{LevelOptions}
use Rattle.elk_doc.specs.declared.drawing.Placed.{Placed}
use Rattle.elk_doc.specs.Document.{Document}
use Rattle.drawing_types.specs.Shapes.{no_size}
use Rattle.elk_doc.specs.Apart.{BoxesApart}
use Rattle.drawing_types.specs.Clearance.{StandsClear}
use Rattle.elk_doc.specs.Drawing.{box_of}
use Rattle.elk_doc.specs.Fits.{IsSolid}
use Rattle.elk_doc.specs.Level.{IsChild, children, place_of_child}
use Rattle.elk_doc.specs.Places.{outline_of}
use Rattle.elk_doc.specs.Sound.{IsSoundSpacing}
use Rattle.elk_doc.proofs.PlaceLaws.{outline_to-least}
use Rattle.drawing_types.proofs.SameShapes.{same_rect}
use Rattle.box_pack.specs.Boxes.{size_at}
use Rattle.box_pack.specs.Spaced.{AreSolid, AreSpaced, box_at}
use Rattle.box_pack.proofs.SpacedLemmas.{rows_are_spaced}
use Rattle.rotated_levels.specs.Outlines.{shifted}
use Rattle.working_frame.specs.Rotated.{child_number}
use Rattle.working_frame.proofs.NumberedLemmas.{numbers_match}
use Rattle.compound.specs.Boxed.{IsBoxedPlan, inner_corner, outline_sizes, size_of}

left_moved : (by : Point) (gap : ℤ) (r s : Rect) → StandsClear gap r s → StandsClear gap (shifted by r) (shifted by s)
left_moved by gap r s clear = ⊎_elim (λ left. inl (omega (arith, ints, left))) (λ above. inr (omega (arith, ints, above))) clear

holds_solid : (a w b v : ℤ) → a ≤ℤ b → (b +ℤ v) ≤ℤ (a +ℤ w) → pos 0 ≤ℤ v → pos 0 ≤ℤ w
holds_solid a w b v low high least = omega (arith, ints, low, high, least)

outline_solid : (d : Document) (p : Placed) (c : ℕ) → IsSolid (box_of p c) → IsSolid (outline_of d p c)
outline_solid d p c solid =
    let holds = (outline_to-least d p c (length d.ports)).box in
    record {
      width = holds_solid (outline_of d p c).x (outline_of d p c).width (box_of p c).x (box_of p c).width holds.left holds.right solid.width;
      height = holds_solid (outline_of d p c).y (outline_of d p c).height (box_of p c).y (box_of p c).height holds.top holds.bottom solid.height;
    }

module _ (d : Document) (p : Placed) (n : ℕ) (o : LevelOptions) (spacing : IsSoundSpacing o.spacing) (planned : IsBoxedPlan d p n o) (solid : (c : ℕ) → IsChild d n c → IsSolid (box_of p c)) where
  abbrev sizes : List Size
  sizes = outline_sizes d p n

  pub size_count : length sizes ≡ length (children d n)
  size_count = length-map (children d n) (λ c. size_of (outline_of d p c))

  pub size_is : (i : ℕ) → i < length (children d n) → size_at sizes i ≡ size_of (outline_of d p (child_number d n i))
  size_is i h = get_or-map (λ c. size_of (outline_of d p c)) (children d n) i 0 no_size h

  child : (i : ℕ) → i < length (children d n) → IsChild d n (child_number d n i)
  child i h = (numbers_match d n).children.meant i h

  pub sizes_solid : AreSolid sizes
  sizes_solid =
      record {
        width = λ i h. let in_level : i < length (children d n) = subst (λ m. i < m) size_count h in
            subst (λ (s : Size). pos 0 ≤ℤ s.width) (sym (size_is i in_level)) (outline_solid d p (child_number d n i) (solid (child_number d n i) (child i in_level))).width;
        height = λ i h. let in_level : i < length (children d n) = subst (λ m. i < m) size_count h in
            subst (λ (s : Size). pos 0 ≤ℤ s.height) (sym (size_is i in_level)) (outline_solid d p (child_number d n i) (solid (child_number d n i) (child i in_level))).height;
      }

  pub spaced : AreSpaced sizes o.spacing.node_node planned.squarest.rows
  spaced =
      let room = spacing.node_node.above in
      rows_are_spaced sizes o.spacing.node_node planned.squarest.limit planned.squarest.rows sizes_solid (omega (arith, ints, room)) planned.rows.rows

  -- the outline of a child is its box in the rows, moved to the padding
  pub outline_is : (i : ℕ) → i < length (children d n) → outline_of d p (child_number d n i) ≡ shifted (inner_corner o.padding) (box_at sizes planned.squarest.rows.at i)
  outline_is i h =
      let size = size_is i h in
      let place = planned.outlines i h in
      same_rect _ _ (ap (λ (q : Point). q.x) place) (ap (λ (q : Point). q.y) place) (ap (λ (s : Size). s.width) (sym size)) (ap (λ (s : Size). s.height) (sym size))

  pub outline_at_place : (c : ℕ) → IsChild d n c → outline_of d p c ≡ shifted (inner_corner o.padding) (box_at sizes planned.squarest.rows.at (place_of_child d n c))
  outline_at_place c h =
      let m = (numbers_match d n).children in
      ap (outline_of d p) (sym (m.found c h)) ∙ outline_is (place_of_child d n c) (m.place_in c h)

  clear : (i j : ℕ) → i < j → j < length (children d n)
      → StandsClear o.spacing.node_node (shifted (inner_corner o.padding) (box_at sizes planned.squarest.rows.at i)) (shifted (inner_corner o.padding) (box_at sizes planned.squarest.rows.at j))
  clear i j less there = left_moved (inner_corner o.padding) o.spacing.node_node (box_at sizes planned.squarest.rows.at i) (box_at sizes planned.squarest.rows.at j) (spaced.apart j i less (subst (λ m. j < m) (sym size_count) there))

  -- any two boxes are apart
  pub boxes_apart : (a b : ℕ) → IsChild d n a → IsChild d n b → a ≢ b → BoxesApart d p o a b
  boxes_apart a b ha hb differ =
      let m = (numbers_match d n).children in
      let i = place_of_child d n a in
      let j = place_of_child d n b in
      let other : i ≢ j = λ same. differ (sym (m.found a ha) ∙ ap (λ k. get_or (children d n) k 0) same ∙ m.found b hb) in
      let ra = outline_at_place a ha in
      let rb = outline_at_place b hb in
      let gap = o.spacing.node_node in
      ⊎_elim
      (λ (less : i < j). inl (subst₂ (λ r s. StandsClear gap r s) (sym ra) (sym rb) (clear i j less (m.place_in b hb))))
      (λ (more : j ≤ i). inr (subst₂ (λ r s. StandsClear gap r s) (sym rb) (sym ra) (clear j i (omega (arith, more, other)) (m.place_in a ha))))
      (cases_lt i j)
