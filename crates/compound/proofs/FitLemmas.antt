-- The outlines of boxes lie within the padding of their node, which is as large as they and its pinned ports need.
use Rattle.std.proofs.Common.{◌≡◌, ⊎_elim, inl, inr, ℕ, ◌<◌, ◌≤◌, List, length, ℤ, pos, ◌+ℤ◌, ◌-ℤ◌, ◌≤ℤ◌, refl, sym, ap, subst, arith}
use Rattle.std.proofs.lemmas.Bool.{cases_lt}
use Rattle.std.proofs.lemmas.Int.{ints}
use Rattle.drawing_types.specs.declared.shape.Point.{Point}
use Rattle.drawing_types.specs.declared.shape.Rect.{Rect}
use Rattle.drawing_types.specs.declared.shape.Size.{Size}
use Rattle.drawing_types.specs.declared.shape.Side.TheVariants.{North, East, South, West}
use Rattle.elk_doc.specs.declared.document.LevelOptions.{LevelOptions}
use Rattle.elk_doc.specs.declared.drawing.Placed.{Placed}
use Rattle.elk_doc.specs.Document.{Document, port_at}
use Rattle.drawing_types.specs.Shapes.{origin}
use Rattle.elk_doc.specs.Content.{SomeShape}
use Rattle.elk_doc.specs.Drawing.{box_of, port_place}
use Rattle.elk_doc.specs.Fits.{IsSolid}
use Rattle.elk_doc.specs.Fitted.{HasNoChild, IsGreatestOf, IsLeastOf, IsPinnedOn, NeedsHeight, NeedsWidth}
use Rattle.elk_doc.specs.Inside.{Inside, IsWithinPadding}
use Rattle.elk_doc.specs.Level.{IsChild, IsEdge, children, place_of_child}
use Rattle.elk_doc.specs.Places.{outline_of}
use Rattle.drawing_types.specs.Shapes.{bottom_of, right_of}
use Rattle.elk_doc.specs.Sound.{IsSoundSpacing}
use Rattle.box_pack.specs.Boxes as rows
use Rattle.box_pack.specs.Boxes.{point_at}
use Rattle.box_pack.specs.Spaced.{box_at}
use Rattle.rotated_levels.specs.Framed.{AsksHeight, AsksWidth, IsFittedBox}
use Rattle.working_frame.specs.Rotated.{child_number}
use Rattle.working_frame.proofs.NumberedLemmas.{numbers_match}
use Rattle.compound.specs.Boxed.{IsBoxedPlan, outline_sizes}
use Rattle.compound.proofs.RowLemmas.{outline_at_place, outline_is, size_count, spaced}

-- ---- one dimension

low_in : (x m u : ℤ) → x ≡ m +ℤ u → pos 0 ≤ℤ u → m ≤ℤ x
low_in x m u e h = omega (arith, ints, e, h)

high_in : (x w m u k c room full : ℤ) → x ≡ m +ℤ u → w ≡ k → (u +ℤ k) ≤ℤ c → ((m +ℤ c) +ℤ room) ≤ℤ full → (x +ℤ w) ≤ℤ (full -ℤ room)
high_in x w m u k c room full e f h g = omega (arith, ints, e, f, h, g)

at_low : (x m u : ℤ) → x ≡ m +ℤ u → u ≡ pos 0 → m ≡ x
at_low x m u e h = omega (arith, ints, e, h)

at_high : (x w m u k c room z : ℤ) → x ≡ m +ℤ u → w ≡ k → u +ℤ k ≡ c → z ≡ (m +ℤ c) +ℤ room → z ≡ (x +ℤ w) +ℤ room
at_high x w m u k c room z e f h g = omega (arith, ints, e, f, h, g)

up_to : (y x room full : ℤ) → y ≡ x +ℤ room → x ≤ℤ (full -ℤ room) → y ≤ℤ full
up_to y x room full e h = omega (arith, ints, e, h)

without : (m c room full y : ℤ) → c ≡ pos 0 → ((m +ℤ c) +ℤ room) ≤ℤ full → y ≡ m +ℤ room → y ≤ℤ full
without m c room full y none h e = omega (arith, ints, none, h, e)

only_room : (z m c room : ℤ) → c ≡ pos 0 → z ≡ (m +ℤ c) +ℤ room → z ≡ m +ℤ room
only_room z m c room none h = omega (arith, ints, none, h)

module _ (d : Document) (p : Placed) (n : ℕ) (o : LevelOptions) (spacing : IsSoundSpacing o.spacing) (planned : IsBoxedPlan d p n o) (solid : (c : ℕ) → IsChild d n c → IsSolid (box_of p c))
    (no_edge : (e : ℕ) → IsEdge d n e → ⊥)
    (width : IsGreatestOf (AsksWidth d p n o planned.squarest.rows.extent) (box_of p n).width)
    (height : IsGreatestOf (AsksHeight d p n o planned.squarest.rows.extent) (box_of p n).height) where
  abbrev sizes : List Size
  sizes = outline_sizes d p n

  abbrev at : List Point
  at = planned.squarest.rows.at

  abbrev extent : Size
  extent = planned.squarest.rows.extent

  abbrev row_box : ℕ → Rect
  row_box i = box_at sizes at i

  in_rows : (i : ℕ) → i < length (children d n) → i < length sizes
  in_rows i h = subst (λ m. i < m) (sym (size_count d p n o spacing planned solid)) h

  has_extent : rows.HasExtent sizes at extent
  has_extent = planned.rows.rows.extent

  padded : (c : ℕ) → IsChild d n c → IsWithinPadding (box_of p n) o.padding (outline_of d p c)
  padded c h =
      let i = place_of_child d n c in
      let there = in_rows i ((numbers_match d n).children.place_in c h) in
      let is = outline_at_place d p n o spacing planned solid c h in
      let r = outline_of d p c in
      let u = row_box i in
      let stands = spaced d p n o spacing planned solid in
      record {
        left = low_in r.x o.padding.left u.x (ap (λ (q : Rect). q.x) is) (stands.right i there);
        right = high_in r.x r.width o.padding.left u.x u.width extent.width o.padding.right (box_of p n).width (ap (λ (q : Rect). q.x) is) (ap (λ (q : Rect). q.width) is) (has_extent.width.all i there) (width.bound _ (inl refl));
        top = low_in r.y o.padding.top u.y (ap (λ (q : Rect). q.y) is) (stands.down i there);
        bottom = high_in r.y r.height o.padding.top u.y u.height extent.height o.padding.bottom (box_of p n).height (ap (λ (q : Rect). q.y) is) (ap (λ (q : Rect). q.height) is) (has_extent.height.all i there) (height.bound _ (inl refl));
      }

  inside_box : Inside d p n o
  inside_box = record { outlines = λ c h keep. padded c h; points = λ e i h. absurd (no_edge e h) }

  -- what some shape has lies within the padding
  some_padded : (Q : Rect → Type 0) → SomeShape d p n Q → (r : Rect) × IsWithinPadding (box_of p n) o.padding r × Q r
  some_padded Q h =
      ⊎_elim
      (λ (k : (c : ℕ) × IsChild d n c × Q (outline_of d p c)). (outline_of d p k.0, padded k.0 k.1, k.2))
      (λ k. absurd (no_edge k.0 k.2))
      h

  some_outline : (Q : Rect → Type 0) (i : ℕ) → i < length (children d n) → Q (outline_of d p (child_number d n i)) → SomeShape d p n Q
  some_outline Q i h q = inl (child_number d n i, (numbers_match d n).children.meant i h, q)

  some_child : (HasNoChild d n → ⊥) → 0 < length (children d n)
  some_child h =
      ⊎_elim
      (λ (some : 0 < length (children d n)). some)
      (λ (none : length (children d n) ≤ 0). absurd (h (λ c k. let below = (numbers_match d n).children.place_in c k in absurd (omega (arith, below, none)))))
      (cases_lt 0 (length (children d n)))

  none_there : length (children d n) ≤ 0 → HasNoChild d n
  none_there none c k = let below = (numbers_match d n).children.place_in c k in absurd (omega (arith, below, none))

  bare : HasNoChild d n → length (children d n) ≤ 0
  bare none =
      ⊎_elim
      (λ (some : 0 < length (children d n)). absurd (none (child_number d n 0) ((numbers_match d n).children.meant 0 some)))
      (λ (few : length (children d n) ≤ 0). few)
      (cases_lt 0 (length (children d n)))

  no_rows : length (children d n) ≤ 0 → length sizes ≡ 0
  no_rows none = let count = size_count d p n o spacing planned solid in omega (arith, none, count)

  first_corner : 0 < length (children d n) → point_at at 0 ≡ origin
  first_corner some = (spaced d p n o spacing planned solid).first (in_rows 0 some)

  left_least : (HasNoChild d n → ⊥) → IsLeastOf (λ z. SomeShape d p n (λ r. z ≡ r.x)) o.padding.left
  left_least some =
      let first = some_child some in
      record {
        itself = some_outline (λ r. o.padding.left ≡ r.x) 0 first
            (at_low (outline_of d p (child_number d n 0)).x o.padding.left (row_box 0).x (ap (λ (q : Rect). q.x) (outline_is d p n o spacing planned solid 0 first)) (ap (λ (q : Point). q.x) (first_corner first)));
        bound = λ y h. let k = some_padded (λ r. y ≡ r.x) h in subst (λ z. o.padding.left ≤ℤ z) (sym k.2) k.1.left;
      }

  top_least : (HasNoChild d n → ⊥) → IsLeastOf (λ z. SomeShape d p n (λ r. z ≡ r.y)) o.padding.top
  top_least some =
      let first = some_child some in
      record {
        itself = some_outline (λ r. o.padding.top ≡ r.y) 0 first
            (at_low (outline_of d p (child_number d n 0)).y o.padding.top (row_box 0).y (ap (λ (q : Rect). q.y) (outline_is d p n o spacing planned solid 0 first)) (ap (λ (q : Point). q.y) (first_corner first)));
        bound = λ y h. let k = some_padded (λ r. y ≡ r.y) h in subst (λ z. o.padding.top ≤ℤ z) (sym k.2) k.1.top;
      }

  width_asked : (z : ℤ) → z ≡ (o.padding.left +ℤ extent.width) +ℤ o.padding.right → NeedsWidth d p n o z
  width_asked z e =
      ⊎_elim
      (λ (some : 0 < length (children d n)).
      let (i, there, ends) = has_extent.width.some (in_rows 0 some) in
      let h : i < length (children d n) = subst (λ m. i < m) (size_count d p n o spacing planned solid) there in
      let r = outline_of d p (child_number d n i) in
      let is = outline_is d p n o spacing planned solid i h in
      inl (some_outline (λ r. z ≡ right_of r +ℤ o.padding.right) i h
      (at_high r.x r.width o.padding.left (row_box i).x (row_box i).width extent.width o.padding.right z (ap (λ (q : Rect). q.x) is) (ap (λ (q : Rect). q.width) is) ends e)))
      (λ (none : length (children d n) ≤ 0). inr (inl (none_there none, only_room z o.padding.left extent.width o.padding.right (has_extent.width.none (no_rows none)) e)))
      (cases_lt 0 (length (children d n)))

  height_asked : (z : ℤ) → z ≡ (o.padding.top +ℤ extent.height) +ℤ o.padding.bottom → NeedsHeight d p n o z
  height_asked z e =
      ⊎_elim
      (λ (some : 0 < length (children d n)).
      let (i, there, ends) = has_extent.height.some (in_rows 0 some) in
      let h : i < length (children d n) = subst (λ m. i < m) (size_count d p n o spacing planned solid) there in
      let r = outline_of d p (child_number d n i) in
      let is = outline_is d p n o spacing planned solid i h in
      inl (some_outline (λ r. z ≡ bottom_of r +ℤ o.padding.bottom) i h
      (at_high r.y r.height o.padding.top (row_box i).y (row_box i).height extent.height o.padding.bottom z (ap (λ (q : Rect). q.y) is) (ap (λ (q : Rect). q.height) is) ends e)))
      (λ (none : length (children d n) ≤ 0). inr (inl (none_there none, only_room z o.padding.top extent.height o.padding.bottom (has_extent.height.none (no_rows none)) e)))
      (cases_lt 0 (length (children d n)))

  abbrev PinnedAcross : ℤ → Type 0
  PinnedAcross y = (k : ℕ) × IsPinnedOn d p n North South k × (y ≡ (port_place p k).x +ℤ (port_at d k).size.width)

  abbrev PinnedDown : ℤ → Type 0
  PinnedDown y = (k : ℕ) × IsPinnedOn d p n East West k × (y ≡ (port_place p k).y +ℤ (port_at d k).size.height)

  width_greatest : IsGreatestOf (NeedsWidth d p n o) (box_of p n).width
  width_greatest =
      record {
        itself = ⊎_elim (λ e. width_asked (box_of p n).width e) (λ k. inr (inr k)) width.itself;
        bound = λ y h. ⊎_elim
            (λ a. let k = some_padded (λ r. y ≡ right_of r +ℤ o.padding.right) a in up_to y (right_of k.0) o.padding.right (box_of p n).width k.2 k.1.right)
            (λ other. ⊎_elim
            (λ (a : HasNoChild d n × (y ≡ o.padding.left +ℤ o.padding.right)).
            without o.padding.left extent.width o.padding.right (box_of p n).width y (has_extent.width.none (no_rows (bare a.0))) (width.bound _ (inl refl)) a.1)
            (λ (k : PinnedAcross y). width.bound y (inr k))
            other)
            h;
      }

  height_greatest : IsGreatestOf (NeedsHeight d p n o) (box_of p n).height
  height_greatest =
      record {
        itself = ⊎_elim (λ e. height_asked (box_of p n).height e) (λ k. inr (inr k)) height.itself;
        bound = λ y h. ⊎_elim
            (λ a. let k = some_padded (λ r. y ≡ bottom_of r +ℤ o.padding.bottom) a in up_to y (bottom_of k.0) o.padding.bottom (box_of p n).height k.2 k.1.bottom)
            (λ other. ⊎_elim
            (λ (a : HasNoChild d n × (y ≡ o.padding.top +ℤ o.padding.bottom)).
            without o.padding.top extent.height o.padding.bottom (box_of p n).height y (has_extent.height.none (no_rows (bare a.0))) (height.bound _ (inl refl)) a.1)
            (λ (k : PinnedDown y). height.bound y (inr k))
            other)
            h;
      }

  pub fitted_box : IsFittedBox d p n o
  fitted_box = record { inside = inside_box; left = left_least; top = top_least; width = width_greatest; height = height_greatest }
