-- Whole definitions in the frame of a direction.
use Rattle.std.proofs.Common.{◌≡◌, ◌⊎◌, ⊎_elim, ◌↔◌, ◌∙◌, sym, subst, ℕ, ℤ, neg_ℤ, inl, inr, refl, ap, ap₂, arith}
use Rattle.std.proofs.lemmas.Int.{ints, clamps}
use Rattle.drawing_types.specs.declared.shape.Point.{Point}
use Rattle.drawing_types.specs.declared.shape.Rect.{Rect}
use Rattle.drawing_types.specs.declared.shape.Side.{Side}
use Rattle.drawing_types.specs.declared.shape.Side.TheVariants.{North, East, South, West}
use Rattle.drawing_types.specs.declared.shape.Dock.{Dock}
use Rattle.elk_doc.specs.declared.document.Direction.{Direction}
use Rattle.elk_doc.specs.declared.document.Direction.TheVariants.{Right, Left, Down, Up}
use Rattle.elk_doc.specs.declared.document.Padding.{Padding}
use Rattle.elk_doc.specs.declared.document.LevelOptions.{LevelOptions}
use Rattle.elk_doc.specs.declared.drawing.Placed.{Placed}
use Rattle.elk_doc.specs.Document.{Document}
use Rattle.elk_doc.specs.Drawing.{box_of}
use Rattle.elk_doc.specs.Shapes.{rotated}
use Rattle.drawing_types.specs.Segments.{IsBetween, IsOnSegment, Share}
use Rattle.elk_doc.specs.Places.{outline_of, offset_on}
use Rattle.drawing_types.specs.Clearance.{StandsClear}
use Rattle.elk_doc.specs.Inside.{Inside, IsWithinPadding}
use Rattle.drawing_types.proofs.SameShapes.{same_rect}
use Rattle.elk_doc.proofs.PathLemmas.{orthogonal_there, orthogonal_back, clear_there, clear_back, share_there, share_back}
use Rattle.drawing_laws.specs.Rotating.{rotated_point, rotated_side}
use Rattle.drawing_laws.specs.Frames.{RotatesBack, DocksRotate, PathsRotate, DistancesRotate, InsideIn, point_back, rect_back, side_back, rotated_offset, rotated_dock, rotated_padding, rotated_within}
use Rattle.drawing_laws.proofs.RotatingLaws.{sides, routes, boxes}

-- ---- the way back

same_point : (p q : Point) → p.x ≡ q.x → p.y ≡ q.y → p ≡ q
same_point p q x y = ap₂ (λ (a b : ℤ). let r : Point = record { x = a; y = b } in r) x y

point_there_and_back : (way : Direction) (p : Point) → point_back way (rotated_point way p) ≡ p
point_there_and_back Right p = refl
point_there_and_back Left p = same_point _ _ (omega (arith, ints)) refl
point_there_and_back Down p = refl
point_there_and_back Up p = same_point _ _ refl (omega (arith, ints))

point_back_and_there : (way : Direction) (p : Point) → rotated_point way (point_back way p) ≡ p
point_back_and_there Right p = refl
point_back_and_there Left p = same_point _ _ (omega (arith, ints)) refl
point_back_and_there Down p = refl
point_back_and_there Up p = same_point _ _ (omega (arith, ints)) refl

rect_there_and_back : (way : Direction) (r : Rect) → rect_back way (rotated way r) ≡ r
rect_there_and_back Right r = refl
rect_there_and_back Left r = same_rect _ _ (omega (arith, ints)) refl refl refl
rect_there_and_back Down r = refl
rect_there_and_back Up r = same_rect _ _ refl (omega (arith, ints)) refl refl

rect_back_and_there : (way : Direction) (r : Rect) → rotated way (rect_back way r) ≡ r
rect_back_and_there Right r = refl
rect_back_and_there Left r = same_rect _ _ (omega (arith, ints)) refl refl refl
rect_back_and_there Down r = refl
rect_back_and_there Up r = same_rect _ _ (omega (arith, ints)) refl refl refl

side_there_and_back : (way : Direction) (s : Side) → (side_back way (rotated_side way s) ≡ s) × (rotated_side way (side_back way s) ≡ s)
side_there_and_back Right s = (refl, refl)
side_there_and_back Left North = (refl, refl)
side_there_and_back Left East = (refl, refl)
side_there_and_back Left South = (refl, refl)
side_there_and_back Left West = (refl, refl)
side_there_and_back Down North = (refl, refl)
side_there_and_back Down East = (refl, refl)
side_there_and_back Down South = (refl, refl)
side_there_and_back Down West = (refl, refl)
side_there_and_back Up North = (refl, refl)
side_there_and_back Up East = (refl, refl)
side_there_and_back Up South = (refl, refl)
side_there_and_back Up West = (refl, refl)

pub backs : RotatesBack
backs =
    record {
      point = λ way p. (point_there_and_back way p, point_back_and_there way p);
      rect = λ way r. (rect_there_and_back way r, rect_back_and_there way r);
      side = side_there_and_back;
    }

-- ---- docks

offset_rotates : (way : Direction) (s : Side) (r : Rect) (a : Point) → offset_on (rotated_side way s) (rotated way r) (rotated_point way a) ≡ rotated_offset way s r (offset_on s r a)
offset_rotates Right North r a = refl
offset_rotates Right East r a = refl
offset_rotates Right South r a = refl
offset_rotates Right West r a = refl
offset_rotates Left North r a = omega (arith, ints)
offset_rotates Left East r a = refl
offset_rotates Left South r a = omega (arith, ints)
offset_rotates Left West r a = refl
offset_rotates Down North r a = refl
offset_rotates Down East r a = refl
offset_rotates Down South r a = refl
offset_rotates Down West r a = refl
offset_rotates Up North r a = refl
offset_rotates Up East r a = omega (arith, ints)
offset_rotates Up South r a = refl
offset_rotates Up West r a = omega (arith, ints)

offset_injective : (way : Direction) (s : Side) (r : Rect) (y z : ℤ) → rotated_offset way s r y ≡ rotated_offset way s r z → y ≡ z
offset_injective Right North r y z e = e
offset_injective Right East r y z e = e
offset_injective Right South r y z e = e
offset_injective Right West r y z e = e
offset_injective Left North r y z e = omega (arith, ints, e)
offset_injective Left East r y z e = e
offset_injective Left South r y z e = omega (arith, ints, e)
offset_injective Left West r y z e = e
offset_injective Down North r y z e = e
offset_injective Down East r y z e = e
offset_injective Down South r y z e = e
offset_injective Down West r y z e = e
offset_injective Up North r y z e = e
offset_injective Up East r y z e = omega (arith, ints, e)
offset_injective Up South r y z e = e
offset_injective Up West r y z e = omega (arith, ints, e)

side_injective : (way : Direction) (s t : Side) → rotated_side way s ≡ rotated_side way t → s ≡ t
side_injective way s t e = sym (side_there_and_back way s).0 ∙ ap (side_back way) e ∙ (side_there_and_back way t).0

same_dock : (k l : Dock) → k.node ≡ l.node → k.side ≡ l.side → k.offset ≡ l.offset → k ≡ l
same_dock k l n s z =
    ap (λ (m : ℕ). let r : Dock = record { node = m; side = k.side; offset = k.offset } in r) n ∙ ap₂ (λ (t : Side) (y : ℤ). let r : Dock = record { node = l.node; side = t; offset = y } in r) s z

dock_back : (way : Direction) (box : ℕ → Rect) (k l : Dock) → rotated_dock way (box k.node) k ≡ rotated_dock way (box l.node) l → k ≡ l
dock_back way box k l e =
    let node : k.node ≡ l.node = ap (λ (x : Dock). x.node) e in
    let side : k.side ≡ l.side = side_injective way k.side l.side (ap (λ (x : Dock). x.side) e) in
    let offset : rotated_offset way k.side (box k.node) k.offset ≡ rotated_offset way l.side (box l.node) l.offset = ap (λ (x : Dock). x.offset) e in
    let level : rotated_offset way l.side (box l.node) k.offset ≡ rotated_offset way l.side (box l.node) l.offset =
    subst (λ (s : Side). rotated_offset way s (box l.node) k.offset ≡ rotated_offset way l.side (box l.node) l.offset) side
    (subst (λ (n : ℕ). rotated_offset way k.side (box n) k.offset ≡ rotated_offset way l.side (box l.node) l.offset) node offset) in
    same_dock k l node side (offset_injective way l.side (box l.node) k.offset l.offset level)

pub docks : DocksRotate
docks =
    record {
      offset = offset_rotates;
      dock = λ way box k l. (λ e. ap (λ (x : Dock). rotated_dock way (box x.node) x) e, dock_back way box k l);
    }

-- ---- routes

between_mirrored : (a b z : ℤ) → IsBetween a b z → IsBetween (neg_ℤ a) (neg_ℤ b) (neg_ℤ z)
between_mirrored a b z h = omega (arith, ints, clamps)

between_back : (a b z : ℤ) → IsBetween (neg_ℤ a) (neg_ℤ b) (neg_ℤ z) → IsBetween a b z
between_back a b z h = omega (arith, ints, clamps)

on_segment : (way : Direction) (a b q : Point) → IsOnSegment a b q ↔ IsOnSegment (rotated_point way a) (rotated_point way b) (rotated_point way q)
on_segment Right a b q = (λ h. h, λ h. h)
on_segment Left a b q = (
  λ h. record { across = between_mirrored a.x b.x q.x h.across; along = h.along },
  λ h. record { across = between_back a.x b.x q.x h.across; along = h.along },
)
on_segment Down a b q = (
  λ h. record { across = h.along; along = h.across },
  λ h. record { across = h.along; along = h.across },
)
on_segment Up a b q = (
  λ h. record { across = between_mirrored a.y b.y q.y h.along; along = h.across },
  λ h. record { across = h.along; along = between_back a.y b.y q.y h.across },
)

point_injective : (way : Direction) (p q : Point) → rotated_point way p ≡ rotated_point way q → p ≡ q
point_injective way p q e = sym (point_there_and_back way p) ∙ ap (point_back way) e ∙ point_there_and_back way q

share_rotated : (way : Direction) (a b c e : Point) → Share a b c e → Share (rotated_point way a) (rotated_point way b) (rotated_point way c) (rotated_point way e)
share_rotated way a b c e s =
    record {
      one = rotated_point way s.one;
      other = rotated_point way s.other;
      differ = λ q. s.differ (point_injective way _ _ q);
      one_on_first = (on_segment way a b s.one).0 s.one_on_first;
      one_on_second = (on_segment way c e s.one).0 s.one_on_second;
      other_on_first = (on_segment way a b s.other).0 s.other_on_first;
      other_on_second = (on_segment way c e s.other).0 s.other_on_second;
    }

on_segment_back : (way : Direction) (a b q : Point) → IsOnSegment (rotated_point way a) (rotated_point way b) q → IsOnSegment a b (point_back way q)
on_segment_back way a b q h =
    (on_segment way a b (point_back way q)).1 (subst (IsOnSegment (rotated_point way a) (rotated_point way b)) (sym (point_back_and_there way q)) h)

share_unrotated : (way : Direction) (a b c e : Point) → Share (rotated_point way a) (rotated_point way b) (rotated_point way c) (rotated_point way e) → Share a b c e
share_unrotated way a b c e s =
    record {
      one = point_back way s.one;
      other = point_back way s.other;
      differ = λ q. s.differ (sym (point_back_and_there way s.one) ∙ ap (rotated_point way) q ∙ point_back_and_there way s.other);
      one_on_first = on_segment_back way a b s.one s.one_on_first;
      one_on_second = on_segment_back way c e s.one s.one_on_second;
      other_on_first = on_segment_back way a b s.other s.other_on_first;
      other_on_second = on_segment_back way c e s.other s.other_on_second;
    }

pub paths : PathsRotate
paths =
    record {
      orthogonal = λ way path s t some. (
        orthogonal_there (rotated_point way) path s t (rotated_side way s) (rotated_side way t) (λ a b. (routes.step way a b).0) (λ a b c. (routes.rotate way a b c).0) (λ a b. (sides.outward way s a b).0)
            (λ a b. (sides.outward way t a b).0) some,
        orthogonal_back (rotated_point way) path s t (rotated_side way s) (rotated_side way t) (λ a b. (routes.step way a b).1) (λ a b c. (routes.rotate way a b c).1) (λ a b. (sides.outward way s a b).1)
            (λ a b. (sides.outward way t a b).1) some,
      );
      clear = λ way path s t c outline box. (
        clear_there (rotated_point way) path (rotated way) s t c outline box (λ a b r. (boxes.meets way a b r).1) (λ a b r. (boxes.enters way a b r).1),
        clear_back (rotated_point way) path (rotated way) s t c outline box (λ a b r. (boxes.meets way a b r).0) (λ a b r. (boxes.enters way a b r).0),
      );
      on_segment = on_segment;
      sharing = λ way path other. (share_there (rotated_point way) path other (share_rotated way), share_back (rotated_point way) path other (share_unrotated way));
    }

-- ---- distances

within : (way : Direction) (outer : Rect) (room : Padding) (r : Rect) → IsWithinPadding outer room r ↔ IsWithinPadding (rotated way outer) (rotated_padding way room) (rotated_within way outer r)
within Right outer room r = (λ h. h, λ h. h)
within Left outer room r = (λ h. omega (arith, ints), λ h. omega (arith, ints))
within Down outer room r = (λ h. omega (arith, ints), λ h. omega (arith, ints))
within Up outer room r = (λ h. omega (arith, ints), λ h. omega (arith, ints))

inside : (way : Direction) (d : Document) (p : Placed) (n : ℕ) (o : LevelOptions) → Inside d p n o ↔ InsideIn way d p n o
inside way d p n o = (
  λ h.
      record {
        outlines = λ c k t. (within way (box_of p n) o.padding _).0 (h.outlines c k t);
        points = λ e i k t l. (within way (box_of p n) o.padding _).0 (h.points e i k t l);
      },
  λ h.
      record {
        outlines = λ c k t. (within way (box_of p n) o.padding _).1 (h.outlines c k t);
        points = λ e i k t l. (within way (box_of p n) o.padding _).1 (h.points e i k t l);
      },
)

-- two rectangles stand clear of each other, in either order
abbrev Clears : ℤ → Rect → Rect → Type 0
Clears gap r s = StandsClear gap r s ⊎ StandsClear gap s r

stands : (way : Direction) (gap : ℤ) (r s : Rect) → Clears gap r s ↔ Clears gap (rotated way r) (rotated way s)
stands Right gap r s = (λ h. h, λ h. h)
stands Left gap r s = (
  ⊎_elim (⊎_elim (λ x. inr (inl (omega (arith, ints, x)))) (λ y. inl (inr y))) (⊎_elim (λ x. inl (inl (omega (arith, ints, x)))) (λ y. inr (inr y))),
  ⊎_elim (⊎_elim (λ x. inr (inl (omega (arith, ints, x)))) (λ y. inl (inr y))) (⊎_elim (λ x. inl (inl (omega (arith, ints, x)))) (λ y. inr (inr y))),
)
stands Down gap r s = (
  ⊎_elim (⊎_elim (λ x. inl (inr x)) (λ y. inl (inl y))) (⊎_elim (λ x. inr (inr x)) (λ y. inr (inl y))),
  ⊎_elim (⊎_elim (λ x. inl (inr x)) (λ y. inl (inl y))) (⊎_elim (λ x. inr (inr x)) (λ y. inr (inl y))),
)
stands Up gap r s = (
  ⊎_elim (⊎_elim (λ x. inl (inr x)) (λ y. inr (inl (omega (arith, ints, y))))) (⊎_elim (λ x. inr (inr x)) (λ y. inl (inl (omega (arith, ints, y))))),
  ⊎_elim (⊎_elim (λ x. inr (inr (omega (arith, ints, x)))) (λ y. inl (inl y))) (⊎_elim (λ x. inl (inr (omega (arith, ints, x)))) (λ y. inr (inl y))),
)

pub distances : DistancesRotate
distances = record { inside = inside; boxes = λ way d p o a b. stands way o.spacing.node_node (outline_of d p a) (outline_of d p b) }
