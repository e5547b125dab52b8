-- A drawing that begins at 0 and has a tight extent lies within it.
use Rattle.std.proofs.Common.{◌≡◌, inl, inr, ⊎_elim, ℕ, ◌<◌, List, [], ◌∷◌, length, get_or, ℤ, pos, ◌+ℤ◌, ◌-ℤ◌, ◌≤ℤ◌, refl, sym, ap, ◌∙◌, subst, arith}
use Rattle.std.specs.List.{All, range_with_len}
use Rattle.std.specs.Int.{int_min, int_max}
use Rattle.std.proofs.lemmas.Int.{ints, clamps}
use Rattle.drawing_types.specs.declared.shape.Point.{Point}
use Rattle.drawing_types.specs.declared.shape.Size.{Size}
use Rattle.drawing_types.specs.declared.shape.Rect.{Rect}
use Rattle.elk_doc.specs.declared.document.Direction.{Direction}
use Rattle.elk_doc.specs.declared.document.Direction.TheVariants.{Right, Left, Down, Up}
use Rattle.elk_doc.specs.declared.document.LevelOptions.{LevelOptions}
use Rattle.drawing_types.specs.declared.section.Section.{Section}
use Rattle.elk_doc.specs.declared.drawing.Placed.{Placed}
use Rattle.elk_doc.specs.Document.{Document, port_at}
use Rattle.elk_doc.specs.Level.{children, edges_of, IsChild}
use Rattle.elk_doc.specs.Drawing.{box_of}
use Rattle.drawing_types.specs.Shapes.{hull, point_rect, right_of, bottom_of}
use Rattle.elk_doc.specs.Fits.{IsSolid}
use Rattle.elk_doc.specs.Sound.{IsSound}
use Rattle.port_order.specs.Child as laid
use Rattle.level_model.specs.Level.{PlainLevel, child_at}
use Rattle.route_lines.specs.Points.{PlainGap}
use Rattle.level_model.specs.FromPlan.{LevelDrawing, PlainTrace, point_or}
use Rattle.working_frame.specs.Ranges.{IsFar, IsFarPoint, IsFarSection}
use Rattle.working_frame.specs.Reach.{points_along, points_of}
use Rattle.level_model.specs.Apart.{drawn_box, drawn_outline, drawn_outline_from, drawn_port}
use Rattle.level_model.proofs.Lists.{Has, below_has, has_at, has_left, has_map, has_range, has_right, map_has}
use Rattle.level_draw.specs.Drawing.{IsTight, outlines_in}
use Rattle.working_frame.specs.Rotated.{box_size, child_number, level_of, port_number, ports_of, rotated_size}
use Rattle.working_frame.proofs.NumberedLemmas.{levels_are_listed, numbers_match}
use Rattle.rotated_levels.proofs.HullLemmas.{hulls}
use Rattle.rotated_levels.proofs.OutlineLemmas.{drawn_listed, drawn_port_box}
use Rattle.rotated_levels.proofs.ReachLemmas.{IsShape, Lies, lies}
use Rattle.rotated_levels.proofs.ShapeLemmas.{hulls_solid}
use Rattle.level_io.specs.declared.figure.LevelFigure.{LevelFigure}
use Rattle.level_io.specs.Figure.{figure_in}
use Rattle.level_io.specs.Ranges.{IsLong, IsLongBox, IsLongSize}
use Rattle.level_io.specs.Room.{HasPlaces}
use Rattle.level_io.specs.Written.{IsWritable}
use Rattle.level_io.proofs.PartLemmas.{any_default}

-- ---- what a hull holds lies where it lies

low_first : (a b : ℤ) → pos 0 ≤ℤ int_min a b → pos 0 ≤ℤ a
low_first a b h = omega (arith, ints, clamps, h)

low_second : (a b : ℤ) → pos 0 ≤ℤ int_min a b → pos 0 ≤ℤ b
low_second a b h = omega (arith, ints, clamps, h)

high_first : (low u v w : ℤ) → (low +ℤ (int_max u v -ℤ low)) ≤ℤ w → u ≤ℤ w
high_first low u v w h = omega (arith, ints, clamps, h)

high_second : (low u v w : ℤ) → (low +ℤ (int_max u v -ℤ low)) ≤ℤ w → v ≤ℤ w
high_second low u v w h = omega (arith, ints, clamps, h)

first_lies : (w h : ℤ) (r s : Rect) → Lies w h (hull r s) → Lies w h r
first_lies w h r s t =
    record {
      left = low_first r.x s.x t.left;
      right = high_first (int_min r.x s.x) (right_of r) (right_of s) w t.right;
      top = low_first r.y s.y t.top;
      bottom = high_first (int_min r.y s.y) (bottom_of r) (bottom_of s) h t.bottom;
    }

second_lies : (w h : ℤ) (r s : Rect) → Lies w h (hull r s) → Lies w h s
second_lies w h r s t =
    record {
      left = low_second r.x s.x t.left;
      right = high_second (int_min r.x s.x) (right_of r) (right_of s) w t.right;
      top = low_second r.y s.y t.top;
      bottom = high_second (int_min r.y s.y) (bottom_of r) (bottom_of s) h t.bottom;
    }

box_from : (l : PlainLevel) (v : LevelDrawing) (i : ℕ) (w h : ℤ) (ks : List ℕ) → Lies w h (drawn_outline_from l v i ks) → Lies w h (drawn_box l v i)
box_from l v i w h [] t = t
box_from l v i w h (k ∷ ks) t = box_from l v i w h ks (first_lies w h (drawn_outline_from l v i ks) (drawn_port_box l v i k) t)

port_from : (l : PlainLevel) (v : LevelDrawing) (i j : ℕ) (w h : ℤ) (ks : List ℕ) → Has ks j → Lies w h (drawn_outline_from l v i ks) → Lies w h (drawn_port_box l v i j)
port_from l v i j w h [] here t = absurd here
port_from l v i j w h (k ∷ ks) here t =
    ⊎_elim
    (λ (e : k ≡ j). subst (λ z. Lies w h (drawn_port_box l v i z)) e (second_lies w h (drawn_outline_from l v i ks) (drawn_port_box l v i k) t))
    (λ rest. port_from l v i j w h ks rest (first_lies w h (drawn_outline_from l v i ks) (drawn_port_box l v i k) t))
    here

-- ---- numbers within an extent

far_start : (x s w : ℤ) → pos 0 ≤ℤ x → (x +ℤ s) ≤ℤ w → pos 0 ≤ℤ s → IsLong w → IsFar x
far_start x s w a b c l =
    let under = l.below in record { above = omega (arith, ints, a); below = omega (arith, ints, a, b, c, under) }

far_within : (b bs q s w : ℤ) → pos 0 ≤ℤ b → (b +ℤ bs) ≤ℤ w → pos 0 ≤ℤ bs → pos 0 ≤ℤ (b +ℤ q) → ((b +ℤ q) +ℤ s) ≤ℤ w → pos 0 ≤ℤ s → IsLong w → IsFar q
far_within b bs q s w low high wide low_too high_too wide_too l =
    let under = l.below in
    record { above = omega (arith, ints, low, high, wide, low_too, under); below = omega (arith, ints, low, high_too, wide_too, under) }

rotated_solid : (way : Direction) (s : Size) → pos 0 ≤ℤ s.width → pos 0 ≤ℤ s.height → (pos 0 ≤ℤ (rotated_size way s).width) × (pos 0 ≤ℤ (rotated_size way s).height)
rotated_solid Right s w h = (w, h)
rotated_solid Left s w h = (w, h)
rotated_solid Down s w h = (h, w)
rotated_solid Up s w h = (h, w)

along_has : (ss : List Section) (s : Section) (q : Point) → Has ss s → Has (points_along s) q → Has (points_of ss) q
unfolding points_of
along_has [] s q h k = absurd h
along_has (t ∷ ss) s q h k =
    ⊎_elim
    (λ e. has_left (points_along t) (points_of ss) q (subst (λ x. Has (points_along x) q) (sym e) k))
    (λ rest. has_right (points_along t) (points_of ss) q (along_has ss s q rest k))
    h

module _ (d : Document) (p : Placed) (n : ℕ) (o : LevelOptions) (v : LevelFigure) (gaps : List PlainGap) (traces : List PlainTrace) (left top : ℤ)
    (sound : IsSound d)
    (drawn : HasPlaces (level_of d p n o) (figure_in v gaps traces left top))
    (tight : IsTight (level_of d p n o) (figure_in v gaps traces left top))
    (long : IsLongSize v.extent)
    (sizes : (c : ℕ) → IsChild d n c → IsLongBox (box_of p c)) where
  abbrev l : PlainLevel
  l = level_of d p n o

  abbrev w : LevelDrawing
  w = figure_in v gaps traces left top

  child_count : length l.children ≡ length (children d n)
  child_count = (levels_are_listed d p n o).child_count

  child_solid : (i : ℕ) → i < length (children d n) → (pos 0 ≤ℤ (child_at l i).size.width) × (pos 0 ≤ℤ (child_at l i).size.height)
  child_solid i h =
      let c = child_number d n i in
      let b = sizes c ((numbers_match d n).children.meant i h) in
      let e : (child_at l i).size ≡ rotated_size o.direction (box_size p c) = ap (λ x. x.size) ((levels_are_listed d p n o).child i h) in
      let z = rotated_solid o.direction (box_size p c) b.width.above b.height.above in
      (subst (λ x. pos 0 ≤ℤ x.width) (sym e) z.0, subst (λ x. pos 0 ≤ℤ x.height) (sym e) z.1)

  port_solid : (i j : ℕ) → i < length (children d n) → j < length (ports_of d (child_number d n i))
      → (pos 0 ≤ℤ (laid.port_at (child_at l i) j).size.width) × (pos 0 ≤ℤ (laid.port_at (child_at l i) j).size.height)
  port_solid i j h k =
      let c = child_number d n i in
      let m = port_number d c j in
      let s = (sound.ports.each m ((numbers_match d c).ports.meant j k).port_in).size in
      let e : (laid.port_at (child_at l i) j).size ≡ rotated_size o.direction (port_at d m).size = ap (λ x. x.size) ((levels_are_listed d p n o).port i j h k) in
      let z = rotated_solid o.direction (port_at d m).size s.width.above s.height.above in
      (subst (λ x. pos 0 ≤ℤ x.width) (sym e) z.0, subst (λ x. pos 0 ≤ℤ x.height) (sym e) z.1)

  shape_solid : (s : Rect) → IsShape (outlines_in l w) v.sections s → (pos 0 ≤ℤ s.width) × (pos 0 ≤ℤ s.height)
  shape_solid s (inl h) =
      let found = map_has (drawn_outline l w) (range_with_len 0 (length l.children)) s h in
      let i = found.0 in
      let below = below_has (length l.children) i found.1 in
      let many = child_count in
      let z = child_solid i (omega (arith, below, many)) in
      let own : IsSolid (drawn_box l w i) = record { width = z.0; height = z.1 } in
      let ks = range_with_len 0 (length (child_at l i).ports) in
      let whole = hulls_solid (drawn_box l w i) (drawn_port_box l w i) ks own in
      let is : hulls (drawn_box l w i) (drawn_port_box l w i) ks ≡ s = sym (drawn_listed l w i ks) ∙ found.2 in
      (subst (λ r. pos 0 ≤ℤ r.width) is whole.width, subst (λ r. pos 0 ≤ℤ r.height) is whole.height)
  shape_solid s (inr (q, h, e)) =
      (subst (λ r. pos 0 ≤ℤ r.width) (sym e) (omega (arith, ints)), subst (λ r. pos 0 ≤ℤ r.height) (sym e) (omega (arith, ints)))

  shape_lies : (s : Rect) → IsShape (outlines_in l w) v.sections s → Lies v.extent.width v.extent.height s
  shape_lies s h = lies (outlines_in l w) v.sections v.extent.width v.extent.height tight shape_solid s h

  outline_lies : (i : ℕ) → i < length (children d n) → Lies v.extent.width v.extent.height (drawn_outline l w i)
  outline_lies i h =
      let many = child_count in
      shape_lies (drawn_outline l w i) (inl (has_map (drawn_outline l w) (range_with_len 0 (length l.children)) i (has_range 0 (length l.children) i (omega arith) (omega (arith, h, many)))))

  box_lies : (i : ℕ) → i < length (children d n) → Lies v.extent.width v.extent.height (drawn_box l w i)
  box_lies i h = box_from l w i v.extent.width v.extent.height (range_with_len 0 (length (child_at l i).ports)) (outline_lies i h)

  far_box : (i : ℕ) → i < length (children d n) → IsFarPoint (point_or v.boxes i)
  far_box i h =
      let b = box_lies i h in
      let s = child_solid i h in
      record { x = far_start _ _ _ b.left b.right s.0 long.width; y = far_start _ _ _ b.top b.bottom s.1 long.height }

  far_port : (i j : ℕ) → i < length (children d n) → j < length (ports_of d (child_number d n i)) → IsFarPoint (drawn_port w i j)
  far_port i j h k =
      let b = box_lies i h in
      let s = child_solid i h in
      let count : length (child_at l i).ports ≡ length (ports_of d (child_number d n i)) = (levels_are_listed d p n o).port_count i h in
      let q = port_from l w i j v.extent.width v.extent.height (range_with_len 0 (length (child_at l i).ports)) (has_range 0 (length (child_at l i).ports) j (omega arith) (omega (arith, k, count))) (outline_lies i h) in
      let t = port_solid i j h k in
      record {
        x = far_within (point_or v.boxes i).x (child_at l i).size.width (drawn_port w i j).x (laid.port_at (child_at l i) j).size.width v.extent.width b.left b.right s.0 q.left q.right t.0 long.width;
        y = far_within (point_or v.boxes i).y (child_at l i).size.height (drawn_port w i j).y (laid.port_at (child_at l i) j).size.height v.extent.height b.top b.bottom s.1 q.top q.bottom t.1 long.height;
      }

  far_point : (q : Point) → Has (points_of v.sections) q → IsFarPoint q
  far_point q h =
      let t = shape_lies (point_rect q) (inr (q, h, refl)) in
      record {
        x = far_start q.x (pos 0) v.extent.width t.left t.right (omega (arith, ints)) long.width;
        y = far_start q.y (pos 0) v.extent.height t.top t.bottom (omega (arith, ints)) long.height;
      }

  far_section : (s : Section) → Has v.sections s → IsFarSection s
  far_section s h =
      record {
        start = far_point s.start (along_has v.sections s s.start h (inl refl));
        bends = λ j z k. far_point (get_or s.bends j z) (along_has v.sections s (get_or s.bends j z) h (inr (has_left s.bends (s.end ∷ []) (get_or s.bends j z) (has_at s.bends j z k))));
        end = far_point s.end (along_has v.sections s s.end h (inr (has_right s.bends (s.end ∷ []) s.end (inl refl))));
      }

  box_count : length v.boxes ≡ length (children d n)
  box_count = drawn.box_count ∙ child_count

  port_counts : (i : ℕ) → i < length (children d n) → length (get_or v.ports i []) ≡ length (ports_of d (child_number d n i))
  port_counts i h =
      let many = child_count in
      drawn.port_counts i (omega (arith, h, many)) ∙ (levels_are_listed d p n o).port_count i h

  pub writable : All (λ e. e < length (edges_of d n)) v.certificate.reversed → IsWritable d p n v
  writable reversed =
      let many = box_count in
      record {
        extent = long;
        box_count = box_count;
        boxes = λ i z h. subst IsFarPoint (any_default v.boxes i (record { x = pos 0; y = pos 0 }) z h) (far_box i (omega (arith, h, many)));
        sizes = sizes;
        ports = record {
          as_many = drawn.port_lists ∙ child_count;
          each = port_counts;
          far = λ i h j z k.
              let count = port_counts i h in
              subst IsFarPoint (any_default (get_or v.ports i []) j (record { x = pos 0; y = pos 0 }) z k) (far_port i j h (omega (arith, k, count)));
        };
        section_count = drawn.section_count ∙ (levels_are_listed d p n o).edge_count;
        sections = λ i z h. far_section (get_or v.sections i z) (has_at v.sections i z h);
        reversed = reversed;
      }
