-- The outlines of children come back, and with them their distances.
use Rattle.std.proofs.Common.{◌≡◌, ◌≢◌, ℕ, zero, suc, ◌<◌, inl, inr, ⊎_elim, Bool, true, false, List, [], ◌∷◌, length, get_or, ℤ, IsTrue, IsFalse, refl, sym, ap, ◌∙◌, subst₂, zero-add, arith, rules}
use Rattle.std.specs.List.{range_with_len}
use Rattle.std.proofs.lemmas.Bool.{cases_Bool}
use Rattle.std.proofs.lemmas.Int.{ints}
use Rattle.drawing_types.specs.declared.shape.Point.{Point}
use Rattle.drawing_types.specs.declared.shape.Rect.{Rect}
use Rattle.elk_doc.specs.declared.document.LevelOptions.{LevelOptions}
use Rattle.elk_doc.specs.declared.drawing.Certificate.{Certificate}
use Rattle.elk_doc.specs.declared.drawing.Placed.{Placed}
use Rattle.elk_doc.specs.Document.{Document, port_at, node_of_port}
use Rattle.elk_doc.specs.Level.{children, IsChild, place_of_child}
use Rattle.elk_doc.specs.Numbers.{numbers_below}
use Rattle.elk_doc.specs.Shapes.{rotated}
use Rattle.drawing_types.specs.Shapes.{hull, rect_at, moved_by}
use Rattle.elk_doc.specs.Drawing.{box_of, port_place}
use Rattle.elk_doc.specs.Places.{outline_to, port_box}
use Rattle.elk_doc.specs.Apart.{Apart, LayersApart, framed}
use Rattle.drawing_types.specs.Clearance.{IsLeftBy, IsAboveBy}
use Rattle.elk_doc.proofs.NumberLaws.{numbers_below-more, numbers_below-same}
use Rattle.port_order.specs.Child as laid
use Rattle.level_model.specs.Level.{PlainLevel, child_at}
use Rattle.level_model.specs.FromPlan.{LevelDrawing, point_or}
use Rattle.level_model.specs.Apart.{drawn_box, drawn_port, drawn_outline, drawn_outline_from}
use Rattle.working_frame.specs.Rotated.{child_number, is_port_of, ports_of, port_number, rotated_size, rotated_place, box_size, level_of}
use Rattle.working_frame.specs.Drawing.{IsRotatedDrawing}
use Rattle.working_frame.proofs.NumberedLemmas.{numbers_match, levels_are_listed}
use Rattle.rotated_levels.specs.Outlines.{shifted, AllApart}
use Rattle.rotated_levels.proofs.HullLemmas.{hulls, hulls_push, hulls_rotated, hulls_moved, hulls_range, place_rotated, place_moved}

-- the outline of a node is the least rectangle round its box and its own ports
outline_listed : (d : Document) (p : Placed) (c m : ℕ) → outline_to d p c m ≡ hulls (box_of p c) (port_box d p) (numbers_below (is_port_of d c) m)
unfolding outline_to numbers_below hulls
outline_listed d p c zero = refl
outline_listed d p c (suc m) =
    ⊎_elim
    (λ t. rw (numbers_below-more (is_port_of d c) m t, hulls_push (box_of p c) (port_box d p) (numbers_below (is_port_of d c) m) m, t) (ap (λ z. hull z (port_box d p m)) (outline_listed d p c m)))
    (λ f. rw (numbers_below-same (is_port_of d c) m f, f) (outline_listed d p c m))
    (cases_Bool (is_port_of d c m))

-- a port's box in a drawing of a level
abbrev pub drawn_port_box : PlainLevel → LevelDrawing → ℕ → ℕ → Rect
drawn_port_box l v i j = rect_at (moved_by (drawn_box l v i) (drawn_port v i j)) (laid.port_at (child_at l i) j).size

pub drawn_listed : (l : PlainLevel) (v : LevelDrawing) (i : ℕ) (ks : List ℕ) → drawn_outline_from l v i ks ≡ hulls (drawn_box l v i) (drawn_port_box l v i) ks
unfolding hulls
drawn_listed l v i [] = refl
drawn_listed l v i (k ∷ ks) = ap (λ z. hull z (drawn_port_box l v i k)) (drawn_listed l v i ks)

module _ (d : Document) (p : Placed) (n : ℕ) (o : LevelOptions) (v : LevelDrawing) (by : Point) (t : IsRotatedDrawing d p n o.direction v by) where
  abbrev level : PlainLevel
  level = level_of d p n o

  box_back : (i : ℕ) → i < length (children d n) → rotated o.direction (box_of p (child_number d n i)) ≡ shifted by (drawn_box level v i)
  box_back i h = (t.children i h).box ∙ ap (λ s. shifted by (rect_at (point_or v.boxes i) s)) (sym (ap (λ c. c.size) ((levels_are_listed d p n o).child i h)))

  port_back : (i j : ℕ) → i < length (children d n) → j < length (ports_of d (child_number d n i))
      → rotated o.direction (port_box d p (port_number d (child_number d n i) j)) ≡ shifted by (drawn_port_box level v i j)
  port_back i j h k =
      let c = child_number d n i in
      let q = port_number d c j in
      let own : node_of_port d q ≡ c = ((numbers_match d c).ports.meant j k).of_node in
      let size : (laid.port_at (child_at level i) j).size ≡ rotated_size o.direction (port_at d q).size = ap (λ e. e.size) ((levels_are_listed d p n o).port i j h k) in
      ap (λ m. rotated o.direction (rect_at (moved_by (box_of p m) (port_place p q)) (port_at d q).size)) own
      ∙ place_rotated o.direction (box_of p c) (port_place p q) (port_at d q).size
      ∙ ap (λ b. rect_at (moved_by b (rotated_place o.direction (box_size p c) (port_at d q).size (port_place p q))) (rotated_size o.direction (port_at d q).size)) (box_back i h)
      ∙ ap (λ z. rect_at (moved_by (shifted by (drawn_box level v i)) z) (rotated_size o.direction (port_at d q).size)) ((t.children i h).ports j k)
      ∙ ap (λ s. rect_at (moved_by (shifted by (drawn_box level v i)) (drawn_port v i j)) s) (sym size)
      ∙ place_moved by (drawn_box level v i) (drawn_port v i j) (laid.port_at (child_at level i) j).size

  outline_back : (i : ℕ) → i < length (children d n) → framed d p o (child_number d n i) ≡ shifted by (drawn_outline level v i)
  outline_back i h =
      let c = child_number d n i in
      let count = (levels_are_listed d p n o).port_count i h in
      ap (rotated o.direction) (outline_listed d p c (length d.ports))
      ∙ hulls_rotated o.direction (box_of p c) (port_box d p) (ports_of d c)
      ∙ ap (λ b. hulls b (λ k. rotated o.direction (port_box d p k)) (ports_of d c)) (box_back i h)
      ∙ hulls_range (shifted by (drawn_box level v i)) (λ k. rotated o.direction (port_box d p k)) (λ j. shifted by (drawn_port_box level v i j)) (ports_of d c) 0 (λ j k. port_back i j h k ∙ ap (λ m. shifted by (drawn_port_box level v i m)) (sym (zero-add j)))
      ∙ sym (hulls_moved by (drawn_box level v i) (drawn_port_box level v i) (range_with_len 0 (length (ports_of d c))))
      ∙ ap (shifted by) (sym (drawn_listed level v i (range_with_len 0 (length (ports_of d c)))))
      ∙ ap (λ m. shifted by (drawn_outline_from level v i (range_with_len 0 m))) (sym count)

pub outlines_rotate_back : (d : Document) (p : Placed) (n : ℕ) (o : LevelOptions) (v : LevelDrawing) (by : Point) → IsRotatedDrawing d p n o.direction v by
    → (i : ℕ) → i < length (children d n) → framed d p o (child_number d n i) ≡ shifted by (drawn_outline (level_of d p n o) v i)
outlines_rotate_back d p n o v by t = outline_back d p n o v by t

-- ---- distances

left_moved : (by : Point) (gap : ℤ) (r s : Rect) → IsLeftBy gap r s → IsLeftBy gap (shifted by r) (shifted by s)
left_moved by gap r s h = omega (arith, ints, h)

above_moved : (by : Point) (gap : ℤ) (r s : Rect) → IsAboveBy gap r s → IsAboveBy gap (shifted by r) (shifted by s)
above_moved by gap r s h = omega (arith, ints, h)

-- the outline of a child that stands at its place
outline_at_place : (d : Document) (p : Placed) (n : ℕ) (o : LevelOptions) (v : LevelDrawing) (by : Point) → IsRotatedDrawing d p n o.direction v by
    → (a : ℕ) → IsChild d n a → framed d p o a ≡ shifted by (drawn_outline (level_of d p n o) v (place_of_child d n a))
outline_at_place d p n o v by t a h =
    let m = (numbers_match d n).children in
    ap (framed d p o) (sym (m.found a h)) ∙ outlines_rotate_back d p n o v by t (place_of_child d n a) (m.place_in a h)

layers_back : (d : Document) (p : Placed) (n : ℕ) (o : LevelOptions) (v : LevelDrawing) (by : Point) (c : Certificate) → IsRotatedDrawing d p n o.direction v by
    → AllApart d p n o v c → (a b : ℕ) → IsChild d n a → IsChild d n b → a ≢ b → LayersApart d p n o c a b
layers_back d p n o v by c t apart a b ha hb differ =
    let m = (numbers_match d n).children in
    let i = place_of_child d n a in
    let j = place_of_child d n b in
    let l = level_of d p n o in
    let other : i ≢ j = λ same. differ (sym (m.found a ha) ∙ ap (λ k. get_or (children d n) k 0) same ∙ m.found b hb) in
    let k = apart i j (m.place_in a ha) (m.place_in b hb) other in
    let ra = outline_at_place d p n o v by t a ha in
    let rb = outline_at_place d p n o v by t b hb in
    let gap = o.spacing.node_node in
    record {
      same_layer = λ e. ⊎_elim
          (λ q. inl (subst₂ (λ r s. IsAboveBy gap r s) (sym ra) (sym rb) (above_moved by gap (drawn_outline l v i) (drawn_outline l v j) q)))
          (λ q. inr (subst₂ (λ r s. IsAboveBy gap r s) (sym rb) (sym ra) (above_moved by gap (drawn_outline l v j) (drawn_outline l v i) q)))
          (k.same_layer e);
      earlier_layer = λ e. subst₂ (λ r s. IsLeftBy o.spacing.node_layers r s) (sym ra) (sym rb) (left_moved by o.spacing.node_layers (drawn_outline l v i) (drawn_outline l v j) (k.earlier_layer e));
    }

clash : {X : Type 0} (b : Bool) → IsTrue b → IsFalse b → X
clash true t f = absurd (search rules)
clash false t f = absurd (search rules)

pub distances_rotate_back : (d : Document) (p : Placed) (n : ℕ) (o : LevelOptions) (v : LevelDrawing) (by : Point) (c : Certificate)
    → IsRotatedDrawing d p n o.direction v by → AllApart d p n o v c → IsFalse o.split → IsFalse o.boxes → Apart d p n o c
distances_rotate_back d p n o v by c t apart whole layered =
    record {
      numbered = λ split. clash o.split split whole;
      layers = λ _ a b ha hb differ _. layers_back d p n o v by c t apart a b ha hb differ;
      parts = λ split. clash o.split split whole;
      boxes = λ boxes. clash o.boxes boxes layered;
    }
