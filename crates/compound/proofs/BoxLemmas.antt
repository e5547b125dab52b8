-- A level of boxes that is written and framed stands in the document in the squarest rows.
use Rattle.std.proofs.Common.{◌≡◌, ℕ, suc, ◌<◌, List, [], ◌∷◌, map, length, get_or, ℤ, pos, neg_ℤ, ◌+ℤ◌, ◌-ℤ◌, refl, sym, ap, ap₂, ◌∙◌, subst, arith}
use Rattle.std.specs.Prelude.{Some, IsTrue}
use Rattle.std.specs.List.{range_with_len}
use Rattle.std.proofs.lemmas.Int.{ints}
use Rattle.drawing_types.specs.declared.shape.Point.{Point}
use Rattle.drawing_types.specs.declared.shape.Rect.{Rect}
use Rattle.drawing_types.specs.declared.shape.Size.{Size}
use Rattle.elk_doc.specs.declared.document.Direction.{Direction}
use Rattle.elk_doc.specs.declared.document.Direction.TheVariants.{Right, Left, Down, Up}
use Rattle.elk_doc.specs.declared.document.LevelOptions.{LevelOptions}
use Rattle.elk_doc.specs.declared.document.Padding.{Padding}
use Rattle.elk_doc.specs.declared.drawing.Certificate.{Certificate}
use Rattle.elk_doc.specs.declared.drawing.Placed.{Placed}
use Rattle.elk_doc.specs.Document.{Document, node_at}
use Rattle.elk_doc.specs.Drawing.{certificate_of, no_rect}
use Rattle.elk_doc.specs.Level.{children}
use Rattle.elk_doc.specs.Places.{outline_of as document_outline}
use Rattle.elk_doc.specs.Shapes.{rotated}
use Rattle.drawing_types.specs.Shapes.{hull}
use Rattle.elk_doc.specs.Sound.{IsSound}
use Rattle.drawing_types.proofs.SameShapes.{same_rect}
use Rattle.port_order.specs.declared.children.Child.{Child}
use Rattle.box_pack.specs.Boxes.{point_at}
use Rattle.box_pack.specs.Squareness.{IsSquarest}
use Rattle.level_model.specs.declared.level.LevelEdge.{LevelEdge}
use Rattle.level_model.specs.declared.level.LevelIn.{LevelIn}
use Rattle.level_model.specs.Conditions.{plain_level}
use Rattle.level_model.specs.FromPlan.{LevelDrawing, point_or}
use Rattle.level_model.specs.Level.{PlainLevel, child_at}
use Rattle.level_model.specs.Apart.{drawn_outline_from}
use Rattle.level_split.specs.Boxes.{IsBoxesLayout, alone}
use Rattle.level_split.specs.Outlines.{child_in, outline_from, outline_of, outline_size, port_rect, ports_in, rect_in}
use Rattle.level_split.specs.Placing.{corner}
use Rattle.working_frame.specs.Drawing.{IsRotatedDrawing, plus}
use Rattle.working_frame.specs.Rotated.{box_size, child_number, edge_number, level_edge, level_of, rotated_place, rotated_size}
use Rattle.working_frame.proofs.NumberedLemmas.{levels_are_listed}
use Rattle.rotated_levels.specs.Framed.{start_of}
use Rattle.rotated_levels.specs.Outlines.{shifted}
use Rattle.rotated_levels.proofs.HullLemmas.{hull_moved}
use Rattle.rotated_levels.proofs.OutlineLemmas.{drawn_port_box, outlines_rotate_back}
use Rattle.level_io.specs.declared.figure.LevelFigure.{LevelFigure}
use Rattle.level_io.specs.Figure.{figure_in}
use Rattle.level_io.specs.Sizes.{IsSizeRound}
use Rattle.level_io.specs.Written.{HasCertificate}
use Rattle.compound.specs.Boxed.{IsBoxedPlan, boxes_certificate, corner_of, inner_corner, lowest, outline_sizes, size_of}
use Rattle.compound.proofs.EdgeLemmas.{no_edges}
use Rattle.compound.specs.Figures.{IsBoxed, figure_of_boxes, layers_for}

-- ---- out of the frame

-- the size of a rectangle by its turn
size_back : (way : Direction) (r f : Rect) → rotated way r ≡ f → size_of r ≡ rotated_size way (size_of f)
size_back Right r f e = ap size_of e
size_back Left r f e = ap size_of e
size_back Down r f e = ap (λ (q : Rect). rotated_size Down (size_of q)) e
size_back Up r f e = ap (λ (q : Rect). rotated_size Up (size_of q)) e

mirrored : (x w m e p s : ℤ) → neg_ℤ (x +ℤ w) ≡ neg_ℤ (m +ℤ e) +ℤ (e -ℤ (p +ℤ s)) → w ≡ s → x ≡ m +ℤ p
mirrored x w m e p s h k = omega (arith, ints, h, k)

same_point : (a b x y : ℤ) → a ≡ x → b ≡ y → (let l : Point = record { x = a; y = b } in let r : Point = record { x = x; y = y } in l ≡ r)
same_point a b x y p q = cc

-- what stands in the frame where the turn of content takes it, stands in the document at its place
place_back : (way : Direction) (m : Padding) (e s : Size) (place : Point) (r f : Rect) → rotated way r ≡ f → size_of r ≡ s
    → corner f ≡ plus (start_of way m (rotated_size way e)) (rotated_place way e s place) → corner_of r ≡ plus (inner_corner m) place
place_back Right m e s place r f t size at = ap corner_of t ∙ at
place_back Left m e s place r f t size at =
    let x = ap (λ (q : Rect). q.x) t ∙ ap (λ (q : Point). q.x) at in
    same_point _ _ _ _ (mirrored r.x r.width m.left e.width place.x s.width x (ap (λ (q : Size). q.width) size)) (ap (λ (q : Rect). q.y) t ∙ ap (λ (q : Point). q.y) at)
place_back Down m e s place r f t size at =
    same_point _ _ _ _ (ap (λ (q : Rect). q.y) t ∙ ap (λ (q : Point). q.y) at) (ap (λ (q : Rect). q.x) t ∙ ap (λ (q : Point). q.x) at)
place_back Up m e s place r f t size at =
    let y = ap (λ (q : Rect). q.x) t ∙ ap (λ (q : Point). q.x) at in
    same_point _ _ _ _ (ap (λ (q : Rect). q.y) t ∙ ap (λ (q : Point). q.y) at) (mirrored r.y r.height m.top e.height place.y s.height y (ap (λ (q : Size). q.height) size))

-- ---- outlines

from_corner : (a : ℤ) → a ≡ a +ℤ pos 0
from_corner a = omega (arith, ints)

-- an outline in a drawing is the one from the corner of its box, moved there
drawn_from : (l : PlainLevel) (v : LevelDrawing) (i : ℕ) (ks : List ℕ) → drawn_outline_from l v i ks ≡ shifted (point_or v.boxes i) (outline_from (child_at l i) (get_or v.ports i []) ks)
drawn_from l v i [] = same_rect _ _ (from_corner _) (from_corner _) refl refl
drawn_from l v i (k ∷ ks) =
    ap (λ (r : Rect). hull r (drawn_port_box l v i k)) (drawn_from l v i ks)
    ∙ sym (hull_moved (point_or v.boxes i) (outline_from (child_at l i) (get_or v.ports i []) ks) (port_rect (child_at l i) (get_or v.ports i []) k))

map_both : (f : ℕ → Size) (g : Rect → Size) (xs : List ℕ) (ys : List Rect) → length ys ≡ length xs → ((i : ℕ) → i < length xs → g (get_or ys i no_rect) ≡ f (get_or xs i 0)) → map g ys ≡ map f xs
map_both f g [] [] e same = refl
map_both f g [] (y ∷ ys) e same = absurd (omega (arith, e))
map_both f g (x ∷ xs) [] e same = absurd (omega (arith, e))
map_both f g (x ∷ xs) (y ∷ ys) e same =
    ap₂ (λ z zs. z ∷ zs) (same 0 (omega arith)) (map_both f g xs ys (omega (arith, e)) (λ i h. same (suc i) (omega (arith, h))))

-- as many layers
layers_same : (xs : List ℕ) (ys : List Point) → length ys ≡ length xs → layers_for ys ≡ map lowest xs
layers_same [] [] e = refl
layers_same [] (y ∷ ys) e = absurd (omega (arith, e))
layers_same (x ∷ xs) [] e = absurd (omega (arith, e))
layers_same (x ∷ xs) (y ∷ ys) e = ap (λ ns. 0 ∷ ns) (layers_same xs ys (omega (arith, e)))

same_certificate : (a b c x y z p q : List ℕ) (s t : ℕ) → a ≡ x → b ≡ y → c ≡ z → s ≡ t → p ≡ q
    → (let l : Certificate = record { layers = a; reversed = b; flow = c; span = s; parts = p } in let r : Certificate = record { layers = x; reversed = y; flow = z; span = t; parts = q } in l ≡ r)
same_certificate a b c x y z p q s t e f g h k = cc

-- a level of boxes is the same without its edges, of which it has none
pub alone_is : (d : Document) (p : Placed) (n : ℕ) (o : LevelOptions) (l : LevelIn) → IsSound d → n < length d.nodes → (node_at d n).level ≡ Some o → IsTrue o.boxes
    → plain_level l ≡ level_of d p n o → plain_level (alone l) ≡ level_of d p n o
alone_is d p n o l sound there options boxes is =
    let bare : PlainLevel → PlainLevel = λ m. record { children = m.children; edges = []; spacing = m.spacing; choices = m.choices } in
    let f : List LevelEdge → PlainLevel = λ es. record { children = (level_of d p n o).children; edges = es; spacing = o.spacing; choices = o.choices } in
    ap bare is ∙ ap f (sym (ap (map (level_edge d n)) (no_edges d n o sound there options boxes)))

module _ (d : Document) (p : Placed) (n : ℕ) (o : LevelOptions) (l : LevelIn) (v : LevelFigure)
    (sound : IsSound d) (there : n < length d.nodes) (options : (node_at d n).level ≡ Some o) (boxes : IsTrue o.boxes)
    (is : plain_level l ≡ level_of d p n o) (fixed : l.fixed ≡ o.fixed) (placing : l.placing ≡ o.placing) (h : IsBoxed l o v)
    (drawn : IsRotatedDrawing d p n o.direction (figure_in v [] [] (pos 0) (pos 0)) (start_of o.direction o.padding v.extent))
    (certificate : HasCertificate d n p v.certificate) (size : IsSizeRound d n o v.extent (box_size p n)) where
  abbrev layout : IsBoxesLayout l o.direction h.out
  layout = h.layout

  abbrev extent : Size
  extent = layout.squarest.rows.extent

  abbrev figure : LevelDrawing
  figure = figure_in (figure_of_boxes h.out) [] [] (pos 0) (pos 0)

  extent_is : v.extent ≡ rotated_size o.direction extent
  extent_is = ap (λ (f : LevelFigure). f.extent) h.is ∙ layout.extent

  rotated_back : IsRotatedDrawing d p n o.direction figure (start_of o.direction o.padding (rotated_size o.direction extent))
  rotated_back =
      subst (λ (f : LevelFigure). IsRotatedDrawing d p n o.direction (figure_in f [] [] (pos 0) (pos 0)) (start_of o.direction o.padding (rotated_size o.direction extent))) h.is
      (subst (λ (e : Size). IsRotatedDrawing d p n o.direction (figure_in v [] [] (pos 0) (pos 0)) (start_of o.direction o.padding e)) extent_is drawn)

  many : length l.children ≡ length (children d n)
  many = ap (λ (m : PlainLevel). length m.children) is ∙ (levels_are_listed d p n o).child_count

  child_is : (i : ℕ) → child_in l.children i ≡ child_at (level_of d p n o) i
  child_is i = ap (λ (m : PlainLevel). child_at m i) is

  abbrev outline : ℕ → Rect
  outline i = rect_in layout.outlines i

  in_level : (i : ℕ) → i < length (children d n) → i < length l.children
  in_level i k = subst (λ m. i < m) (sym many) k

  -- the outline of a child in the frame
  framed_is : (i : ℕ) → i < length (children d n)
      → rotated o.direction (document_outline d p (child_number d n i)) ≡ shifted (start_of o.direction o.padding (rotated_size o.direction extent)) (shifted (point_or h.out.boxes i) (outline i))
  framed_is i k =
      let by = start_of o.direction o.padding (rotated_size o.direction extent) in
      let c = child_at (level_of d p n o) i in
      outlines_rotate_back d p n o figure by rotated_back i k
      ∙ ap (shifted by) (drawn_from (level_of d p n o) figure i (range_with_len 0 (length c.ports))
      ∙ ap (shifted (point_or h.out.boxes i)) (sym (layout.are_outlines.each i (in_level i k) ∙ ap (λ (x : Child). outline_of x (ports_in h.out.ports i)) (child_is i))))

  sizes_are : map (outline_size o.direction) layout.outlines ≡ outline_sizes d p n
  sizes_are =
      map_both (λ c. size_of (document_outline d p c)) (outline_size o.direction) (children d n) layout.outlines (layout.are_outlines.as_many ∙ many)
      (λ i k. sym (size_back o.direction (document_outline d p (child_number d n i)) _ (framed_is i k)))

  outline_stands : (i : ℕ) → i < length (children d n) → corner_of (document_outline d p (child_number d n i)) ≡ plus (inner_corner o.padding) (point_at layout.squarest.rows.at i)
  outline_stands i k =
      place_back o.direction o.padding extent (outline_size o.direction (outline i)) (point_at layout.squarest.rows.at i) (document_outline d p (child_number d n i)) _ (framed_is i k)
      (size_back o.direction (document_outline d p (child_number d n i)) _ (framed_is i k))
      (ap (plus (start_of o.direction o.padding (rotated_size o.direction extent))) (layout.boxes i (in_level i k)))

  certificate_stands : certificate_of p n ≡ Some (boxes_certificate d n)
  certificate_stands =
      let made = ap (λ (f : LevelFigure). f.certificate) h.is in
      certificate.is_written
      ∙ ap Some
      (same_certificate _ _ _ _ _ _ _ _ _ _
      (certificate.numbered.layers ∙ ap (λ (c : Certificate). c.layers) made ∙ layers_same (children d n) h.out.boxes (layout.box_count ∙ many))
      (certificate.numbered.reversed ∙ ap (λ (c : Certificate). map (edge_number d n) c.reversed) made)
      (certificate.numbered.flow ∙ ap (λ (c : Certificate). c.flow) made)
      (certificate.numbered.span ∙ ap (λ (c : Certificate). c.span) made)
      (certificate.parts ∙ ap (λ (c : Certificate). c.parts) made))

  pub boxed_planned : IsBoxedPlan d p n o
  boxed_planned =
      let bare : PlainLevel → PlainLevel = λ m. record { children = m.children; edges = []; spacing = m.spacing; choices = m.choices } in
      record {
        level = alone l;
        out = layout.out;
        is = ap bare is;
        fixed = fixed;
        placing = placing;
        laid_out = layout.laid_out;
        ports = λ i j k m. (rotated_back.children i k).ports j m ∙ ap (λ ports. point_or (get_or ports i []) j) layout.ports;
        squarest = layout.squarest;
        rows = subst (λ gap. IsSquarest (outline_sizes d p n) gap layout.squarest) (ap (λ (m : PlainLevel). m.spacing.node_node) is)
            (subst (λ sizes. IsSquarest sizes l.spacing.node_node layout.squarest) sizes_are layout.is_squarest);
        outlines = outline_stands;
        certificate = certificate_stands;
        size = subst (λ (e : Size). IsSizeRound d n o e (box_size p n)) extent_is size;
      }
