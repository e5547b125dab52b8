-- Anchors and docks are those of the level.
use Rattle.std.proofs.Common.{◌≡◌, ℕ, ◌<◌, Bool, true, false, not, ◌&&◌, ℤ, ◌+ℤ◌, ◌-ℤ◌, length, refl, sym, subst, ap, ◌∙◌, arith}
use Rattle.std.proofs.lemmas.Int.{ints}
use Rattle.std.specs.Prelude.{Option, None, Some}
use Rattle.drawing_types.specs.declared.shape.Point.{Point}
use Rattle.drawing_types.specs.declared.shape.Rect.{Rect}
use Rattle.drawing_types.specs.declared.shape.Size.{Size}
use Rattle.drawing_types.specs.declared.shape.Side.{Side}
use Rattle.drawing_types.specs.declared.shape.Side.TheVariants.{North, East, South, West}
use Rattle.drawing_types.specs.declared.shape.Dock.{Dock}
use Rattle.elk_doc.specs.declared.document.Direction.{Direction}
use Rattle.elk_doc.specs.declared.document.Direction.TheVariants.{Right, Left, Down, Up}
use Rattle.elk_doc.specs.declared.document.End.{End as DocumentEnd}
use Rattle.elk_doc.specs.declared.document.End.TheVariants.{Node as AtNode, Port as AtPort}
use Rattle.elk_doc.specs.declared.document.LevelOptions.{LevelOptions}
use Rattle.elk_doc.specs.declared.drawing.Placed.{Placed}
use Rattle.elk_doc.specs.Document.{Document, node_of_port, port_at as document_port}
use Rattle.elk_doc.specs.Level.{children, edges_of, IsChild, IsEdge, node_of_end, place_of_child}
use Rattle.elk_doc.specs.Drawing.{box_of, port_place as document_place}
use Rattle.elk_doc.specs.Shapes.{rotated}
use Rattle.drawing_types.specs.Shapes.{rect_at, moved_by, point_rect}
use Rattle.elk_doc.specs.Sides.{end_of, end_node, side_of_port, side_of_end, given_side as document_side}
use Rattle.elk_doc.specs.Sound.{IsEndIn, along}
use Rattle.elk_doc.specs.Places.{port_box, middle_of, offset_on, section_end, anchor_at as document_anchor_at, anchor_of as document_anchor, dock_of as document_dock}
use Rattle.drawing_types.proofs.SameShapes.{same_point}
use Rattle.drawing_laws.specs.Rotating.{rotated_point, rotated_side}
use Rattle.drawing_laws.specs.Frames.{rotated_offset, rotated_dock}
use Rattle.drawing_laws.proofs.FrameLaws.{docks}
use Rattle.port_order.specs.declared.children.Child.{Child}
use Rattle.port_order.specs.declared.children.ChildPort.{ChildPort}
use Rattle.port_order.specs.Child.{port_at}
use Rattle.port_order.specs.Sides.{side_else}
use Rattle.port_order.specs.Places.{given_face, on_side, corner_of, face_of, anchor_at}
use Rattle.level_model.specs.declared.level.EdgeEnd.{EdgeEnd}
use Rattle.level_model.specs.Level.{PlainLevel, PlainPlan, Orders, end_at, spoke, child_at, port_spot, spot_of, spot_at_port, anchor_of_spot, dock_of, dock_of_spot}
use Rattle.level_model.specs.FromPlan.{LevelDrawing, point_or, box_place, anchor}
use Rattle.level_model.specs.Apart.{drawn_port}
use Rattle.level_model.proofs.SameLines.{same_dock}
use Rattle.level_model.specs.PortsKept.{port_side}
use Rattle.working_frame.specs.Rotated.{level_of, child_number, edge_number, port_number, ports_of, place_of_port, spoke_of, rotated_size, rotated_place, rotated_given, half_along, box_size}
use Rattle.working_frame.specs.Drawing.{plus}
use Rattle.rotated_levels.specs.DockLaws.{IsFromLevel, IsAnchored, AnchorRotates, DockRotates, DocksAgree, DocksRotateBack, numbered_dock}
use Rattle.working_frame.proofs.NumberedLemmas.{levels_are_listed, ends_match}
use Rattle.rotated_levels.proofs.Numbering.{child_place, child_back, edge_there, end_child, end_in, end_node_is, port_back, port_node, spoke_is}
use Rattle.rotated_levels.proofs.SideLemmas.{given_is, port_side_rotates, end_side_rotates}

-- ---- geometry

-- the middle of the outer face of a port at this place, with its anchor so far along it
abbrev pub middle_at : Side → Point → Size → ℤ → Point
middle_at s q z half = on_side s (given_face s q z) (along s q +ℤ half)

pub middle_rotated : (way : Direction) (s : Side) (box : Rect) (q : Point) (z : Size)
    → rotated_point way (middle_of s (rect_at (moved_by box q) z))
    ≡ moved_by (rotated way box) (middle_at (rotated_side way s) (rotated_place way (record { width = box.width; height = box.height }) z q) (rotated_size way z) (half_along way (rotated_side way s) (rotated_size way z)))
middle_rotated Right North box q z = same_point _ _ (omega (arith, ints)) refl
middle_rotated Right East box q z = same_point _ _ (omega (arith, ints)) (omega (arith, ints))
middle_rotated Right South box q z = same_point _ _ (omega (arith, ints)) (omega (arith, ints))
middle_rotated Right West box q z = same_point _ _ refl (omega (arith, ints))
middle_rotated Left North box q z = same_point _ _ (omega (arith, ints)) (omega (arith, ints))
middle_rotated Left East box q z = same_point _ _ (omega (arith, ints)) (omega (arith, ints))
middle_rotated Left South box q z = same_point _ _ (omega (arith, ints)) (omega (arith, ints))
middle_rotated Left West box q z = same_point _ _ (omega (arith, ints)) (omega (arith, ints))
middle_rotated Down North box q z = same_point _ _ (omega (arith, ints)) (omega (arith, ints))
middle_rotated Down East box q z = same_point _ _ (omega (arith, ints)) (omega (arith, ints))
middle_rotated Down South box q z = same_point _ _ (omega (arith, ints)) (omega (arith, ints))
middle_rotated Down West box q z = same_point _ _ (omega (arith, ints)) (omega (arith, ints))
middle_rotated Up North box q z = same_point _ _ (omega (arith, ints)) (omega (arith, ints))
middle_rotated Up East box q z = same_point _ _ (omega (arith, ints)) (omega (arith, ints))
middle_rotated Up South box q z = same_point _ _ (omega (arith, ints)) (omega (arith, ints))
middle_rotated Up West box q z = same_point _ _ (omega (arith, ints)) (omega (arith, ints))

corner_middle : (s : Side) (face offset half : ℤ) (z : Size) → middle_at s (corner_of s face (offset -ℤ half) z) z half ≡ on_side s face offset
corner_middle North face offset half z = same_point _ _ (omega (arith, ints)) refl
corner_middle East face offset half z = same_point _ _ (omega (arith, ints)) (omega (arith, ints))
corner_middle South face offset half z = same_point _ _ (omega (arith, ints)) (omega (arith, ints))
corner_middle West face offset half z = same_point _ _ refl (omega (arith, ints))

moved_twice : (by b q : Point) (z : Size) → moved_by (rect_at (plus by b) z) q ≡ plus by (moved_by (point_rect b) q)
moved_twice by b q z = same_point _ _ (omega (arith, ints)) (omega (arith, ints))

-- the offset of an anchor on its side of a box that is moved
anchor_offset : (by b : Point) (z : Size) (s : Side) (face offset : ℤ) → offset_on s (rect_at (plus by b) z) (plus by (moved_by (point_rect b) (on_side s face offset))) ≡ offset
anchor_offset by b z North face offset = omega (arith, ints)
anchor_offset by b z East face offset = omega (arith, ints)
anchor_offset by b z South face offset = omega (arith, ints)
anchor_offset by b z West face offset = omega (arith, ints)

spot_offset : (by b : Point) (z : Size) (c : Child) (s : Side) (port : Option ℕ) (offset : ℤ) → offset_on s (rect_at (plus by b) z) (plus by (moved_by (point_rect b) (anchor_at c s port offset))) ≡ offset
spot_offset by b z c s (Some k) offset = anchor_offset by b z s _ offset
spot_offset by b z c s None offset = anchor_offset by b z s _ offset

-- a port without a given side lies east or west, and its anchor as far along either
half_same : (way : Direction) (given : Option Side) (a b : Bool) (z : Size) → half_along way (side_else given a) z ≡ half_along way (side_else given b) z
half_same way (Some s) a b z = refl
half_same way None true true z = refl
half_same way None false false z = refl
half_same Right None true false z = refl
half_same Left None true false z = refl
half_same Down None true false z = refl
half_same Up None true false z = refl
half_same Right None false true z = refl
half_same Left None false true z = refl
half_same Down None false true z = refl
half_same Up None false true z = refl

module _ (d : Document) (p : Placed) (n : ℕ) (o : LevelOptions) (plan : PlainPlan) (v : LevelDrawing) (by : Point) (from : IsFromLevel d p n o plan v by) where
  abbrev l : PlainLevel
  l = level_of d p n o

  abbrev way : Direction
  way = o.direction

  pub size_is : (i j : ℕ) → i < length (children d n) → j < length (ports_of d (child_number d n i))
      → rotated_size way (document_port d (port_number d (child_number d n i) j)).size ≡ (port_at (child_at l i) j).size
  size_is i j hi hj = ap (λ (q : ChildPort). q.size) (sym ((levels_are_listed d p n o).port i j hi hj))

  pub half_is : (i j : ℕ) → i < length (children d n) → j < length (ports_of d (child_number d n i))
      → half_along way (port_side l plan i j) (rotated_size way (document_port d (port_number d (child_number d n i) j)).size) ≡ (port_at (child_at l i) j).half
  half_is i j hi hj =
      let k = port_number d (child_number d n i) j in
      let z = rotated_size way (document_port d k).size in
      let flow = (port_spot l plan i j).enters && not (port_spot l plan i j).leaves in
      ap (λ g. half_along way (side_else g flow) z) (given_is d p n o plan v by from i j hi hj)
      ∙ half_same way (rotated_given way (document_side d k)) flow false z
      ∙ ap (λ (q : ChildPort). q.half) (sym ((levels_are_listed d p n o).port i j hi hj))

  -- the box of a child in the frame
  pub box_rotated : (i : ℕ) → i < length (children d n) → rotated way (box_of p (child_number d n i)) ≡ rect_at (plus by (point_or v.boxes i)) (rotated_size way (box_size p (child_number d n i)))
  box_rotated i h = (from.drawn.children i h).box

module _ (d : Document) (p : Placed) (n : ℕ) (o : LevelOptions) (plan : PlainPlan) (v : LevelDrawing) (by : Point) (from : IsFromLevel d p n o plan v by) (orders : Orders) (anchored : IsAnchored (level_of d p n o) plan orders v) where
  abbrev lv : PlainLevel
  lv = level_of d p n o

  abbrev to : Direction
  to = o.direction

  -- the offset of a port of the level
  abbrev offset_at : ℕ → ℕ → ℤ
  offset_at i j = (dock_of_spot lv orders i (port_spot lv plan i j)).offset

  -- the middle of a port's outer face, in the frame
  port_middle : (i j : ℕ) → i < length (children d n) → j < length (ports_of d (child_number d n i))
      → middle_at (port_side lv plan i j) (drawn_port v i j) (port_at (child_at lv i) j).size (port_at (child_at lv i) j).half ≡ on_side (port_side lv plan i j) (face_of (child_at lv i) (port_side lv plan i j) j) (offset_at i j)
  port_middle i j hi hj =
      let some = (levels_are_listed d p n o).child_count in
      let many = (levels_are_listed d p n o).port_count i hi in
      let c = child_at lv i in
      let s = port_side lv plan i j in
      ap (λ q. middle_at s q (port_at c j).size (port_at c j).half) (anchored.placed.ports i j (omega (arith, hi, some)) (omega (arith, hj, many)))
      ∙ corner_middle s (face_of c s j) (offset_at i j) (port_at c j).half (port_at c j).size

  port_anchor : (i j : ℕ) → i < length (children d n) → j < length (ports_of d (child_number d n i)) → point_or v.boxes i ≡ box_place lv plan orders v i
      → rotated_point to (middle_of (side_of_port d p (port_number d (child_number d n i) j)) (port_box d p (port_number d (child_number d n i) j)))
      ≡ plus by (moved_by (point_rect (box_place lv plan orders v i)) (anchor_of_spot lv orders i (port_spot lv plan i j)))
  port_anchor i j hi hj stands =
      let c = child_number d n i in
      let k = port_number d c j in
      let s = side_of_port d p k in
      let q = document_place p k in
      let z = (document_port d k).size in
      let side = port_side lv plan i j in
      let child = child_at lv i in
      let b = point_or v.boxes i in
      let rotated_box = rotated_size to (box_size p c) in
      ap (λ m. rotated_point to (middle_of s (rect_at (moved_by (box_of p m) q) z))) (port_node d c j hj)
      ∙ middle_rotated to s (box_of p c) q z
      ∙ ap (λ r. moved_by r (middle_at (rotated_side to s) (rotated_place to (box_size p c) z q) (rotated_size to z) (half_along to (rotated_side to s) (rotated_size to z)))) (box_rotated d p n o plan v by from i hi)
      ∙ ap (λ y. moved_by (rect_at (plus by b) rotated_box) (middle_at y (rotated_place to (box_size p c) z q) (rotated_size to z) (half_along to y (rotated_size to z)))) (port_side_rotates d p n o plan v by from i j hi hj)
      ∙ ap (λ y. moved_by (rect_at (plus by b) rotated_box) (middle_at side y (rotated_size to z) (half_along to side (rotated_size to z)))) ((from.drawn.children i hi).ports j hj)
      ∙ ap (λ y. moved_by (rect_at (plus by b) rotated_box) (middle_at side (drawn_port v i j) (rotated_size to z) y)) (half_is d p n o plan v by from i j hi hj)
      ∙ ap (λ y. moved_by (rect_at (plus by b) rotated_box) (middle_at side (drawn_port v i j) y (port_at child j).half)) (size_is d p n o plan v by from i j hi hj)
      ∙ ap (moved_by (rect_at (plus by b) rotated_box)) (port_middle i j hi hj)
      ∙ moved_twice by b (on_side side (face_of child side j) (offset_at i j)) rotated_box
      ∙ ap (λ y. plus by (moved_by (point_rect y) (on_side side (face_of child side j) (offset_at i j)))) stands

  -- the same for a port by its number in the document
  abbrev PortAnchored : ℕ → ℕ → ℕ → Type 0
  PortAnchored i j k =
      rotated_point to (middle_of (side_of_port d p k) (port_box d p k)) ≡ plus by (moved_by (point_rect (box_place lv plan orders v i)) (anchor_of_spot lv orders i (port_spot lv plan i j)))

  port_anchor_at : (k : ℕ) → k < length d.ports → IsChild d n (node_of_port d k)
      → point_or v.boxes (place_of_child d n (node_of_port d k)) ≡ box_place lv plan orders v (place_of_child d n (node_of_port d k))
      → PortAnchored (place_of_child d n (node_of_port d k)) (place_of_port d k) k
  port_anchor_at k h child stands =
      let i = place_of_child d n (node_of_port d k) in
      let j = place_of_port d k in
      let c = child_back d n (node_of_port d k) child in
      let q = port_back d (child_number d n i) k h (sym c.1) in
      subst (PortAnchored i j) q.1 (port_anchor i j c.0 q.0 stands)

  -- a section's end
  pub section_rotated : (i : ℕ) (t : Bool) → i < length (edges_of d n) → rotated_point to (section_end p (edge_number d n i) t) ≡ plus by (anchor lv plan orders v (end_at i t))
  section_rotated i true h = let many = (levels_are_listed d p n o).edge_count in (from.drawn.sections i h).start ∙ ap (plus by) (anchored.from_source i (omega (arith, h, many)))
  section_rotated i false h = let many = (levels_are_listed d p n o).edge_count in (from.drawn.sections i h).end ∙ ap (plus by) (anchored.to_target i (omega (arith, h, many)))

  -- the children of ends stand where the plan places them
  stands_at : (i : ℕ) (t : Bool) → i < length (edges_of d n) → point_or v.boxes (spoke lv (end_at i t)).child ≡ box_place lv plan orders v (spoke lv (end_at i t)).child
  stands_at i t h = let many = (levels_are_listed d p n o).edge_count in anchored.placed.boxes i t (omega (arith, h, many))

  pub anchor_rotates : (i : ℕ) (t : Bool) → i < length (edges_of d n) → AnchorRotates d p n o plan orders v by i t
  anchor_rotates i t h = step (end_of d e t) (spoke_is d p n o i t h) (end_child d n e t from.sound edge) (end_in d e t from.sound edge.edge_in)
    where
      e : ℕ
      e = edge_number d n i

      edge : IsEdge d n e
      edge = edge_there d n i h

      step : (x : DocumentEnd) → spoke lv (end_at i t) ≡ spoke_of d n x → IsChild d n (node_of_end d x) → IsEndIn d x
          → rotated_point to (document_anchor_at d p e t x) ≡ plus by (anchor lv plan orders v (end_at i t))
      step (AtNode c) at child within = section_rotated i t h
      step (AtPort k) at child within =
          let stands : point_or v.boxes (place_of_child d n (node_of_port d k)) ≡ box_place lv plan orders v (place_of_child d n (node_of_port d k)) =
          subst (λ (s : EdgeEnd). point_or v.boxes s.child ≡ box_place lv plan orders v s.child) at (stands_at i t h)
          in
          subst (λ (s : EdgeEnd). rotated_point to (document_anchor_at d p e t (AtPort k)) ≡ plus by (moved_by (point_rect (box_place lv plan orders v s.child)) (anchor_of_spot lv orders s.child (spot_at_port lv plan s.child (end_at i t) s.port)))) (sym at)
          (port_anchor_at k within child stands)

  -- the child of an end
  spoke_place : (i : ℕ) (t : Bool) → i < length (edges_of d n) → (spoke lv (end_at i t)).child ≡ place_of_child d n (node_of_end d (end_of d (edge_number d n i) t))
  spoke_place i t h = ap (λ (s : EdgeEnd). s.child) (spoke_is d p n o i t h) ∙ (ends_match d n (edge_number d n i) from.sound (edge_there d n i h)).spoke (end_of d (edge_number d n i) t)

  pub spoke_in : (i : ℕ) (t : Bool) → i < length (edges_of d n) → (spoke lv (end_at i t)).child < length (children d n)
  spoke_in i t h =
      let e = edge_number d n i in
      subst (λ c. c < length (children d n)) (sym (spoke_place i t h)) (child_back d n (node_of_end d (end_of d e t)) (end_child d n e t from.sound (edge_there d n i h))).0

  pub spoke_number : (i : ℕ) (t : Bool) → i < length (edges_of d n) → child_number d n (spoke lv (end_at i t)).child ≡ end_node d (edge_number d n i) t
  spoke_number i t h =
      let e = edge_number d n i in
      ap (child_number d n) (spoke_place i t h) ∙ (child_back d n (node_of_end d (end_of d e t)) (end_child d n e t from.sound (edge_there d n i h))).1 ∙ sym (end_node_is d e t)

  pub dock_rotates : (i : ℕ) (t : Bool) → i < length (edges_of d n) → DockRotates d p n o plan orders i t
  dock_rotates i t h =
      let e = edge_number d n i in
      let m = end_at i t in
      let c = (spoke lv m).child in
      let node : end_node d e t ≡ child_number d n c = sym (spoke_number i t h) in
      let side : rotated_side to (side_of_end d p e t) ≡ (dock_of lv plan orders m).side = end_side_rotates d p n o plan v by from orders i t h in
      let box = box_of p (end_node d e t) in
      let b = point_or v.boxes c in
      let z = rotated_size to (box_size p (child_number d n c)) in
      let here : rotated to box ≡ rect_at (plus by b) z = ap (λ k. rotated to (box_of p k)) node ∙ box_rotated d p n o plan v by from c (spoke_in i t h) in
      let stands : anchor lv plan orders v m ≡ moved_by (point_rect b) (anchor_of_spot lv orders c (spot_of lv plan m)) = ap (λ q. moved_by (point_rect q) (anchor_of_spot lv orders c (spot_of lv plan m))) (sym (stands_at i t h)) in
      let offset : rotated_offset to (side_of_end d p e t) box (document_dock d p e t).offset ≡ (dock_of lv plan orders m).offset =
      sym (docks.offset to (side_of_end d p e t) box (document_anchor d p e t))
      ∙ ap (λ s. offset_on s (rotated to box) (rotated_point to (document_anchor d p e t))) side
      ∙ ap (λ r. offset_on (dock_of lv plan orders m).side r (rotated_point to (document_anchor d p e t))) here
      ∙ ap (offset_on (dock_of lv plan orders m).side (rect_at (plus by b) z)) (anchor_rotates i t h ∙ ap (plus by) stands)
      ∙ spot_offset by b z (child_at lv c) (dock_of lv plan orders m).side (spot_of lv plan m).port (dock_of lv plan orders m).offset
      in
      same_dock (rotated_dock to box (document_dock d p e t)) (numbered_dock d n (dock_of lv plan orders m)) node side offset

  -- docks of the level are told apart by their children's numbers in the document
  numbered_back : (i j : ℕ) (s t : Bool) → i < length (edges_of d n) → j < length (edges_of d n)
      → numbered_dock d n (dock_of lv plan orders (end_at i s)) ≡ numbered_dock d n (dock_of lv plan orders (end_at j t)) → dock_of lv plan orders (end_at i s) ≡ dock_of lv plan orders (end_at j t)
  numbered_back i j s t hi hj e =
      let number = ap (λ (k : Dock). k.node) e in
      let a = (spoke lv (end_at i s)).child in
      let b = (spoke lv (end_at j t)).child in
      let node : a ≡ b = sym (child_place d n a (spoke_in i s hi)) ∙ ap (place_of_child d n) number ∙ child_place d n b (spoke_in j t hj) in
      same_dock (dock_of lv plan orders (end_at i s)) (dock_of lv plan orders (end_at j t)) node (ap (λ (k : Dock). k.side) e) (ap (λ (k : Dock). k.offset) e)

  pub docks_agree : (i j : ℕ) (s t : Bool) → i < length (edges_of d n) → j < length (edges_of d n) → DocksAgree d p n o plan orders i s j t
  docks_agree i j s t hi hj =
      let x = document_dock d p (edge_number d n i) s in
      let y = document_dock d p (edge_number d n j) t in
      let rotates = docks.dock to (box_of p) x y in (
        λ e. numbered_back i j s t hi hj (sym (dock_rotates i s hi) ∙ rotates.0 e ∙ dock_rotates j t hj),
        λ e. rotates.1 (dock_rotates i s hi ∙ ap (numbered_dock d n) e ∙ sym (dock_rotates j t hj)),
      )

pub docks_rotate_back : DocksRotateBack
docks_rotate_back =
    record {
      anchor = λ d p n o plan orders v by from anchored. anchor_rotates d p n o plan v by from orders anchored;
      dock = λ d p n o plan orders v by from anchored. dock_rotates d p n o plan v by from orders anchored;
      same = λ d p n o plan orders v by from anchored. docks_agree d p n o plan v by from orders anchored;
    }
