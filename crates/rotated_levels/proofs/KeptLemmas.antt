-- Single ports and ends at nodes keep their constraints, and ports their order.
use Rattle.std.proofs.Common.{◌≡◌, ◌⊎◌, inl, inr, ⊎_elim, ℕ, ◌<◌, eq-eqb, Bool, not, ◌&&◌, pos, ◌+ℤ◌, ◌≤ℤ◌, ◌<ℤ◌, length, refl, sym, subst, subst₂, ap, ap₂, ◌∙◌, arith}
use Rattle.std.specs.Prelude.{Option, None, Some, is_some, is_none}
use Rattle.drawing_types.specs.declared.shape.Point.{Point}
use Rattle.drawing_types.specs.declared.shape.Side.{Side}
use Rattle.elk_doc.specs.declared.document.Direction.{Direction}
use Rattle.elk_doc.specs.declared.document.PortRule.TheVariants.{FixedOrder}
use Rattle.elk_doc.specs.declared.document.End.TheVariants.{Node as AtNode}
use Rattle.elk_doc.specs.declared.document.LevelOptions.{LevelOptions}
use Rattle.elk_doc.specs.declared.drawing.Placed.{Placed}
use Rattle.elk_doc.specs.Document.{Document, node_at, node_of_port, port_at as document_port}
use Rattle.drawing_types.specs.Shapes.{origin}
use Rattle.elk_doc.specs.Level.{children, edges_of}
use Rattle.elk_doc.specs.Numbers.{count_below}
use Rattle.elk_doc.specs.Drawing.{box_of, port_place as document_place}
use Rattle.elk_doc.specs.Shapes.{rotated}
use Rattle.drawing_types.specs.Shapes.{rect_at, half_of}
use Rattle.elk_doc.specs.Sides.{is_leaf, side_of_port, side_of_end, end_of}
use Rattle.elk_doc.specs.Sound.{along}
use Rattle.drawing_types.specs.Ranges.{IsWithin}
use Rattle.elk_doc.specs.PortsKept.{AreInOrder, across, size_along, flush, pins, is_pinned as is_document_pinned, port_offset as document_offset, KeepsPort, KeepsEnd, given_clockwise, ComesBefore, IsOnSide, clockwise, counted}
use Rattle.elk_doc.specs.Places.{offset_on, section_end}
use Rattle.elk_doc.proofs.NumberLaws.{count_below-lt}
use Rattle.drawing_laws.specs.Rotating.{rotated_point, rotated_side}
use Rattle.drawing_laws.specs.Frames.{rotated_offset}
use Rattle.drawing_laws.proofs.FrameLaws.{docks}
use Rattle.port_order.specs.declared.children.Child.{Child}
use Rattle.port_order.specs.declared.children.ChildPort.{ChildPort}
use Rattle.port_order.specs.Child.{port_at, is_pinned}
use Rattle.port_order.specs.Sides.{is_forward}
use Rattle.port_order.specs.Order.{ClockwiseFirst, given_at}
use Rattle.level_model.specs.declared.level.EdgeEnd.{EdgeEnd}
use Rattle.level_model.specs.Level.{PlainLevel, PlainPlan, Orders, end_at, spoke, child_at, dock_of}
use Rattle.level_model.specs.FromPlan.{LevelDrawing, point_or, anchor}
use Rattle.level_model.specs.Apart.{drawn_box, drawn_port}
use Rattle.level_model.specs.PortsKept.{port_side, port_offset, KeepsPorts as ChildKeepsPorts}
use Rattle.working_frame.specs.Rotated.{level_of, level_child, level_port, child_number, edge_number, port_number, ports_of, is_port_of, spoke_of, rotated_size, rotated_place, rotated_given, half_along, box_size}
use Rattle.working_frame.specs.Drawing.{plus}
use Rattle.working_frame.proofs.NumberedLemmas.{levels_are_listed}
use Rattle.rotated_levels.specs.Outlines.{shifted}
use Rattle.rotated_levels.specs.DockLaws.{IsFromLevel, IsAnchored}
use Rattle.rotated_levels.proofs.Numbering.{child_place, port_node, port_place_is, spoke_is}
use Rattle.rotated_levels.proofs.SideLemmas.{port_side_rotates, end_side_rotates}
use Rattle.rotated_levels.proofs.DockLemmas.{half_is, section_rotated}
use Rattle.rotated_levels.proofs.SideGeometry.{size_in, along_back, across_back, flush_back, middle_offset, offset_rotated, within_back, on_side_back, on_side_moved, offset_moved, clockwise_less, clockwise_same, clockwise_back}

still_some : (way : Direction) (given : Option Side) → is_some (rotated_given way given) ≡ is_some given
still_some way None = refl
still_some way (Some s) = refl

no_level : (level : Option LevelOptions) → not (is_some level) ≡ is_none level
no_level None = refl
no_level (Some o) = refl

module _ (d : Document) (p : Placed) (n : ℕ) (o : LevelOptions) (plan : PlainPlan) (v : LevelDrawing) (by : Point) (from : IsFromLevel d p n o plan v by)
    (orders : Orders) (anchored : IsAnchored (level_of d p n o) plan orders v) (i : ℕ) (there : i < length (children d n)) (kept : ChildKeepsPorts (level_of d p n o) plan orders v i) where
  abbrev l : PlainLevel
  l = level_of d p n o

  abbrev way : Direction
  way = o.direction

  -- the child in the document and in the level
  abbrev m : ℕ
  m = child_number d n i

  abbrev child : Child
  child = child_at l i

  pub child_is : child ≡ level_child d p way m
  child_is = (levels_are_listed d p n o).child i there

  port_is : (j : ℕ) → j < length (ports_of d m) → port_at child j ≡ level_port d way (box_size p m) (port_number d m j)
  port_is j h = (levels_are_listed d p n o).port i j there h

  pub port_in : (j : ℕ) → j < length (ports_of d m) → j < length child.ports
  port_in j h = let many = (levels_are_listed d p n o).port_count i there in omega (arith, h, many)

  pub size_is : child.size ≡ rotated_size way (box_size p m)
  size_is = ap (λ (c : Child). c.size) child_is

  loose_is : not child.compound ≡ is_leaf d m
  loose_is = ap (λ (c : Child). not c.compound) child_is ∙ no_level (node_at d m).level

  pub pinned_is : (j : ℕ) → j < length (ports_of d m) → is_pinned child j ≡ is_document_pinned d (port_number d m j)
  pinned_is j h =
      let k = port_number d m j in
      ap (λ (c : Child). pins c.rule (not c.compound) (is_some (port_at child j).side)) child_is
      ∙ ap₂ (λ leaf (q : ChildPort). pins (node_at d m).rule leaf (is_some q.side)) (no_level (node_at d m).level) (port_is j h)
      ∙ ap (pins (node_at d m).rule (is_leaf d m)) (still_some way (document_port d k).side)
      ∙ ap (λ c. pins (node_at d c).rule (is_leaf d c) (is_some (document_port d k).side)) (sym (port_node d m j h))

  pinned_leaf : (j : ℕ) → j < length (ports_of d m) → (is_pinned child j && not child.compound) ≡ (is_document_pinned d (port_number d m j) && is_leaf d (node_of_port d (port_number d m j)))
  pinned_leaf j h = ap₂ (λ a b. a && b) (pinned_is j h) (loose_is ∙ ap (is_leaf d) (sym (port_node d m j h)))

  -- the place of a port in the frame, as the document's box of its node has it
  place_is : (j : ℕ) → j < length (ports_of d m) → rotated_place way (box_size p (node_of_port d (port_number d m j))) (document_port d (port_number d m j)).size (document_place p (port_number d m j)) ≡ drawn_port v i j
  place_is j h =
      let k = port_number d m j in
      ap (λ c. rotated_place way (box_size p c) (document_port d k).size (document_place p k)) (port_node d m j h) ∙ (from.drawn.children i there).ports j h

  given_is : (j : ℕ) → j < length (ports_of d m) → (port_at child j).place ≡ rotated_place way (box_size p m) (document_port d (port_number d m j)).size (document_port d (port_number d m j)).place
  given_is j h = ap (λ (q : ChildPort). q.place) (port_is j h)

  pub side_is : (j : ℕ) → j < length (ports_of d m) → rotated_side way (side_of_port d p (port_number d m j)) ≡ port_side l plan i j
  side_is j h = port_side_rotates d p n o plan v by from i j there h

  half_at : (j : ℕ) (s : Side) → j < length (ports_of d m) → side_of_port d p (port_number d m j) ≡ s → (port_at child j).half ≡ half_along way (rotated_side way s) (rotated_size way (document_port d (port_number d m j)).size)
  half_at j s h same =
      sym (half_is d p n o plan v by from i j there h) ∙ ap (λ x. half_along way x (rotated_size way (document_port d (port_number d m j)).size)) (sym (side_is j h) ∙ ap (rotated_side way) same)

  -- the offset of a port's anchor
  pub offset_is : (j : ℕ) → j < length (ports_of d m)
      → port_offset child (port_side l plan i j) j (drawn_port v i j)
      ≡ rotated_offset way (side_of_port d p (port_number d m j)) (box_of p (node_of_port d (port_number d m j))) (document_offset d p (port_number d m j))
  offset_is j h =
      let k = port_number d m j in
      let s = side_of_port d p k in
      let r = box_of p (node_of_port d k) in
      let z = (document_port d k).size in
      let q = document_place p k in
      ap₂ (λ x y. along x y +ℤ (port_at child j).half) (sym (side_is j h)) (sym (place_is j h))
      ∙ ap (λ y. along (rotated_side way s) (rotated_place way (size_in r) z q) +ℤ y) (half_at j s h refl)
      ∙ offset_rotated way s r z q
      ∙ ap (rotated_offset way s r) (sym (middle_offset s r q z))

  -- the length of a side
  length_is : (c : ℕ) (s x : Side) → c ≡ m → rotated_side way s ≡ x → size_along x child.size ≡ size_along (rotated_side way s) (rotated_size way (box_size p c))
  length_is c s x own rotate = ap₂ size_along (sym rotate) (size_is ∙ ap (λ a. rotated_size way (box_size p a)) (sym own))

  pub port_kept : (j : ℕ) → j < length (ports_of d m) → KeepsPort d p (port_number d m j)
  port_kept j h =
      let k = port_number d m j in
      let s = side_of_port d p k in
      let c = node_of_port d k in
      let own = port_node d m j h in
      let r = box_of p c in
      let z = (document_port d k).size in
      let q = document_place p k in
      let g = (document_port d k).place in
      let side = port_side l plan i j in
      let rotate = side_is j h in
      let given : (port_at child j).place ≡ rotated_place way (box_size p c) z g = given_is j h ∙ ap (λ a. rotated_place way (box_size p a) z g) (sym own) in
      let port = kept.ports j (port_in j h) in
      record {
        along_kept = λ pinned. along_back way s (box_size p c) z q g (ap₂ along rotate (place_is j h) ∙ port.along_kept (pinned_is j h ∙ pinned) ∙ ap₂ along (sym rotate) given);
        across_kept = λ pinned. across_back way s (box_size p c) z q g (ap₂ across rotate (place_is j h) ∙ port.across_kept (pinned_leaf j h ∙ pinned) ∙ ap₂ across (sym rotate) given);
        flush_outside = λ loose. flush_back way s r z q
            (ap₂ across rotate (place_is j h)
            ∙ port.flush_outside (pinned_leaf j h ∙ loose)
            ∙ ap (λ x. flush x (rect_at origin child.size) (port_at child j).size) (sym rotate)
            ∙ ap₂ (λ b y. flush (rotated_side way s) (rect_at origin b) y) (size_is ∙ ap (λ a. rotated_size way (box_size p a)) (sym own)) (ap (λ (y : ChildPort). y.size) (port_is j h)));
        on_side = λ free. within_back way s r (document_offset d p k)
            (subst₂ (λ a b. IsWithin (pos 0) a b) (length_is c s side own rotate) (offset_is j h) (port.on_side (pinned_is j h ∙ free)));
      }

  -- ---- ends at the node

  box_is : rotated way (box_of p m) ≡ shifted by (drawn_box l v i)
  box_is = (from.drawn.children i there).box ∙ ap (λ s. shifted by (rect_at (point_or v.boxes i) s)) (sym size_is)

  pub end_spoke : (e : ℕ) (t : Bool) → e < length (edges_of d n) → end_of d (edge_number d n e) t ≡ AtNode m → ((spoke l (end_at e t)).child ≡ i) × ((spoke l (end_at e t)).port ≡ None)
  end_spoke e t h at =
      let s = spoke_is d p n o e t h ∙ ap (spoke_of d n) at in
      (ap (λ (x : EdgeEnd). x.child) s ∙ child_place d n i there, ap (λ (x : EdgeEnd). x.port) s)

  -- the offset of a section's end, on the side of its dock
  pub end_offset_is : (e : ℕ) (t : Bool) (s : Side) → e < length (edges_of d n) → offset_on (rotated_side way s) (drawn_box l v i) (anchor l plan orders v (end_at e t)) ≡ rotated_offset way s (box_of p m) (offset_on s (box_of p m) (section_end p (edge_number d n e) t))
  end_offset_is e t s h =
      let a = anchor l plan orders v (end_at e t) in
      let x = rotated_side way s in
      sym (offset_moved by x (drawn_box l v i) a)
      ∙ ap₂ (offset_on x) (sym box_is) (sym (section_rotated d p n o plan v by from orders anchored e t h))
      ∙ docks.offset way s (box_of p m) (section_end p (edge_number d n e) t)

  pub end_kept : (e : ℕ) (t : Bool) → e < length (edges_of d n) → end_of d (edge_number d n e) t ≡ AtNode m → KeepsEnd d p m (edge_number d n e) t
  end_kept e t h at =
      let f = edge_number d n e in
      let s = side_of_end d p f t in
      let q = end_spoke e t h at in
      let many = (levels_are_listed d p n o).edge_count in
      let end = kept.ends e t (omega (arith, h, many)) q.0 q.1 in
      let side = (dock_of l plan orders (end_at e t)).side in
      let rotate : rotated_side way s ≡ side = end_side_rotates d p n o plan v by from orders e t h in
      let a = anchor l plan orders v (end_at e t) in
      let c = (spoke l (end_at e t)).child in
      let point : rotated_point way (section_end p f t) ≡ plus by a = section_rotated d p n o plan v by from orders anchored e t h in
      let line : IsOnSide side (rotated way (box_of p m)) (rotated_point way (section_end p f t)) =
      subst₂ (λ r y. IsOnSide side r y) (ap (λ b. shifted by (drawn_box l v b)) q.0 ∙ sym box_is) (sym point) (on_side_moved by side (drawn_box l v c) a end.on_line)
      in
      let offset : offset_on side (drawn_box l v c) a ≡ rotated_offset way s (box_of p m) (offset_on s (box_of p m) (section_end p f t)) =
      ap₂ (λ x b. offset_on x (drawn_box l v b) a) (sym rotate) q.0 ∙ end_offset_is e t s h
      in
      record {
        on_line = on_side_back way s (box_of p m) (section_end p f t) (subst (λ x. IsOnSide x (rotated way (box_of p m)) (rotated_point way (section_end p f t))) (sym rotate) line);
        on_side = within_back way s (box_of p m) (offset_on s (box_of p m) (section_end p f t))
            (subst₂ (λ x y. IsWithin (pos 0) x y) (ap (λ b. size_along side (child_at l b).size) q.0 ∙ length_is m s side refl rotate) offset end.on_side);
      }

  -- ---- orders

  -- the given place of a port's anchor, counted clockwise
  given_place : (j : ℕ) (s : Side) → j < length (ports_of d m) → side_of_port d p (port_number d m j) ≡ s
      → given_at child (rotated_side way s) j
      ≡ counted (is_forward way (rotated_side way s)) (rotated_offset way s (box_of p m) (along s (document_port d (port_number d m j)).place +ℤ half_of (size_along s (document_port d (port_number d m j)).size)))
  given_place j s h same =
      let k = port_number d m j in
      let z = (document_port d k).size in
      let g = (document_port d k).place in
      ap (λ (c : Child). counted (is_forward c.direction (rotated_side way s)) (along (rotated_side way s) (port_at child j).place +ℤ (port_at child j).half)) child_is
      ∙ ap₂ (λ x y. counted (is_forward way (rotated_side way s)) (along (rotated_side way s) x +ℤ y)) (given_is j h) (half_at j s h same)
      ∙ ap (counted (is_forward way (rotated_side way s))) (offset_rotated way s (box_of p m) z g)

  document_given : (j : ℕ) (s : Side) → side_of_port d p (port_number d m j) ≡ s
      → given_clockwise d p (port_number d m j) ≡ clockwise s (along s (document_port d (port_number d m j)).place +ℤ half_of (size_along s (document_port d (port_number d m j)).size))
  document_given j s same =
      let k = port_number d m j in
      ap (λ x. clockwise x (along x (document_port d k).place +ℤ half_of (size_along x (document_port d k).size))) same

  index_is : (j : ℕ) → j < length (ports_of d m) → (port_at child j).index ≡ (document_port d (port_number d m j)).index
  index_is j h = ap (λ (q : ChildPort). q.index) (port_is j h)

  -- ports of one node stand in the order of their numbers
  place_first : (j k : ℕ) → j < length (ports_of d m) → k < length (ports_of d m) → port_number d m j < port_number d m k → j < k
  place_first j k hj hk less =
      let a = port_number d m j in
      let b = port_number d m k in
      let own = port_node d m j hj in
      let first : count_below (is_port_of d m) a ≡ j = ap (λ c. count_below (is_port_of d c) a) (sym own) ∙ port_place_is d m j hj in
      let second : count_below (is_port_of d m) b ≡ k = ap (λ c. count_below (is_port_of d c) b) (sym (port_node d m k hk)) ∙ port_place_is d m k hk in
      let order = count_below-lt (is_port_of d m) a b less (eq-eqb (node_of_port d a) m own) in
      omega (arith, first, second, order)

  comes_first : (j k : ℕ) (s : Side) → j < length (ports_of d m) → k < length (ports_of d m) → side_of_port d p (port_number d m j) ≡ s → side_of_port d p (port_number d m k) ≡ s
      → ComesBefore d p (port_number d m j) (port_number d m k) → ClockwiseFirst child (rotated_side way s) j j k k
  comes_first j k s hj hk first second before =
      let a = port_number d m j in
      let b = port_number d m k in
      let r = box_of p m in
      let x = along s (document_port d a).place +ℤ half_of (size_along s (document_port d a).size) in
      let y = along s (document_port d b).place +ℤ half_of (size_along s (document_port d b).size) in
      let side = rotated_side way s in
      let at_j = given_place j s hj first in
      let at_k = given_place k s hk second in
      let in_j = document_given j s first in
      let in_k = document_given k s second in
      ⊎_elim
      (λ (less : (document_port d a).index <ℤ (document_port d b).index). inl (subst₂ (λ u w. u <ℤ w) (sym (index_is j hj)) (sym (index_is k hk)) less))
      (λ (later : ((document_port d a).index ≡ (document_port d b).index) × ((given_clockwise d p a <ℤ given_clockwise d p b) ⊎ ((given_clockwise d p a ≡ given_clockwise d p b) × (a < b)))).
      inr (
        index_is j hj ∙ later.0 ∙ sym (index_is k hk),
        ⊎_elim
            (λ (less : given_clockwise d p a <ℤ given_clockwise d p b). inl (subst₂ (λ u w. u <ℤ w) (sym at_j) (sym at_k) (clockwise_less way s r x y (subst₂ (λ u w. u <ℤ w) in_j in_k less))))
            (λ (last : (given_clockwise d p a ≡ given_clockwise d p b) × (a < b)). inr (at_j ∙ clockwise_same way s r x y (sym in_j ∙ last.0 ∙ in_k) ∙ sym at_k, place_first j k hj hk last.1))
            later.1,
      ))
      before

  pub order_kept : (j k : ℕ) → (node_at d m).rule ≡ FixedOrder → j < length (ports_of d m) → k < length (ports_of d m) → AreInOrder d p (port_number d m j) (port_number d m k)
  order_kept j k rule hj hk same before =
      let a = port_number d m j in
      let b = port_number d m k in
      let s = side_of_port d p b in
      let r = box_of p m in
      let rotate = side_is k hk in
      let sides : port_side l plan i j ≡ port_side l plan i k = sym (side_is j hj) ∙ ap (rotated_side way) same ∙ rotate in
      let first : ClockwiseFirst child (port_side l plan i k) j j k k = subst (λ x. ClockwiseFirst child x j j k k) rotate (comes_first j k s hj hk same refl before) in
      let less = kept.order j k (ap (λ (c : Child). c.rule) child_is ∙ rule) (port_in j hj) (port_in k hk) sides first in
      let forward : is_forward child.direction (port_side l plan i k) ≡ is_forward way (rotated_side way s) = ap₂ is_forward (ap (λ (c : Child). c.direction) child_is) (sym rotate) in
      let at_j : port_offset child (port_side l plan i j) j (drawn_port v i j) ≡ rotated_offset way s r (document_offset d p a) =
      offset_is j hj ∙ ap₂ (λ x c. rotated_offset way x (box_of p c) (document_offset d p a)) same (port_node d m j hj)
      in
      let at_k : port_offset child (port_side l plan i k) k (drawn_port v i k) ≡ rotated_offset way s r (document_offset d p b) =
      offset_is k hk ∙ ap (λ c. rotated_offset way s (box_of p c) (document_offset d p b)) (port_node d m k hk)
      in
      let back = clockwise_back way s r (document_offset d p a) (document_offset d p b) (subst₂ (λ x y. x ≤ℤ y) (ap₂ counted forward at_j) (ap₂ counted forward at_k) less) in
      subst (λ x. clockwise x (document_offset d p a) ≤ℤ clockwise s (document_offset d p b)) (sym same) back
