-- Spread ports and ends of a node keep apart: those of the level are no more than the document's, and have its offsets.
use Rattle.std.proofs.Common.{◌≡◌, ℕ, ◌+◌, ◌<◌, ◌≤◌, eqb, Bool, true, false, not, ◌&&◌, List, ◌++◌, map, length, ℤ, pos, ◌<ℤ◌, refl, sym, subst, subst₂, ap, ap₂, ◌∙◌, arith}
use Rattle.std.proofs.lemmas.Int.{ints}
use Rattle.std.proofs.lemmas.Bool.{and_parts, and_from, eqb-true, eq-eqb, not-true, false≢true}
use Rattle.std.proofs.lemmas.List.{length-map, length-append}
use Rattle.std.proofs.lemmas.List.Elements.{filter-append}
use Rattle.std.specs.Prelude.{Option, None, Some, is_none}
use Rattle.std.specs.List.{filter, range_with_len}
use Rattle.drawing_types.specs.declared.shape.Point.{Point}
use Rattle.drawing_types.specs.declared.shape.Side.{Side}
use Rattle.elk_doc.specs.declared.document.Direction.{Direction}
use Rattle.elk_doc.specs.declared.document.End.{End as DocumentEnd}
use Rattle.elk_doc.specs.declared.document.End.TheVariants.{Node as AtNode, Port as AtPort}
use Rattle.elk_doc.specs.declared.document.LevelOptions.{LevelOptions}
use Rattle.elk_doc.specs.declared.drawing.Placed.{Placed}
use Rattle.elk_doc.specs.Document.{Document, node_of_port}
use Rattle.elk_doc.specs.Level.{children, edges_of, IsChild, IsEdge, node_of_end, place_of_child, place_of_edge}
use Rattle.elk_doc.specs.Numbers.{numbers_below, count_below}
use Rattle.elk_doc.specs.Drawing.{box_of}
use Rattle.elk_doc.specs.Sides.{side_of_port, side_of_end, end_of}
use Rattle.elk_doc.specs.PortsKept.{AreInOrder, size_along, side_length, is_pinned as is_document_pinned, port_offset as document_offset, KeepsPort, KeepsEnd, is_at_node, is_spread_port, is_spread_end, spread_count as document_count, IsSpread, spot_offset, SpreadsApart, KeepsPorts, Spot as Place, a_port, an_end}
use Rattle.drawing_types.specs.Shapes.{is_side}
use Rattle.elk_doc.specs.Places.{offset_on, section_end}
use Rattle.elk_doc.proofs.NumberLaws.{length-numbers_below}
use Rattle.drawing_laws.specs.Rotating.{rotated_side}
use Rattle.drawing_laws.specs.Frames.{side_back, rotated_offset}
use Rattle.drawing_laws.proofs.FrameLaws.{backs}
use Rattle.port_order.specs.declared.children.Child.{Child}
use Rattle.port_order.specs.Child.{is_pinned}
use Rattle.port_order.specs.Sides.{side_of}
use Rattle.port_order.specs.Ranks.{is_spread_on}
use Rattle.level_model.specs.declared.level.EdgeEnd.{EdgeEnd}
use Rattle.level_model.specs.Level.{PlainLevel, PlainPlan, Orders, End, end_at, spoke, child_at, all_ends, implicit_ends, port_spot, implicit_spot, spot_at_port}
use Rattle.level_model.specs.FromPlan.{LevelDrawing}
use Rattle.level_model.specs.PortsKept.{port_side, IsSpreadAt, drawn_offset, spread_count, KeepsPorts as ChildKeepsPorts}
use Rattle.level_model.proofs.Lists.{Has, has_left, has_right, has_map, filter_has, below_has}
use Rattle.level_model.proofs.FirstPlaces.{distinct_filter}
use Rattle.level_model.proofs.NumberedSpots.{implicit_distinct}
use Rattle.level_model.proofs.NameLemmas.{ends_edge}
use Rattle.working_frame.specs.Rotated.{level_of, child_number, edge_number, port_number, ports_of, place_of_port, spoke_of}
use Rattle.working_frame.proofs.NumberedLemmas.{levels_are_listed}
use Rattle.rotated_levels.specs.DockLaws.{IsFromLevel, IsAnchored}
use Rattle.rotated_levels.proofs.Numbering.{child_there, child_back, edge_there, edge_place, edge_back, edge_of_child, end_child, port_there, port_node, port_place_is, port_back, spoke_is}
use Rattle.rotated_levels.proofs.SideLemmas.{end_side_rotates}
use Rattle.rotated_levels.specs.PortLaws.{PortsRotateBack}
use Rattle.rotated_levels.proofs.SideGeometry.{length_rotated}
use Rattle.rotated_levels.proofs.CountLemmas.{distinct_range, no_more_by, has_number, end_code, codes_differ}
use Rattle.rotated_levels.proofs.KeptLemmas.{port_in, size_is, pinned_is, side_is, offset_is, port_kept, end_spoke, end_offset_is, end_kept, order_kept}
use Rattle.port_order.proofs.OrderLemmas.{side_same, side_itself}
use Rattle.level_nets.proofs.Gaps.{filter_mapped}

-- sides that agree in the frame do so in the document
side_injective : (way : Direction) (s t : Side) → rotated_side way s ≡ rotated_side way t → s ≡ t
side_injective way s t e = sym (backs.side way s).0 ∙ ap (side_back way) e ∙ (backs.side way t).0

side_test : (way : Direction) (s t x : Side) → rotated_side way s ≡ x → is_side x (rotated_side way t) ≡ true → is_side s t ≡ true
side_test way s t x rotate e = subst (λ y. is_side s y ≡ true) (side_injective way s t (rotate ∙ side_same x (rotated_side way t) e)) (side_itself s)

at_node-from : (x : DocumentEnd) (m : ℕ) → x ≡ AtNode m → is_at_node x m ≡ true
at_node-from x m e = rw e (eq-eqb m m refl)

at_node-is : (x : DocumentEnd) (m : ℕ) → is_at_node x m ≡ true → x ≡ AtNode m
at_node-is (AtNode c) m e = ap AtNode (eqb-true c m e)
at_node-is (AtPort k) m e = absurd (false≢true e)

none_is : (o : Option ℕ) → is_none o ≡ true → o ≡ None
none_is None h = refl
none_is (Some k) h = absurd (false≢true h)

module _ (d : Document) (p : Placed) (n : ℕ) (o : LevelOptions) (plan : PlainPlan) (v : LevelDrawing) (by : Point) (from : IsFromLevel d p n o plan v by)
    (orders : Orders) (anchored : IsAnchored (level_of d p n o) plan orders v) (i : ℕ) (there : i < length (children d n)) (kept : ChildKeepsPorts (level_of d p n o) plan orders v i) where
  abbrev l : PlainLevel
  l = level_of d p n o

  abbrev way : Direction
  way = o.direction

  abbrev m : ℕ
  m = child_number d n i

  abbrev child : Child
  child = child_at l i

  -- an end of an edge of the level, without a port, at this child
  end_at_node : (e : ℕ) (t : Bool) → e < length (edges_of d n) → (spoke l (end_at e t)).child ≡ i → (spoke l (end_at e t)).port ≡ None → end_of d (edge_number d n e) t ≡ AtNode m
  end_at_node e t h node port = step (end_of d (edge_number d n e) t) (sym (spoke_is d p n o e t h)) (end_child d n (edge_number d n e) t from.sound (edge_there d n e h))
    where
      step : (x : DocumentEnd) → spoke_of d n x ≡ spoke l (end_at e t) → IsChild d n (node_of_end d x) → x ≡ AtNode m
      step (AtNode c) s is_child = let place = child_back d n c is_child in ap AtNode (sym place.1 ∙ ap (child_number d n) (ap (λ (y : EdgeEnd). y.child) s ∙ node))
      step (AtPort k) s is_child = absurd (let bad : Some (place_of_port d k) ≡ None = ap (λ (y : EdgeEnd). y.port) s ∙ port in cc)

  -- the side of such an end
  end_side : (e : ℕ) (t : Bool) → e < length (edges_of d n) → (spoke l (end_at e t)).child ≡ i → (spoke l (end_at e t)).port ≡ None
      → rotated_side way (side_of_end d p (edge_number d n e) t) ≡ side_of child (implicit_spot l plan i (end_at e t))
  end_side e t h node port =
      end_side_rotates d p n o plan v by from orders e t h
      ∙ ap₂ (λ c k. side_of (child_at l c) (spot_at_port l plan c (end_at e t) k)) node port

  -- ---- the level's spread spots are no more than the document's

  few_ports_spread : (s : Side) → length (filter (λ j. is_spread_on child (rotated_side way s) (port_spot l plan i j)) (range_with_len 0 (length child.ports))) ≤ count_below (is_spread_port d p m s) (length d.ports)
  few_ports_spread s =
      let test : ℕ → Bool = λ j. is_spread_on child (rotated_side way s) (port_spot l plan i j) in
      let total = length-numbers_below (is_spread_port d p m s) (length d.ports) in
      let less = no_more_by (port_number d m) (filter test (range_with_len 0 (length child.ports))) (numbers_below (is_spread_port d p m s) (length d.ports))
      (distinct_filter test (range_with_len 0 (length child.ports)) (distinct_range 0 (length child.ports)))
      (λ a b ha hb e. sym (port_place_is d m a (within a (filter_has test (range_with_len 0 (length child.ports)) a ha).0)) ∙ ap (place_of_port d) e ∙ port_place_is d m b (within b (filter_has test (range_with_len 0 (length child.ports)) b hb).0))
      (λ j has. let f = filter_has test (range_with_len 0 (length child.ports)) j has in found j (within j f.0) f.1)
      in
      omega (arith, total, less)
    where
      within : (j : ℕ) → Has (range_with_len 0 (length child.ports)) j → j < length (ports_of d m)
      within j has = let less = below_has (length child.ports) j has in let many = (levels_are_listed d p n o).port_count i there in omega (arith, less, many)

      found : (j : ℕ) → j < length (ports_of d m) → is_spread_on child (rotated_side way s) (port_spot l plan i j) ≡ true → Has (numbers_below (is_spread_port d p m s) (length d.ports)) (port_number d m j)
      found j h test =
          let k = port_number d m j in
          let q = and_parts (not (is_pinned child j)) (is_side (port_side l plan i j) (rotated_side way s)) test in
          has_number (is_spread_port d p m s) (length d.ports) k (port_there d m j h)
          (and_from (eqb (node_of_port d k) m) (not (is_document_pinned d k) && is_side (side_of_port d p k) s) (eq-eqb (node_of_port d k) m (port_node d m j h))
          (and_from (not (is_document_pinned d k)) (is_side (side_of_port d p k) s) (ap not (sym (pinned_is d p n o plan v by from orders anchored i there kept j h)) ∙ q.0)
          (side_test way (side_of_port d p k) s (port_side l plan i j) (side_is d p n o plan v by from orders anchored i there kept j h) q.1)))

  -- the document's spread ends on a side, as numbers
  abbrev spread_ends : Side → Bool → List ℕ
  spread_ends s t = numbers_below (is_spread_end d p m s t) (length d.edges)

  abbrev coded_ends : Side → List ℕ
  coded_ends s = map (λ e. end_code e true) (spread_ends s true) ++ map (λ e. end_code e false) (spread_ends s false)

  coded_has : (s : Side) (e : ℕ) (t : Bool) → Has (spread_ends s t) e → Has (coded_ends s) (end_code e t)
  coded_has s e true h = has_left (map (λ e. end_code e true) (spread_ends s true)) (map (λ e. end_code e false) (spread_ends s false)) (end_code e true) (has_map (λ e. end_code e true) (spread_ends s true) e h)
  coded_has s e false h = has_right (map (λ e. end_code e true) (spread_ends s true)) (map (λ e. end_code e false) (spread_ends s false)) (end_code e false) (has_map (λ e. end_code e false) (spread_ends s false) e h)

  abbrev code_of : End → ℕ
  code_of k = end_code (edge_number d n k.edge) k.at_source

  few_ends_spread : (s : Side) → length (filter (λ k. is_spread_on child (rotated_side way s) (implicit_spot l plan i k)) (implicit_ends l i)) ≤ count_below (is_spread_end d p m s true) (length d.edges) + count_below (is_spread_end d p m s false) (length d.edges)
  few_ends_spread s =
      let test : End → Bool = λ k. is_spread_on child (rotated_side way s) (implicit_spot l plan i k) in
      let sources = length-numbers_below (is_spread_end d p m s true) (length d.edges) in
      let targets = length-numbers_below (is_spread_end d p m s false) (length d.edges) in
      let first = length-map (spread_ends s true) (λ e. end_code e true) in
      let second = length-map (spread_ends s false) (λ e. end_code e false) in
      let both = length-append (map (λ e. end_code e true) (spread_ends s true)) (map (λ e. end_code e false) (spread_ends s false)) in
      let less = no_more_by code_of (filter test (implicit_ends l i)) (coded_ends s)
      (distinct_filter test (implicit_ends l i) (implicit_distinct l i))
      (λ a b ha hb e. one_end a b (known a (filter_has test (implicit_ends l i) a ha).0).0 (known b (filter_has test (implicit_ends l i) b hb).0).0 e)
      (λ k has. let f = filter_has test (implicit_ends l i) k has in let q = known k f.0 in found k.edge k.at_source q.0 q.1 q.2 f.1)
      in
      omega (arith, sources, targets, first, second, both, less)
    where
      known : (k : End) → Has (implicit_ends l i) k → (k.edge < length (edges_of d n)) × ((spoke l k).child ≡ i) × ((spoke l k).port ≡ None)
      known k has =
          let f = filter_has (λ z. eqb (spoke l z).child i && is_none (spoke l z).port) (all_ends l) k has in
          let q = and_parts (eqb (spoke l k).child i) (is_none (spoke l k).port) f.1 in
          let less = below_has (length l.edges) k.edge (ends_edge (range_with_len 0 (length l.edges)) k f.0) in
          let many = (levels_are_listed d p n o).edge_count in
          (omega (arith, less, many), eqb-true (spoke l k).child i q.0, none_is (spoke l k).port q.1)

      one_end : (a b : End) → a.edge < length (edges_of d n) → b.edge < length (edges_of d n) → code_of a ≡ code_of b → a ≡ b
      one_end a b ha hb e =
          let q = codes_differ (edge_number d n a.edge) (edge_number d n b.edge) a.at_source b.at_source e in
          ap₂ end_at (sym (edge_place d n a.edge ha) ∙ ap (place_of_edge d n) q.0 ∙ edge_place d n b.edge hb) q.1

      found : (e : ℕ) (t : Bool) → e < length (edges_of d n) → (spoke l (end_at e t)).child ≡ i → (spoke l (end_at e t)).port ≡ None
          → is_spread_on child (rotated_side way s) (implicit_spot l plan i (end_at e t)) ≡ true → Has (coded_ends s) (end_code (edge_number d n e) t)
      found e t h node port test =
          let f = edge_number d n e in
          let on : is_side (side_of_end d p f t) s ≡ true = side_test way (side_of_end d p f t) s (side_of child (implicit_spot l plan i (end_at e t))) (end_side e t h node port) test in
          coded_has s f t
          (has_number (is_spread_end d p m s t) (length d.edges) f (edge_there d n e h).edge_in
          (and_from (is_at_node (end_of d f t) m) (is_side (side_of_end d p f t) s) (at_node-from (end_of d f t) m (end_at_node e t h node port)) on))

  no_more_spread : (s : Side) → spread_count l plan i (rotated_side way s) ≤ document_count d p m s
  no_more_spread s =
      let test = is_spread_on child (rotated_side way s) in
      let at_ports = map (port_spot l plan i) (range_with_len 0 (length child.ports)) in
      let at_ends = map (implicit_spot l plan i) (implicit_ends l i) in
      let parts = ap length (filter-append test at_ports at_ends) ∙ length-append (filter test at_ports) (filter test at_ends) in
      let ports = filter_mapped test (port_spot l plan i) (range_with_len 0 (length child.ports)) in
      let ends = filter_mapped test (implicit_spot l plan i) (implicit_ends l i) in
      let few_ports = few_ports_spread s in
      let few_ends = few_ends_spread s in
      omega (arith, parts, ports, ends, few_ports, few_ends)

  -- ---- spread spots of the document in the level

  abbrev in_level : Place → Place
  in_level (a_port k) = a_port (place_of_port d k)
  in_level (an_end e t) = an_end (place_of_edge d n e) t

  abbrev in_document : Place → Place
  in_document (a_port j) = a_port (port_number d m j)
  in_document (an_end e t) = an_end (edge_number d n e) t

  edge_at_node : (e : ℕ) (t : Bool) → e < length d.edges → end_of d e t ≡ AtNode m → IsEdge d n e
  edge_at_node e t h at = edge_of_child d n e m t from.sound h (ap (node_of_end d) at) (child_there d n i there)

  -- what is said of a port or end of the document, at its place in the level
  record InLevel (s : Side) (x : Place) : Type 0 where
    back : in_document (in_level x) ≡ x
    spread : IsSpreadAt l plan orders i (rotated_side way s) (in_level x)
    offset : drawn_offset l plan orders v i (rotated_side way s) (in_level x) ≡ rotated_offset way s (box_of p m) (spot_offset d p m s x)

  port_in_level : (s : Side) (j : ℕ) → j < length (ports_of d m) → is_document_pinned d (port_number d m j) ≡ false → side_of_port d p (port_number d m j) ≡ s
      → IsSpreadAt l plan orders i (rotated_side way s) (a_port j) × (drawn_offset l plan orders v i (rotated_side way s) (a_port j) ≡ rotated_offset way s (box_of p m) (document_offset d p (port_number d m j)))
  port_in_level s j h free same =
      let k = port_number d m j in
      let side : port_side l plan i j ≡ rotated_side way s = sym (side_is d p n o plan v by from orders anchored i there kept j h) ∙ ap (rotated_side way) same in (
        (port_in d p n o plan v by from orders anchored i there kept j h, pinned_is d p n o plan v by from orders anchored i there kept j h ∙ free, side),
        subst₂ (λ x y. drawn_offset l plan orders v i x (a_port j) ≡ y) side (ap₂ (λ x c. rotated_offset way x (box_of p c) (document_offset d p k)) same (port_node d m j h)) (offset_is d p n o plan v by from orders anchored i there kept j h),
      )

  end_in_level : (s : Side) (e : ℕ) (t : Bool) → e < length (edges_of d n) → end_of d (edge_number d n e) t ≡ AtNode m → side_of_end d p (edge_number d n e) t ≡ s
      → IsSpreadAt l plan orders i (rotated_side way s) (an_end e t)
  end_in_level s e t h at same =
      let many = (levels_are_listed d p n o).edge_count in
      let q = end_spoke d p n o plan v by from orders anchored i there kept e t h at in
      (omega (arith, h, many), q.0, q.1, sym (end_side_rotates d p n o plan v by from orders e t h) ∙ ap (rotated_side way) same)

  spot_in_level : (s : Side) (x : Place) → IsSpread d p m s x → InLevel s x
  spot_in_level s (a_port k) h =
      let q = and_parts (eqb (node_of_port d k) m) (not (is_document_pinned d k) && is_side (side_of_port d p k) s) h.1 in
      let r = and_parts (not (is_document_pinned d k)) (is_side (side_of_port d p k) s) q.1 in
      let b = port_back d m k h.0 (eqb-true (node_of_port d k) m q.0) in
      let made = port_in_level s (place_of_port d k) b.0 (ap (is_document_pinned d) b.1 ∙ not-true (is_document_pinned d k) r.0) (ap (side_of_port d p) b.1 ∙ side_same (side_of_port d p k) s r.1) in
      record { back = ap a_port b.1; spread = made.0; offset = made.1 ∙ ap (λ z. rotated_offset way s (box_of p m) (document_offset d p z)) b.1 }
  spot_in_level s (an_end e t) h =
      let q = and_parts (is_at_node (end_of d e t) m) (is_side (side_of_end d p e t) s) h.1 in
      let at = at_node-is (end_of d e t) m q.0 in
      let b = edge_back d n e (edge_at_node e t h.0 at) in
      record {
        back = ap (λ f. an_end f t) b.1;
        spread = end_in_level s (place_of_edge d n e) t b.0 (ap (λ f. end_of d f t) b.1 ∙ at) (ap (λ f. side_of_end d p f t) b.1 ∙ side_same (side_of_end d p e t) s q.1);
        offset = end_offset_is d p n o plan v by from orders anchored i there kept (place_of_edge d n e) t s b.0 ∙ ap (λ f. rotated_offset way s (box_of p m) (offset_on s (box_of p m) (section_end p f t))) b.1;
      }

  spread_apart : SpreadsApart d p m
  spread_apart s x y long hx hy differ same =
      let a = spot_in_level s x hx in
      let b = spot_in_level s y hy in
      let few = no_more_spread s in
      let length_is : size_along (rotated_side way s) child.size ≡ side_length s (box_of p m) = ap (size_along (rotated_side way s)) (size_is d p n o plan v by from orders anchored i there kept) ∙ length_rotated way s (box_of p m) in
      kept.spread (rotated_side way s) (in_level x) (in_level y) (subst (λ z. pos (spread_count l plan i (rotated_side way s)) <ℤ z) (sym length_is) (roomy _ _ _ few long)) a.spread b.spread
      (λ one. differ (sym a.back ∙ ap in_document one ∙ b.back))
      (a.offset ∙ ap (rotated_offset way s (box_of p m)) same ∙ sym b.offset)
    where
      roomy : (a b : ℕ) (z : ℤ) → a ≤ b → pos b <ℤ z → pos a <ℤ z
      roomy a b z h k = omega (arith, ints, h, k)

  -- ---- all of it, by numbers of the document

  pub child_keeps : KeepsPorts d p m
  child_keeps =
      record {
        ports = λ k h own. let b = port_back d m k h own in subst (λ z. KeepsPort d p z) b.1 (port_kept d p n o plan v by from orders anchored i there kept (place_of_port d k) b.0);
        ends = λ e t h at. let b = edge_back d n e (edge_at_node e t h at) in
            subst (λ z. KeepsEnd d p m z t) b.1 (end_kept d p n o plan v by from orders anchored i there kept (place_of_edge d n e) t b.0 (ap (λ f. end_of d f t) b.1 ∙ at));
        order = λ rule j k hj hk own_j own_k. let a = port_back d m j hj own_j in
            let b = port_back d m k hk own_k in
            subst (AreInOrder d p j) b.1 (subst (λ z. AreInOrder d p z (port_number d m (place_of_port d k))) a.1 (order_kept d p n o plan v by from orders anchored i there kept (place_of_port d j) (place_of_port d k) rule a.0 b.0));
        spread = spread_apart;
      }

pub ports_rotate_back : PortsRotateBack
ports_rotate_back d p n o plan orders v by from anchored kept m is_child =
    let b = child_back d n m is_child in
    let many = (levels_are_listed d p n o).child_count in
    let less = b.0 in
    subst (KeepsPorts d p) b.1 (child_keeps d p n o plan v by from orders anchored (place_of_child d n m) b.0 (kept (place_of_child d n m) (omega (arith, less, many))))
