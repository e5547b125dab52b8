-- The sides of ports and of edges' ends are those of the level.
use Rattle.std.proofs.Common.{◌≡◌, ⊎_elim, ℕ, zero, suc, ◌<◌, eqb, cond, Bool, true, false, not, ◌&&◌, [], ◌∷◌, map, length, refl, sym, subst, ap, ap₂, ◌∙◌, arith}
use Rattle.std.proofs.lemmas.Bool.{and_parts, and_from, or_cases, eqb-true, eq-eqb, false≢true}
use Rattle.std.specs.Prelude.{Option, None, Some, is_some, is_none, IsNone, if◌then◌else◌}
use Rattle.std.specs.List.{list_any, range_with_len}
use Rattle.std.specs.Option.{option_map}
use Rattle.drawing_types.specs.declared.shape.Point.{Point}
use Rattle.drawing_types.specs.declared.shape.Size.{Size}
use Rattle.drawing_types.specs.declared.shape.Side.{Side}
use Rattle.elk_doc.specs.declared.document.Direction.{Direction}
use Rattle.elk_doc.specs.declared.document.Direction.TheVariants.{Right, Left, Down, Up}
use Rattle.elk_doc.specs.declared.document.PortRule.{PortRule}
use Rattle.elk_doc.specs.declared.document.PortRule.TheVariants.{Free, FixedSide, FixedOrder, FixedPos}
use Rattle.elk_doc.specs.declared.document.End.{End as DocumentEnd}
use Rattle.elk_doc.specs.declared.document.End.TheVariants.{Node as AtNode, Port as AtPort}
use Rattle.elk_doc.specs.declared.document.LevelOptions.{LevelOptions}
use Rattle.elk_doc.specs.declared.drawing.Placed.{Placed}
use Rattle.elk_doc.specs.Document.{Document, node_at, edge_at, node_of_port, direction_of, frame_of, port_at as document_port}
use Rattle.elk_doc.specs.Level.{children, edges_of, IsChild, IsEdge, node_of_end, place_of_child, place_of_edge, is_loop as is_document_loop}
use Rattle.elk_doc.specs.Numbers.{any_below}
use Rattle.elk_doc.specs.Drawing.{certificate_of, lists, is_listed}
use Rattle.elk_doc.specs.Sides.{side_from, side_by_place, side_or, side_at, side_of_port, is_at_port, enters_port, leaves_port, is_entered, is_left, end_of, enters_at, given_side as document_side}
use Rattle.elk_doc.specs.Sound.{IsEndIn}
use Rattle.elk_doc.proofs.NumberLaws.{any_below-true}
use Rattle.drawing_laws.specs.Rotating.{rotated_side}
use Rattle.drawing_laws.proofs.RotatingLaws.{sides}
use Rattle.port_order.specs.Child.{port_at}
use Rattle.port_order.specs.Sides.{side_of_place, given_side, side_else, side_of}
use Rattle.port_order.proofs.RotatedLemmas.{directions_rotate}
use Rattle.level_model.specs.declared.level.EdgeEnd.{EdgeEnd}
use Rattle.level_model.specs.Level.{PlainLevel, PlainPlan, Orders, End, end_at, spoke, child_at, holds, is_loop, enters, is_port, all_ends, ends_at_port, linked, port_spot, spot_at_port}
use Rattle.level_model.specs.FromPlan.{LevelDrawing}
use Rattle.level_model.specs.PortsKept.{port_side}
use Rattle.level_model.proofs.Lists.{Has, has_filter, filter_has, has_map, map_has, below_has, any_has, has_any}
use Rattle.level_model.proofs.NameLemmas.{ends_edge}
use Rattle.level_model.proofs.SpotLemmas.{at_port}
use Rattle.working_frame.specs.Rotated.{level_of, level_child, child_number, edge_number, port_number, ports_of, place_of_port, spoke_of, rotated_size, rotated_place, rotated_given, box_size}
use Rattle.rotated_levels.specs.DockLaws.{IsFromLevel, PortSideRotates, EndSideRotates, SidesRotateBack}
use Rattle.working_frame.proofs.NumberedLemmas.{levels_are_listed}
use Rattle.rotated_levels.proofs.Numbering.{child_there, child_place, child_back, child_parent, same_child, edge_there, edge_place, edge_back, edge_level, end_child, edge_of_child, port_node, port_place_is, port_back, end_in, spoke_is, same_test}

-- ---- tests

any_found : (p : ℕ → Bool) (m : ℕ) → any_below p m ≡ true → (e : ℕ) × (e < m) × (p e ≡ true)
unfolding any_below
any_found p zero h = absurd (false≢true h)
any_found p (suc m) h =
    ⊎_elim (λ a. let f = any_found p m a in (f.0, (let less = f.1 in omega (arith, less)), f.2)) (λ b. (m, omega arith, b)) (or_cases (any_below p m) (p m) h)

at_port_is : (x : DocumentEnd) (k : ℕ) → is_at_port x k ≡ true → x ≡ AtPort k
at_port_is (AtNode c) k h = absurd (false≢true h)
at_port_is (AtPort j) k h = ap AtPort (eqb-true j k h)

is_at_port-from : (x : DocumentEnd) (k : ℕ) → x ≡ AtPort k → is_at_port x k ≡ true
is_at_port-from x k e = rw e (eq-eqb k k refl)

-- the end at which the oriented edge enters its node, and the one at which it leaves
head_is : (b : Bool) (s t : DocumentEnd) (d : Document) (e : ℕ) → end_of d e true ≡ s → end_of d e false ≡ t → (if b then s else t) ≡ end_of d e b
head_is true s t d e hs ht = sym hs
head_is false s t d e hs ht = sym ht

tail_is : (b : Bool) (s t : DocumentEnd) (d : Document) (e : ℕ) → end_of d e true ≡ s → end_of d e false ≡ t → (if b then t else s) ≡ end_of d e (not b)
tail_is true s t d e hs ht = sym ht
tail_is false s t d e hs ht = sym hs

enters_is : (t b : Bool) → cond t b (not b) ≡ true → t ≡ b
enters_is true true h = refl
enters_is true false h = absurd (false≢true h)
enters_is false true h = absurd (false≢true h)
enters_is false false h = refl

leaves_is : (t b : Bool) → not (cond t b (not b)) ≡ true → t ≡ not b
leaves_is true true h = absurd (false≢true h)
leaves_is true false h = refl
leaves_is false true h = refl
leaves_is false false h = absurd (false≢true h)

it_enters : (b : Bool) → cond b b (not b) ≡ true
it_enters true = refl
it_enters false = refl

it_leaves : (b : Bool) → not (cond (not b) b (not b)) ≡ true
it_leaves true = refl
it_leaves false = refl

enters_at_is : (t b : Bool) → enters_at t b ≡ cond t b (not b)
enters_at_is true b = refl
enters_at_is false b = refl

-- an end alone only enters exactly where its edge enters there and is no self-loop
alone : (l : PlainLevel) (plan : PlainPlan) (m : End)
    → (list_any (λ k. enters plan k) (linked l (m ∷ [])) && not (list_any (λ k. not (enters plan k)) (linked l (m ∷ [])))) ≡ (enters plan m && not (is_loop l m.edge))
alone l plan m = step (not (is_loop l m.edge)) (enters plan m) refl
  where
    step : (b e : Bool) → enters plan m ≡ e
        → (list_any (λ k. enters plan k) (cond b (m ∷ []) []) && not (list_any (λ k. not (enters plan k)) (cond b (m ∷ []) []))) ≡ (enters plan m && b)
    step true true h = rw h refl
    step true false h = rw h refl
    step false true h = rw h refl
    step false false h = rw h refl

-- ---- sides in the frame

-- a side that is there, or that of the flow of edges
side_or_rotated : (way : Direction) (given : Option Side) (b : Bool) → rotated_side way (side_or given b way) ≡ side_else (rotated_given way given) b
side_or_rotated way (Some s) b = refl
side_or_rotated way None true = sides.behind way
side_or_rotated way None false = sides.ahead way

mapped : (way : Direction) (given : Option Side) → option_map (rotated_side way) given ≡ rotated_given way given
mapped way None = refl
mapped way (Some s) = refl

place_rotated : (way : Direction) (box : Size) (place : Point) (s : Size)
    → side_of_place way (rotated_size way box) (rotated_place way box s place) (rotated_size way s) ≡ option_map (rotated_side way) (side_by_place box place s)
place_rotated Right box place s = directions_rotate.side Right box place s
place_rotated Left box place s = directions_rotate.side Left box place s
place_rotated Down box place s = directions_rotate.side Down box place s
place_rotated Up box place s = directions_rotate.side Up box place s

given_rotated : (way : Direction) (rule : PortRule) (asked : Option Side) (level : Option LevelOptions) (size box : Size) (place : Point) (s : Size) → (IsNone level → box ≡ size)
    → side_from rule (rotated_given way asked) (not (is_some level)) (side_of_place way (rotated_size way box) (rotated_place way box s place) (rotated_size way s))
    ≡ rotated_given way (side_from rule asked (is_none level) (side_by_place size place s))
given_rotated way Free asked level size box place s kept = refl
given_rotated way FixedSide asked level size box place s kept = refl
given_rotated way FixedOrder asked level size box place s kept = refl
given_rotated way FixedPos (Some side) level size box place s kept = refl
given_rotated way FixedPos None (Some o) size box place s kept = refl
given_rotated way FixedPos None None size box place s kept =
    place_rotated way box place s ∙ mapped way (side_by_place box place s) ∙ ap (λ z. rotated_given way (side_by_place z place s)) (kept refl)

same_size : (r s : Size) → r.width ≡ s.width → r.height ≡ s.height → r ≡ s
same_size r s w h = ap₂ (λ a b. let z : Size = record { width = a; height = b } in z) w h

module _ (d : Document) (p : Placed) (n : ℕ) (o : LevelOptions) (plan : PlainPlan) (v : LevelDrawing) (by : Point) (from : IsFromLevel d p n o plan v by) where
  abbrev l : PlainLevel
  l = level_of d p n o

  abbrev way : Direction
  way = o.direction

  pub frame_is : (c : ℕ) → IsChild d n c → frame_of d c ≡ way
  frame_is c child = ap (λ m. direction_of (node_at d m).level) (child_parent d n c child) ∙ ap direction_of from.options

  -- the edges that the certificate lists are those that the plan reverses
  pub listed_is : (i : ℕ) → i < length (edges_of d n) → is_listed d p (edge_number d n i) ≡ holds plan.reversed i
  listed_is i h =
      let e = edge_number d n i in
      ap (λ m. lists (certificate_of p m) e) (edge_level d n e (edge_there d n i h))
      ∙ ap (λ c. lists c e) from.written
      ∙ ap (list_any (λ x. eqb x e)) from.numbered
      ∙ same_test (list_any (λ x. eqb x e) (map (edge_number d n) plan.reversed)) (holds plan.reversed i) there back
    where
      there : list_any (λ x. eqb x (edge_number d n i)) (map (edge_number d n) plan.reversed) ≡ true → holds plan.reversed i ≡ true
      there k =
          let f = any_has (λ x. eqb x (edge_number d n i)) (map (edge_number d n) plan.reversed) k in
          let r = map_has (edge_number d n) plan.reversed f.0 f.1 in
          let within : r.0 < length (edges_of d n) = from.reversed_in r.0 (has_any (λ m. eqb m r.0) plan.reversed r.0 r.1 (eq-eqb r.0 r.0 refl)) in
          let same : r.0 ≡ i = sym (edge_place d n r.0 within) ∙ ap (place_of_edge d n) (r.2 ∙ eqb-true f.0 (edge_number d n i) f.2) ∙ edge_place d n i h in
          has_any (λ m. eqb m i) plan.reversed r.0 r.1 (eq-eqb r.0 i same)

      back : holds plan.reversed i ≡ true → list_any (λ x. eqb x (edge_number d n i)) (map (edge_number d n) plan.reversed) ≡ true
      back k =
          let f = any_has (λ m. eqb m i) plan.reversed k in
          has_any (λ x. eqb x (edge_number d n i)) (map (edge_number d n) plan.reversed) (edge_number d n f.0) (has_map (edge_number d n) plan.reversed f.0 f.1)
          (eq-eqb (edge_number d n f.0) (edge_number d n i) (ap (edge_number d n) (eqb-true f.0 i f.2)))

  -- an end of the level's edge at the j-th port of the i-th child is one at that port in the document
  end_at_port : (i j : ℕ) → i < length (children d n) → j < length (ports_of d (child_number d n i)) → (x : DocumentEnd) → (spoke_of d n x).child ≡ i → is_port (spoke_of d n x).port j ≡ true
      → IsChild d n (node_of_end d x) → IsEndIn d x → x ≡ AtPort (port_number d (child_number d n i) j)
  end_at_port i j hi hj (AtNode c) child port is_child within = absurd (false≢true port)
  end_at_port i j hi hj (AtPort k) child port is_child within =
      let c = child_number d n i in
      let node : node_of_port d k ≡ c = same_child d n (node_of_port d k) c is_child (child_there d n i hi) (child ∙ sym (child_place d n i hi)) in
      let place : place_of_port d k ≡ j = eqb-true (place_of_port d k) j port in
      ap AtPort (sym (port_back d c k within node).1 ∙ ap (port_number d c) place)

  -- Whether an edge that is no self-loop has its entering end, or its leaving one, at a port is the same in the level.
  flow_same : (i j : ℕ) → i < length (children d n) → j < length (ports_of d (child_number d n i))
      → (which : Bool → Bool) (hits : End → Bool) (touches : ℕ → Bool)
      → ((m : End) → hits m ≡ true → m.at_source ≡ which (holds plan.reversed m.edge))
      → ((e : ℕ) → hits (end_at e (which (holds plan.reversed e))) ≡ true)
      → ((e : ℕ) → touches e ≡ (is_at_port (end_of d e (which (is_listed d p e))) (port_number d (child_number d n i) j) && not (is_document_loop d e)))
      → any_below touches (length d.edges) ≡ list_any hits (linked l (ends_at_port l i j))
  flow_same i j hi hj which hits touches only hit touch = same_test (any_below touches (length d.edges)) (list_any hits (linked l (ends_at_port l i j))) there back
    where
      there : any_below touches (length d.edges) ≡ true → list_any hits (linked l (ends_at_port l i j)) ≡ true
      there g =
          let f = any_found touches (length d.edges) g in
          let e = f.0 in
          let c = child_number d n i in
          let k = port_number d c j in
          let s = which (is_listed d p e) in
          let q = and_parts (is_at_port (end_of d e s) k) (not (is_document_loop d e)) (sym (touch e) ∙ f.2) in
          let at : end_of d e s ≡ AtPort k = at_port_is (end_of d e s) k q.0 in
          let edge : IsEdge d n e = edge_of_child d n e c s from.sound f.1 (ap (node_of_end d) at ∙ port_node d c j hj) (child_there d n i hi) in
          let back = edge_back d n e edge in
          let m = place_of_edge d n e in
          let t = which (holds plan.reversed m) in
          let listed : is_listed d p e ≡ holds plan.reversed m = ap (is_listed d p) (sym back.1) ∙ listed_is m back.0 in
          let one : end_of d (edge_number d n m) t ≡ AtPort k = ap₂ (end_of d) back.1 (sym (ap which listed)) ∙ at in
          let spoke_at : spoke l (end_at m t) ≡ spoke_of d n (AtPort k) = spoke_is d p n o m t back.0 ∙ ap (spoke_of d n) one in
          let child : (spoke l (end_at m t)).child ≡ i = ap (λ (z : EdgeEnd). z.child) spoke_at ∙ ap (place_of_child d n) (port_node d c j hj) ∙ child_place d n i hi in
          let port : (spoke l (end_at m t)).port ≡ Some j = ap (λ (z : EdgeEnd). z.port) spoke_at ∙ ap Some (port_place_is d c j hj) in
          let many = (levels_are_listed d p n o).edge_count in
          let less = back.0 in
          let within : m < length l.edges = omega (arith, many, less) in
          let has : Has (ends_at_port l i j) (end_at m t) = subst (λ z. Has (ends_at_port l z j) (end_at m t)) child (at_port l m t j within port) in
          has_any hits (linked l (ends_at_port l i j)) (end_at m t)
          (has_filter (λ z. not (is_loop l z.edge)) (ends_at_port l i j) (end_at m t) has (ap not ((levels_are_listed d p n o).loop m from.sound back.0 ∙ ap (is_document_loop d) back.1) ∙ q.1))
          (hit m)

      back : list_any hits (linked l (ends_at_port l i j)) ≡ true → any_below touches (length d.edges) ≡ true
      back g =
          let f = any_has hits (linked l (ends_at_port l i j)) g in
          let m = f.0 in
          let free = filter_has (λ z. not (is_loop l z.edge)) (ends_at_port l i j) m f.1 in
          let end = filter_has (λ z. eqb (spoke l z).child i && is_port (spoke l z).port j) (all_ends l) m free.0 in
          let less = below_has (length l.edges) m.edge (ends_edge (range_with_len 0 (length l.edges)) m end.0) in
          let many = (levels_are_listed d p n o).edge_count in
          let within : m.edge < length (edges_of d n) = omega (arith, many, less) in
          let e = edge_number d n m.edge in
          let t = m.at_source in
          let edge = edge_there d n m.edge within in
          let q = and_parts (eqb (spoke l m).child i) (is_port (spoke l m).port j) end.1 in
          let spoke_at : spoke l m ≡ spoke_of d n (end_of d e t) = spoke_is d p n o m.edge t within in
          let x = end_of d e t in
          let at : x ≡ AtPort (port_number d (child_number d n i) j) =
          end_at_port i j hi hj x (sym (ap (λ (z : EdgeEnd). z.child) spoke_at) ∙ eqb-true (spoke l m).child i q.0) (ap (λ (z : EdgeEnd). is_port z.port j) (sym spoke_at) ∙ q.1) (end_child d n e t from.sound edge) (end_in d e t from.sound edge.edge_in)
          in
          let rotate : t ≡ which (is_listed d p e) = only m f.2 ∙ ap which (sym (listed_is m.edge within)) in
          let there : is_at_port (end_of d e (which (is_listed d p e))) (port_number d (child_number d n i) j) ≡ true =
          is_at_port-from (end_of d e (which (is_listed d p e))) (port_number d (child_number d n i) j) (ap (end_of d e) (sym rotate) ∙ at)
          in
          let no_loop : not (is_document_loop d e) ≡ true = ap not (sym ((levels_are_listed d p n o).loop m.edge from.sound within)) ∙ free.1 in
          any_below-true touches e (length d.edges) edge.edge_in
          (touch e ∙ and_from (is_at_port (end_of d e (which (is_listed d p e))) (port_number d (child_number d n i) j)) (not (is_document_loop d e)) there no_loop)

  entered_is : (i j : ℕ) → i < length (children d n) → j < length (ports_of d (child_number d n i))
      → is_entered d p (port_number d (child_number d n i) j) ≡ (port_spot l plan i j).enters
  entered_is i j hi hj =
      flow_same i j hi hj (λ b. b) (λ m. enters plan m) (enters_port d p (port_number d (child_number d n i) j)) (λ m k. enters_is m.at_source (holds plan.reversed m.edge) k) (λ e. it_enters (holds plan.reversed e))
      (λ e. ap (λ x. is_at_port x (port_number d (child_number d n i) j) && not (is_document_loop d e)) (head_is (is_listed d p e) (edge_at d e).source (edge_at d e).target d e refl refl))

  left_is : (i j : ℕ) → i < length (children d n) → j < length (ports_of d (child_number d n i))
      → is_left d p (port_number d (child_number d n i) j) ≡ (port_spot l plan i j).leaves
  left_is i j hi hj =
      flow_same i j hi hj not (λ m. not (enters plan m)) (leaves_port d p (port_number d (child_number d n i) j)) (λ m k. leaves_is m.at_source (holds plan.reversed m.edge) k) (λ e. it_leaves (holds plan.reversed e))
      (λ e. ap (λ x. is_at_port x (port_number d (child_number d n i) j) && not (is_document_loop d e)) (tail_is (is_listed d p e) (edge_at d e).source (edge_at d e).target d e refl refl))

  -- a leaf keeps its size
  pub size_kept : (c : ℕ) → IsChild d n c → IsNone (node_at d c).level → box_size p c ≡ (node_at d c).size
  size_kept c child none = let kept = from.leaves c child.node_in none in same_size (box_size p c) (node_at d c).size kept.width kept.height

  pub given_is : (i j : ℕ) → i < length (children d n) → j < length (ports_of d (child_number d n i))
      → given_side (child_at l i) j ≡ rotated_given way (document_side d (port_number d (child_number d n i) j))
  given_is i j hi hj =
      let c = child_number d n i in
      let k = port_number d c j in
      let x = level_child d p way c in
      ap (λ z. side_from z.rule (port_at (child_at l i) j).side (not z.compound) (side_of_place z.direction z.size (port_at (child_at l i) j).place (port_at (child_at l i) j).size)) ((levels_are_listed d p n o).child i hi)
      ∙ ap (λ q. side_from x.rule q.side (not x.compound) (side_of_place way x.size q.place q.size)) ((levels_are_listed d p n o).port i j hi hj)
      ∙ given_rotated way (node_at d c).rule (document_port d k).side (node_at d c).level (node_at d c).size (box_size p c) (document_port d k).place (document_port d k).size (size_kept c (child_there d n i hi))
      ∙ ap (λ m. rotated_given way (side_from (node_at d m).rule (document_port d k).side (is_none (node_at d m).level) (side_by_place (node_at d m).size (document_port d k).place (document_port d k).size))) (sym (port_node d c j hj))

  pub port_side_rotates : (i j : ℕ) → i < length (children d n) → j < length (ports_of d (child_number d n i)) → PortSideRotates d p n o plan i j
  port_side_rotates i j hi hj =
      let c = child_number d n i in
      let k = port_number d c j in
      let frame : frame_of d (node_of_port d k) ≡ way = ap (frame_of d) (port_node d c j hj) ∙ frame_is c (child_there d n i hi) in
      ap (λ w. rotated_side way (side_or (document_side d k) (is_entered d p k && not (is_left d p k)) w)) frame
      ∙ side_or_rotated way (document_side d k) (is_entered d p k && not (is_left d p k))
      ∙ ap₂ (λ a b. side_else (rotated_given way (document_side d k)) (a && not b)) (entered_is i j hi hj) (left_is i j hi hj)
      ∙ ap (λ g. side_else g ((port_spot l plan i j).enters && not (port_spot l plan i j).leaves)) (sym (given_is i j hi hj))

  -- the same for a port by its number in the document
  pub port_side_at : (k : ℕ) → k < length d.ports → IsChild d n (node_of_port d k) → rotated_side way (side_of_port d p k) ≡ port_side l plan (place_of_child d n (node_of_port d k)) (place_of_port d k)
  port_side_at k h child =
      let i = place_of_child d n (node_of_port d k) in
      let j = place_of_port d k in
      let c = child_back d n (node_of_port d k) child in
      let q = port_back d (child_number d n i) k h (sym c.1) in
      subst (λ z. rotated_side way (side_of_port d p z) ≡ port_side l plan i j) q.1 (port_side_rotates i j c.0 q.0)

  pub end_side_rotates : (orders : Orders) (i : ℕ) (t : Bool) → i < length (edges_of d n) → EndSideRotates d p n o plan orders i t
  end_side_rotates orders i t h = step (end_of d e t) (spoke_is d p n o i t h) (end_child d n e t from.sound edge) (end_in d e t from.sound edge.edge_in)
    where
      e : ℕ
      e = edge_number d n i

      edge : IsEdge d n e
      edge = edge_there d n i h

      step : (x : DocumentEnd) → spoke l (end_at i t) ≡ spoke_of d n x → IsChild d n (node_of_end d x) → IsEndIn d x
          → rotated_side way (side_at d p e t x) ≡ side_of (child_at l (spoke l (end_at i t)).child) (spot_at_port l plan (spoke l (end_at i t)).child (end_at i t) (spoke l (end_at i t)).port)
      step (AtPort k) at child within =
          subst (λ (s : EdgeEnd). rotated_side way (side_of_port d p k) ≡ side_of (child_at l s.child) (spot_at_port l plan s.child (end_at i t) s.port)) (sym at) (port_side_at k within child)
      step (AtNode c) at child within =
          subst (λ (s : EdgeEnd). rotated_side way (side_at d p e t (AtNode c)) ≡ side_of (child_at l s.child) (spot_at_port l plan s.child (end_at i t) s.port)) (sym at)
          (ap (λ w. rotated_side way (side_or None (enters_at t (is_listed d p e) && not (is_document_loop d e)) w)) (frame_is c child)
          ∙ side_or_rotated way None (enters_at t (is_listed d p e) && not (is_document_loop d e))
          ∙ ap₂ (λ a b. side_else None (a && not b)) (enters_at_is t (is_listed d p e) ∙ ap (λ b. cond t b (not b)) (listed_is i h)) (sym ((levels_are_listed d p n o).loop i from.sound h))
          ∙ ap (side_else None) (sym (alone l plan (end_at i t))))

pub sides_rotate_back : SidesRotateBack
sides_rotate_back =
    record {
      listed = λ d p n o plan v by from. listed_is d p n o plan v by from;
      port = λ d p n o plan v by from. port_side_rotates d p n o plan v by from;
      end = λ d p n o plan v by from. end_side_rotates d p n o plan v by from;
    }
