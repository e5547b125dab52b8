-- No rule refuses the answer of a drawing that obeys its document, and the drawing obeys what is read of the answer.
use Rattle.std.proofs.Common.{◌≡◌, ℕ, suc, ◌<◌, ◌≤◌, inl, inr, List, [], ◌∷◌, length, max, filter, find, Bool, true, false, not, ◌&&◌, ◌||◌, if◌then◌else◌, cond, refl, sym, ap, ◌∙◌, subst, Option, Some, None, ltb-false, arith}
use Rattle.std.specs.Prelude.{codes, is_some, slice_get, slice_index_or, nat_lt, IsTrue}
use Rattle.std.specs.Option.{option_or, option_map_or}
use Rattle.std.specs.List.{list_any}
use Rattle.std.proofs.lemmas.Bool.{cases_Bool, and_parts}
use Rattle.serde_json.specs.Data.{Data}
use Rattle.drawing_types.specs.declared.shape.Point.{Point}
use Rattle.drawing_types.specs.declared.shape.Rect.{Rect}
use Rattle.drawing_types.specs.declared.shape.Size.{Size}
use Rattle.elk_doc.specs.declared.document.Port.{Port as DocPort}
use Rattle.elk_doc.specs.declared.drawing.Placed.{Placed}
use Rattle.elk_doc.specs.Document.{Document, document, no_port}
use Rattle.elk_doc.specs.Drawing.{port_place}
use Rattle.elk_doc.specs.Sound.{IsSound}
use Rattle.elk_doc.specs.Drawn.{Drawn}
use Rattle.elk_json.specs.declared.elements.Kind.{Kind}
use Rattle.elk_json.specs.declared.elements.Kind.TheVariants.{Node, Port, Edge}
use Rattle.elk_json.specs.declared.fault.Rule.{Rule}
use Rattle.elk_json.specs.declared.fault.Rule.TheVariants as rules
use Rattle.elk_json.specs.Elements.{Element, elements}
use Rattle.elk_json.specs.Members.{kind_is_node, kind_is_port, kind_is_edge, is_node, is_port, is_root, is_compound, is_number}
use Rattle.elk_json.specs.Whole.{all_whole}
use Rattle.elk_json.specs.Shape.{is_good, is_good_node, is_good_port, is_good_edge, has_bad_shape}
use Rattle.elk_json.specs.Ranges.{is_size, has_good_size, has_good_place, is_out_of_range, are_too_many, is_too_deep, levels}
use Rattle.elk_json.specs.Ends.{first_double}
use Rattle.elk_json.specs.Rules.{if_so, at, value_refusal, edge_refusal, option_refusal, refused, is_port_inside}
use Rattle.elk_json.specs.Keyed.{IsKeyed}
use Rattle.elk_json.specs.Document.{IsDocument, place_of, size_of, port_of, ports_of}
use Rattle.elk_json.proofs.Places.{number, at_number, none_found}
use Rattle.elk_json.proofs.Tree.{IsRooted, rooted}
use Rattle.elk_json.proofs.Accepted.{doc_of, behind, value_at}
use Rattle.elk_json.proofs.NodeLaws.{leaf_size}
use Rattle.elk_json.proofs.PortLaws.{good_parts}
use Rattle.elk_json.proofs.Soundness.{accepted, tree_accepted, sound_document, port_no_node}
use Rattle.elk_write.specs.Numbers.{from_zero}
use Rattle.elk_write.specs.Values.{whole}
use Rattle.elk_write.specs.Written.{Has, IfThere, HasLevel, IsNodeWritten, IsPlacedBy}
use Rattle.elk_write.specs.Placing.{not_placed, refused_placed}
use Rattle.elk_write.specs.ReadBack.{SameButPlaces, IsReadBack, AreHeld}
use Rattle.elk_write.proofs.Known.{or_left, or_right, so_false, no_value_refusal, shaped_by}
use Rattle.elk_write.proofs.Law.{answer_of, answer_placed, answer_whole}
use Rattle.elk_write.proofs.Pairs.{pairs_whole}
use Rattle.elk_write.proofs.Inherited.{each_keyed}
use Rattle.elk_write.proofs.Alike.{AllAlike, alike_whole, good_as}
use Rattle.elk_write.proofs.Again.{from_zero_at}
use Rattle.elk_write.proofs.Back.{says_back}
use Rattle.elk_write.proofs.SameDocument.{same_compound, same_size, port_leaf}
use Rattle.elk_write.proofs.Depth.{whole_float, same_levels}
use Rattle.elk_write.proofs.SameRules.{no_double, same_many, same_known, same_simple, same_within, same_good}
use Rattle.elk_write.proofs.GoodShape.{IsWritten, AllShaped, Mate, all_shaped, mate_at, number_there, node_good, port_good, edge_good}
use Rattle.elk_write.proofs.InRange.{StandsAt, port_stands, whole_back}
use Rattle.elk_write.proofs.PortsStand.{good_place, not_inside}
use Rattle.elk_write.proofs.Redrawn.{HasPlaces, Redrawn, redrawn}
use Rattle.drawing_types.proofs.SameShapes.{same_point}

-- ---- rules and lists

neither : {X : Type 0} (a b : Option X) → a ≡ None → b ≡ None → option_or a b ≡ None
neither a b h k = rw (h, k) refl

at_none : (r : Rule) (o : Option Element) → at r o ≡ None → o ≡ None
at_none r None h = refl
at_none r (Some e) h = absurd (cc)

find_none : (test : Element → Bool) (xs : List Element) → ((i : ℕ) (x : Element) → slice_get xs i ≡ Some x → test x ≡ false) → find test xs ≡ None
find_none test [] h = refl
find_none test (x ∷ xs) h = ap (λ b. cond b (Some x) (find test xs)) (h 0 x refl) ∙ find_none test xs (λ i y at. h (suc i) y at)

any_none : (test : Element → Bool) (xs : List Element) → ((i : ℕ) (x : Element) → slice_get xs i ≡ Some x → test x ≡ false) → list_any test xs ≡ false
any_none test [] h = refl
any_none test (x ∷ xs) h = ap (λ b. b || list_any test xs) (h 0 x refl) ∙ any_none test xs (λ i y at. h (suc i) y at)

-- ---- what is known of the value

edges_none : (d : Data) → refused d ≡ None → edge_refusal (elements d) ≡ None
unfolding refused
edges_none d h = or_left (edge_refusal (elements d)) _ (or_right (value_refusal d) _ h)

not_deep : (d : Data) → value_refusal d ≡ None → is_too_deep d ≡ false
unfolding value_refusal
not_deep d h =
    so_false rules.TooDeep (is_too_deep d)
    (or_right (if_so rules.TooMany (are_too_many (elements d))) _
    (or_right (at rules.OutOfRange (find is_out_of_range (elements d))) _
    (or_right (if_so rules.BadShape (has_bad_shape (elements d))) _
    (or_right (if_so rules.NotWhole (not (all_whole d))) _ h))))

each_once : (es : List Element) → edge_refusal es ≡ None → first_double [] es ≡ None
unfolding edge_refusal
each_once es h = at_none rules.DoubleId _ (or_left _ _ h)

deep_by : (d : Data) → is_too_deep d ≡ false → levels d ≤ 50
deep_by d h = let le : max 1 (levels d) ≤ 50 = ltb-false 50 (max 1 (levels d)) h in omega arith

pub few_levels : (d : Data) → refused d ≡ None → levels d ≤ 50
few_levels d h = deep_by d (not_deep d (no_value_refusal d h))

-- ---- sizes

-- the size that is written at a compound node
size_by : (doc : Document) (p : Placed) (n : ℕ) (f : Element) (o : Option Rect)
    → IfThere o (λ box. Has f.value (codes "x") (whole box.x) × Has f.value (codes "y") (whole box.y) × (IsTrue (is_compound f) → HasLevel doc p n f.value box))
    → is_compound f ≡ true → IsWritten (codes "width") f.value × IsWritten (codes "height") f.value
size_by doc p n f None h t = absurd h
size_by doc p n f (Some box) h t = let l = h.2 t in ((box.width, l.0), (box.height, l.1))

range_by : (n c g q s : Bool) → (n ≡ true → c ≡ false → g ≡ true) → (q ≡ true → (g ≡ true) × (s ≡ true)) → ((n && not c && not g) || (q && not (g && s))) ≡ false
range_by false c g false s a b = refl
range_by false c g true s a b = let h = b refl in rw (h.0, h.1) refl
range_by true true g false s a b = refl
range_by true true g true s a b = let h = b refl in rw (h.0, h.1) refl
range_by true false g false s a b = rw (a refl refl) refl
range_by true false g true s a b = let h = b refl in rw (h.0, h.1) refl

good_size : (e f : Element) → size_of f.value ≡ size_of e.value → has_good_size f.value ≡ has_good_size e.value
unfolding has_good_size
good_size e f h = ap (λ (s : Size). is_size s.width && is_size s.height) h

no_port_inside : (f : Element) → is_port f ≡ false → is_port_inside f ≡ false
unfolding is_port_inside
no_port_inside f h = rw h refl

abbrev absent_is : Option Data → Bool
absent_is o = option_map_or is_number o true

abbrev place_in : List DocPort → ℕ → Point
place_in ps k = (slice_index_or ps k no_port).place

-- ---- the answer

module _ (doc : Document) (p : Placed) (v : Data) (keyed : IsKeyed v) (free : refused v ≡ None) (is : IsDocument doc v) (drawn : Drawn doc p) where
  abbrev w : Data
  w = answer_of doc p v

  abbrev es : List Element
  es = elements v

  abbrev fs : List Element
  fs = elements w

  shape : has_bad_shape es ≡ false
  shape = shaped_by v free

  alike : AllAlike es fs
  alike = alike_whole doc p v fs keyed shape (pairs_whole doc p v keyed)

  shaped : AllShaped es fs
  shaped = all_shaped doc p from_zero es fs (pairs_whole doc p v keyed) (each_keyed v keyed) shape

  written : IsPlacedBy v doc p w
  written = answer_placed doc p v keyed free is drawn.fits

  doc_is : doc ≡ doc_of es
  doc_is =
      ap (λ ns. document ns doc.ports doc.edges) is.nodes_are
      ∙ ap (λ ps. document (doc_of es).nodes ps doc.edges) is.ports_are
      ∙ ap (λ xs. document (doc_of es).nodes (doc_of es).ports xs) is.edges_are

  drawn_own : Drawn (doc_of es) p
  drawn_own = subst (λ d. Drawn d p) doc_is drawn

  sound : IsSound (doc_of es)
  sound = sound_document v free

  root : IsRooted es
  root = tree_accepted v free

  deep : is_too_deep w ≡ false
  deep = ap (λ n. nat_lt 50 (max 1 n)) (same_levels v w written.0) ∙ not_deep v (no_value_refusal v free)

  root_too : IsRooted fs
  root_too = rooted w (deep_by w deep)

  -- ---- rule 3

  module _ (i : ℕ) (f : Element) (there : slice_get fs i ≡ Some f) where
    m : Mate es i f
    m = mate_at es fs alike shaped shape i f there

    good_like : (k : Kind) → f.kind ≡ k → (if kind_is_node k then is_good_node (is_root f) f.value else (if kind_is_port k then is_good_port f.value else is_good_edge f.value)) ≡ true → is_good f ≡ true
    good_like k at h = subst (λ k. (if kind_is_node k then is_good_node (is_root f) f.value else (if kind_is_port k then is_good_port f.value else is_good_edge f.value)) ≡ true) (sym at) h

    node_size : m.mate.kind ≡ Node → is_compound m.mate ≡ true → IsWritten (codes "width") f.value × IsWritten (codes "height") f.value
    node_size kind compound =
        size_by doc p (number is_node fs i) f _
        (from_zero_at (IsNodeWritten doc p) (filter is_node fs) written.1 (number is_node fs i) f (at_number is_node fs i f there (ap kind_is_node (m.alike.kind ∙ kind))))
        (same_compound m.mate f m.alike ∙ compound)

    good_node : m.mate.kind ≡ Node → is_good f ≡ true
    good_node kind =
        let good : is_good_node (is_root m.mate) m.mate.value ≡ true = good_as m.mate Node kind m.good in
        let size = and_parts _ _ (and_parts _ _ good).1 in
        let same_root : is_root f ≡ is_root m.mate = ap (λ k. kind_is_node k && not (is_some f.owner)) m.alike.kind ∙ ap (λ o. is_node m.mate && not (is_some o)) m.alike.owner in
        let node : kind_is_node m.mate.kind ≡ true = ap kind_is_node kind in
        good_like Node (m.alike.kind ∙ kind)
        (ap (λ b. is_good_node b f.value) same_root
        ∙ elim (cases_Bool (is_compound m.mate)) [
          | inl compound ↦ (let z = node_size kind compound in node_good m.mate f m.alike m.shaped (is_root m.mate) node (number_there (codes "width") f.value z.0) (number_there (codes "height") f.value z.1) good)
          | inr leaf ↦ node_good m.mate f m.alike m.shaped (is_root m.mate) node
              (ap (λ o. absent_is o) (m.alike.width leaf) ∙ size.0) (ap (λ o. absent_is o) (m.alike.height leaf) ∙ size.1) good
        ])

    stands : m.mate.kind ≡ Port → StandsAt f.value (port_place p (number is_port fs i))
    stands kind = port_stands p fs i f written.2 there (ap kind_is_port (m.alike.kind ∙ kind))

    good_port : m.mate.kind ≡ Port → is_good f ≡ true
    good_port kind =
        let good : is_good_port m.mate.value ≡ true = good_as m.mate Port kind m.good in
        let size = and_parts _ _ (and_parts _ _ (and_parts _ _ (and_parts _ _ good).0).0).1 in
        let leaf = port_leaf m.mate (ap kind_is_port kind) in
        let s = stands kind in
        good_like Port (m.alike.kind ∙ kind)
        (port_good m.mate f m.alike m.shaped
        (ap (λ o. absent_is o) (m.alike.width leaf) ∙ size.0) (ap (λ o. absent_is o) (m.alike.height leaf) ∙ size.1)
        (number_there (codes "x") f.value (_, s.x)) (number_there (codes "y") f.value (_, s.y)) good)

    good_edge : m.mate.kind ≡ Edge → is_good f ≡ true
    good_edge kind = good_like Edge (m.alike.kind ∙ kind) (edge_good m.mate f m.alike m.shaped (ap kind_is_edge kind) (good_as m.mate Edge kind m.good))

    good_by : (k : Kind) → m.mate.kind ≡ k → is_good f ≡ true
    good_by Node kind = good_node kind
    good_by Port kind = good_port kind
    good_by Edge kind = good_edge kind

    good_here : not (is_good f) ≡ false
    good_here = ap not (good_by m.mate.kind refl)

    -- ---- rules 4 and 12

    in_range : is_out_of_range f ≡ false
    unfolding is_out_of_range
    in_range =
        let fine = none_found is_out_of_range es i m.mate (accepted v free).in_range m.at in
        range_by (is_node f) (is_compound f) (has_good_size f.value) (is_port f) (has_good_place f)
        (λ node leaf.
        let own : is_node m.mate ≡ true = sym (ap kind_is_node m.alike.kind) ∙ node in
        let no : is_compound m.mate ≡ false = sym (same_compound m.mate f m.alike) ∙ leaf in
        good_size m.mate f (same_size m.mate f m.alike no) ∙ leaf_size m.mate own no fine)
        (λ port.
        let own : is_port m.mate ≡ true = sym (ap kind_is_port m.alike.kind) ∙ port in
        let parts = good_parts m.mate (port_no_node m.mate.kind own) own fine in (
          good_size m.mate f (same_size m.mate f m.alike (port_leaf m.mate own)) ∙ parts.0,
          good_place es fs alike shaped shape root root_too i m.mate f m.alike m.at there own p sound drawn_own written.2,
        ))

    outside : is_port_inside f ≡ false
    outside =
        let fine = none_found is_port_inside es i m.mate (accepted v free).outer m.at in
        elim (cases_Bool (is_port m.mate)) [
          | inl own ↦ not_inside es fs alike shaped shape root root_too i m.mate f m.alike m.at there own p sound drawn_own written.2 fine
          | inr none ↦ no_port_inside f (ap kind_is_port m.alike.kind ∙ none)
        ]

  -- ---- all rules

  no_value : value_refusal w ≡ None
  unfolding value_refusal
  no_value =
      neither _ _ (ap (λ b. if_so rules.NotWhole (not b)) (whole_float w (answer_whole doc p v keyed free).0))
      (neither _ _ (ap (if_so rules.BadShape) (any_none (λ e. not (is_good e)) fs good_here))
      (neither _ _ (ap (at rules.OutOfRange) (find_none is_out_of_range fs in_range))
      (neither _ _ (ap (if_so rules.TooMany) (same_many es fs alike ∙ (accepted v free).few))
      (ap (if_so rules.TooDeep) deep))))

  no_edge : edge_refusal fs ≡ None
  unfolding edge_refusal
  no_edge =
      let a = accepted v free in
      neither _ _ (ap (at rules.DoubleId) (no_double [] [] es fs tt alike (each_once es (edges_none v free))))
      (neither _ _ (ap (at rules.UnknownEnd) (same_known es fs alike a.known))
      (neither _ _ (ap (at rules.Hyperedge) (same_simple es fs alike a.simple))
      (ap (at rules.CrossLevel) (same_within es fs alike a.within))))

  no_option : option_refusal fs ≡ None
  unfolding option_refusal
  no_option =
      neither _ _ (ap (at rules.OptionValue) (same_good es fs alike (accepted v free).good))
      (ap (at rules.PortInside) (find_none is_port_inside fs outside))

  no_rule : refused w ≡ None
  unfolding refused
  no_rule = neither _ _ no_value (neither _ _ no_edge no_option)

  -- ---- what is read

  placed_too : not_placed w ≡ None → refused_placed w ≡ None
  unfolding refused_placed
  placed_too h = neither _ _ no_rule h

  has_places : (other : Document) → IsDocument other w → HasPlaces other p
  has_places other o k lt =
      let b = behind is_port (port_of fs) fs k (subst (λ (ps : List DocPort). k < length ps) o.ports_are lt) in
      let s = port_stands p fs b.place b.element written.2 b.at b.passes in
      ap (λ (ps : List DocPort). place_in ps k) o.ports_are
      ∙ ap (place_in (ports_of fs)) (sym b.is)
      ∙ ap (λ (q : DocPort). q.place) (value_at is_port (port_of fs) fs b.place b.element no_port b.at b.passes)
      ∙ same_point (place_of b.element.value) (port_place p (number is_port fs b.place)) (whole_back (codes "x") b.element.value _ s.x) (whole_back (codes "y") b.element.value _ s.y)
      ∙ ap (port_place p) b.is

  again : (other : Document) → IsDocument other w → SameButPlaces doc other → Redrawn doc other p
  again other o same = redrawn doc other p same (has_places other o) (subst IsSound (sym doc_is) sound) drawn

  pub reads_back : AreHeld p → IsReadBack doc p w
  reads_back held =
      let says = says_back doc p v keyed free is drawn.fits held in
      record {
        says = says;
        accepted = placed_too says.whole;
        drawn = λ other o. (again other o (says.document other o)).drawn;
        fitted = λ other o. (again other o (says.document other o)).fitted;
        least = λ other o. (again other o (says.document other o)).least;
      }
