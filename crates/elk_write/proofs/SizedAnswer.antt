-- The numbers of an answer are read back as they are written.
use Rattle.std.proofs.Common.{◌≡◌, ℕ, suc, ◌+◌, ◌<◌, ◌^◌, ℤ, pos, negsuc, ◌<ℤ◌, ◌≤ℤ◌, neg_ℤ, List, [], ◌∷◌, ◌++◌, map, get_or, length, Bool, true, false, bytes_eq, refl, subst, Option, Some, None, inl, inr, All, arith}
use Rattle.std.proofs.lemmas.Bool.{cases_Bool}
use Rattle.std.proofs.lemmas.Int.{ints}
use Rattle.std.proofs.lemmas.Option.{get_or_from_slice_get, slice_get_within}
use Rattle.std.specs.Prelude.{codes, ◌||◌, if◌then◌else◌, IfSome, option_and_then, slice_get}
use Rattle.serde_json.specs.Data.{Data, array, object, Items, no_items, item, Members, no_members, member, put}
use Rattle.serde_json.specs.View.{items_of}
use Rattle.elk_doc.specs.declared.document.Id.{Id}
use Rattle.elk_doc.specs.declared.document.Id.TheVariants.{Text, Whole}
use Rattle.elk_doc.specs.declared.document.Edge.{Edge}
use Rattle.drawing_types.specs.declared.shape.Point.{Point}
use Rattle.drawing_types.specs.declared.shape.Rect.{Rect}
use Rattle.drawing_types.specs.declared.section.Section.{Section}
use Rattle.elk_doc.specs.declared.drawing.Certificate.{Certificate}
use Rattle.elk_doc.specs.declared.drawing.Placed.{Placed}
use Rattle.elk_doc.specs.Document.{Document}
use Rattle.drawing_laws.specs.Held.{IsSmall, IsSmallPoint, IsSmallBox, IsSmallSection, HasSmallCoordinates}
use Rattle.elk_json.specs.Members.{has_children}
use Rattle.elk_json.specs.Words.{IsWord, HasWords}
use Rattle.elk_write.specs.declared.numbers.Numbers.{Numbers}
use Rattle.elk_write.specs.Keys.{is_node_key, is_flat_key}
use Rattle.elk_write.specs.Numbers.{past_own, past_node, past_member}
use Rattle.elk_write.specs.Values.{whole, wholes, point_data, id_data, end_members, with_bends, sections_data, edge_id, edge_ids, layering_data}
use Rattle.elk_write.specs.Written.{is_split}
use Rattle.elk_write.specs.ReadBack.{IsHeld, IsHeldLevel, AreHeld}
use Rattle.elk_write.specs.Answered.{kept_into, with_point, port_answer, port_answers, with_sections, edge_answer, edge_answers, with_place, with_size, with_layering, with_node, answer_node, answer_into, answer_member, answer_children, parts_answer}
use Rattle.elk_write.specs.Sized.{AreSized, AreItemsSized, AreMembersSized}
use Rattle.elk_write.proofs.SizedRead.{sized_put}

-- what is at a place of a list
at_slot : {X : Type 0} (P : X → Type 0) (xs : List X) (n : ℕ) (o : Option X) → slice_get xs n ≡ o → All P xs → IfSome o P
at_slot P xs n None e h = tt
at_slot P xs n (Some x) e h = subst P (get_or_from_slice_get xs n x x e) (h n x (slice_get_within xs n x e))

slot : {X : Type 0} (P : X → Type 0) (xs : List X) (n : ℕ) → All P xs → IfSome (slice_get xs n) P
slot P xs n h = at_slot P xs n (slice_get xs n) refl h

-- ---- parts of a drawing

small_sized : (z : ℤ) → IsSmall z → AreSized (whole z)
small_sized (pos n) h = let b : pos n <ℤ pos (2 ^ 53) = h.below in omega (arith, ints)
small_sized (negsuc n) h = let b : neg_ℤ (pos (2 ^ 53)) <ℤ negsuc n = h.above in omega (arith, ints)

wholes_by : (ns : List ℕ) → ((i : ℕ) (d : ℕ) → i < length ns → get_or ns i d < 2 ^ 64) → AreItemsSized (items_of (map (λ n. whole (pos n)) ns))
wholes_by [] h = tt
wholes_by (n ∷ ns) h = (h 0 0 (omega arith), wholes_by ns (λ i d b. h (suc i) d (omega arith)))

large_sized : (ns : List ℕ) → All (λ n. n < 2 ^ 64) ns → AreSized (wholes ns)
large_sized ns h = wholes_by ns h

few_sized : (ns : List ℕ) → All (λ n. n < 2 ^ 32) ns → AreSized (wholes ns)
few_sized ns h = wholes_by ns (λ i d b. let few : get_or ns i d < 2 ^ 32 = h i d b in omega arith)

point_sized : (q : Point) → IsSmallPoint q → AreSized (point_data q)
point_sized q h = (small_sized q.x h.x, (small_sized q.y h.y, tt))

points_sized : (ps : List Point) → All IsSmallPoint ps → AreItemsSized (items_of (map point_data ps))
points_sized [] h = tt
points_sized (q ∷ ps) h = (point_sized q (h 0 q (omega arith)), points_sized ps (λ i d b. h (suc i) d (omega arith)))

end_sized : (id : Id) (s : Section) → IsSmallSection s → AreMembersSized (end_members id s)
end_sized id s h = (point_sized s.end h.end, (tt, (point_sized s.start h.start, tt)))

bends_sized : (ps : List Point) (id : Id) (s : Section) → All IsSmallPoint ps → IsSmallSection s → AreMembersSized (with_bends ps (end_members id s))
bends_sized [] id s b h = end_sized id s h
bends_sized (q ∷ ps) id s b h = (points_sized (q ∷ ps) b, end_sized id s h)

sections_sized : (id : Id) (s : Section) → IsSmallSection s → AreSized (sections_data id s)
sections_sized id s h = (bends_sized s.bends id s h.bends h, tt)

word_sized : (z : ℤ) → neg_ℤ (pos (2 ^ 63)) ≤ℤ z → z <ℤ pos (2 ^ 64) → AreSized (whole z)
word_sized (pos n) low high = omega (arith, ints)
word_sized (negsuc n) low high = omega (arith, ints)

id_sized : (id : Id) → IsWord id → AreSized (id_data id)
id_sized (Text s) h = tt
id_sized (Whole z) h = word_sized z h.0 h.1

module _ (doc : Document) (p : Placed) (ids : HasWords doc) (small : HasSmallCoordinates p) (held : AreHeld p) where
  before_sized : (o : Option Edge) (ds : List Data) → IfSome o (λ e. IsWord e.id) → AreItemsSized (items_of ds) → AreItemsSized (items_of (edge_id o ++ ds))
  before_sized None ds e h = h
  before_sized (Some q) ds e h = (id_sized q.id e, h)

  ids_sized : (ns : List ℕ) → AreItemsSized (items_of (edge_ids doc ns))
  ids_sized [] = tt
  ids_sized (n ∷ ns) = before_sized (slice_get doc.edges n) (edge_ids doc ns) (slot (λ e. IsWord e.id) doc.edges n ids.edges_have) (ids_sized ns)

  layering_sized : (split : Bool) (c : Certificate) → IsHeld c → AreSized (layering_data doc split c)
  layering_sized true c h = (large_sized c.flow h.flow, (few_sized c.layers h.layers, (few_sized c.parts h.parts, (ids_sized c.reversed, (h.span, tt)))))
  layering_sized false c h = (large_sized c.flow h.flow, (few_sized c.layers h.layers, (ids_sized c.reversed, (h.span, tt))))

  -- ---- ports and edges

  kept_sized : (edge : Bool) (ms into : Members) → AreMembersSized ms → AreMembersSized into → AreMembersSized (kept_into edge into ms)
  kept_sized edge no_members into h g = g
  kept_sized edge (member k d ms) into h g = elim (cases_Bool (is_flat_key edge k)) [
    | inl is ↦ rw is (kept_sized edge ms into h.1 g)
    | inr is ↦ rw is (kept_sized edge ms (put k d into) h.1 (sized_put k d into h.0 g))
  ]

  with_point_sized : (o : Option Point) (ms : Members) → IfSome o IsSmallPoint → AreMembersSized ms → AreMembersSized (with_point o ms)
  with_point_sized None ms s h = h
  with_point_sized (Some q) ms s h = sized_put (codes "y") (whole q.y) (put (codes "x") (whole q.x) ms) (small_sized q.y s.y) (sized_put (codes "x") (whole q.x) ms (small_sized q.x s.x) h)

  port_sized : (o : Option Point) (d : Data) → IfSome o IsSmallPoint → AreSized d → AreSized (port_answer o d)
  port_sized o (object ms) s h = with_point_sized o (kept_into false no_members ms) s (kept_sized false ms no_members h tt)
  port_sized o d s h = h

  with_sections_sized : (e : Option Edge) (s : Option Section) (ms : Members) → IfSome s IsSmallSection → AreMembersSized ms → AreMembersSized (with_sections e s ms)
  with_sections_sized None s ms g h = h
  with_sections_sized (Some e) None ms g h = h
  with_sections_sized (Some e) (Some s) ms g h = sized_put (codes "sections") (sections_data e.id s) ms (sections_sized e.id s g) h

  edge_sized : (e : Option Edge) (s : Option Section) (d : Data) → IfSome s IsSmallSection → AreSized d → AreSized (edge_answer e s d)
  edge_sized e s (object ms) g h = with_sections_sized e s (kept_into true no_members ms) g (kept_sized true ms no_members h tt)
  edge_sized e s d g h = h

  ports_sized : (n : ℕ) (ds : Items) → AreItemsSized ds → AreItemsSized (port_answers p n ds)
  ports_sized n no_items h = h
  ports_sized n (item d ds) h = (port_sized (slice_get p.ports n) d (slot IsSmallPoint p.ports n small.ports) h.0, ports_sized (n + 1) ds h.1)

  edges_sized : (n : ℕ) (ds : Items) → AreItemsSized ds → AreItemsSized (edge_answers doc p n ds)
  edges_sized n no_items h = h
  edges_sized n (item d ds) h = (edge_sized (slice_get doc.edges n) (slice_get p.sections n) d (slot IsSmallSection p.sections n small.sections) h.0, edges_sized (n + 1) ds h.1)

  -- ---- nodes

  place_sized : (box : Option Rect) (ms : Members) → IfSome box IsSmallBox → AreMembersSized ms → AreMembersSized (with_place box ms)
  place_sized None ms s h = h
  place_sized (Some r) ms s h = sized_put (codes "y") (whole r.y) (put (codes "x") (whole r.x) ms) (small_sized r.y s.place.y) (sized_put (codes "x") (whole r.x) ms (small_sized r.x s.place.x) h)

  size_sized : (box : Option Rect) (ms : Members) → IfSome box IsSmallBox → AreMembersSized ms → AreMembersSized (with_size box ms)
  size_sized None ms s h = h
  size_sized (Some r) ms s h = sized_put (codes "height") (whole r.height) (put (codes "width") (whole r.width) ms) (small_sized r.height s.height) (sized_put (codes "width") (whole r.width) ms (small_sized r.width s.width) h)

  with_layering_sized : (split : Bool) (c : Option Certificate) (ms : Members) → IfSome c IsHeld → AreMembersSized ms → AreMembersSized (with_layering doc split c ms)
  with_layering_sized split None ms s h = h
  with_layering_sized split (Some c) ms s h = sized_put (codes "layering") (layering_data doc split c) ms (layering_sized split c s) h

  level_by : (o : Option (Option Certificate)) → IfSome o IsHeldLevel → IfSome (option_and_then (λ c. c) o) IsHeld
  level_by None h = tt
  level_by (Some None) h = tt
  level_by (Some (Some c)) h = h

  with_node_sized : (compound : Bool) (n : ℕ) (ms : Members) → AreMembersSized ms → AreMembersSized (with_node compound doc p n ms)
  with_node_sized false n ms h = place_sized (slice_get p.boxes n) ms (slot IsSmallBox p.boxes n small.boxes) h
  with_node_sized true n ms h =
      let box = slot IsSmallBox p.boxes n small.boxes in
      with_layering_sized (is_split doc n) (option_and_then (λ c. c) (slice_get p.levels n)) (with_size (slice_get p.boxes n) (with_place (slice_get p.boxes n) ms))
      (level_by (slice_get p.levels n) (slot IsHeldLevel p.levels n held))
      (size_sized (slice_get p.boxes n) (with_place (slice_get p.boxes n) ms) box (place_sized (slice_get p.boxes n) ms box h))

  parts_edges_sized : (b : Bool) (at : Numbers) (ds : Items) → AreItemsSized ds → AreSized (if b then array (edge_answers doc p at.edge ds) else array ds)
  parts_edges_sized true at ds h = edges_sized at.edge ds h
  parts_edges_sized false at ds h = h

  parts_ports_sized : (b c : Bool) (at : Numbers) (ds : Items) → AreItemsSized ds → AreSized (if b then array (port_answers p at.port ds) else (if c then array (edge_answers doc p at.edge ds) else array ds))
  parts_ports_sized true c at ds h = ports_sized at.port ds h
  parts_ports_sized false c at ds h = parts_edges_sized c at ds h

  children_sized : (b : Bool) (at below : Numbers) (k : List ℕ) (ds : Items) → AreItemsSized ds → AreItemsSized (answer_children doc p below ds)
      → AreSized (if b then array (answer_children doc p below ds) else parts_answer doc p at k ds)
  children_sized true at below k ds h ih = ih
  children_sized false at below k ds h ih = parts_ports_sized (bytes_eq k (codes "ports")) (bytes_eq k (codes "edges")) at ds h

  mutual
    pub answer_sized : (d : Data) (at : Numbers) (root : Bool) → AreSized d → AreSized (answer_node doc p at root d)
    answer_sized (object ms) at root h =
        with_node_sized (root || has_children (object ms)) at.node (answer_into doc p at (root || has_children (object ms)) (past_own at (object ms)) no_members ms)
        (inside_sized ms at (root || has_children (object ms)) (past_own at (object ms)) no_members h tt)
    answer_sized d at root h = h

    inside_sized : (ms : Members) (at : Numbers) (compound : Bool) (below : Numbers) (into : Members) → AreMembersSized ms → AreMembersSized into → AreMembersSized (answer_into doc p at compound below into ms)
    inside_sized no_members at compound below into h g = g
    inside_sized (member k d ms) at compound below into h g = elim (cases_Bool (is_node_key compound k)) [
      | inl is ↦ rw is (inside_sized ms at compound below into h.1 g)
      | inr is ↦ rw is (inside_sized ms at compound (past_member k below d) (put k (answer_member doc p at below k d) into) h.1 (sized_put k (answer_member doc p at below k d) into (one_sized d at below k h.0) g))
    ]

    one_sized : (d : Data) (at below : Numbers) (k : List ℕ) → AreSized d → AreSized (answer_member doc p at below k d)
    one_sized (array ds) at below k h = children_sized (bytes_eq k (codes "children")) at below k ds h (each_sized ds below h)
    one_sized d at below k h = h

    each_sized : (ds : Items) (at : Numbers) → AreItemsSized ds → AreItemsSized (answer_children doc p at ds)
    each_sized no_items at h = h
    each_sized (item d ds) at h = (answer_sized d at false h.0, each_sized ds (past_node at d) h.1)
