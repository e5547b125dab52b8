-- No float arises, and keys ascend.
use Rattle.std.proofs.Common.{◌≡◌, ℕ, ◌+◌, ℤ, pos, negsuc, List, [], ◌∷◌, ◌++◌, map, Ordering, Less, Equal, Greater, Bool, true, false, bytes_eq, refl, Option, Some, None, inl, inr}
use Rattle.std.proofs.lemmas.Bool.{and_parts, or_from, or_parts, cases_Bool}
use Rattle.std.specs.Prelude.{codes, ◌||◌, if◌then◌else◌, option_and_then, slice_get}
use Rattle.std.specs.Ordering.{match_ordering}
use Rattle.serde_json.specs.Data.{Data, number, string, array, object, Items, no_items, item, Members, no_members, member, put}
use Rattle.serde_json.specs.Find.{is_float}
use Rattle.serde_json.specs.View.{items_of}
use Rattle.serde_json.specs.Written.{has_float, items_have_float, members_have_float}
use Rattle.elk_doc.specs.declared.document.Id.{Id}
use Rattle.elk_doc.specs.declared.document.Id.TheVariants.{Text, Whole}
use Rattle.elk_doc.specs.declared.document.Edge.{Edge}
use Rattle.drawing_types.specs.declared.shape.Point.{Point}
use Rattle.drawing_types.specs.declared.shape.Rect.{Rect}
use Rattle.drawing_types.specs.declared.section.Section.{Section}
use Rattle.elk_doc.specs.declared.drawing.Certificate.{Certificate}
use Rattle.elk_doc.specs.declared.drawing.Placed.{Placed}
use Rattle.elk_doc.specs.Document.{Document}
use Rattle.elk_json.specs.Members.{has_children}
use Rattle.elk_json.specs.Whole.{all_whole, items_whole, members_whole}
use Rattle.elk_json.specs.Keyed.{IsBelow, IsKeyed, AreItemsKeyed, AreMembersKeyed}
use Rattle.elk_json.proofs.KeyedRead.{keyed_put}
use Rattle.elk_write.specs.declared.numbers.Numbers.{Numbers}
use Rattle.elk_write.specs.Keys.{is_node_key, is_flat_key}
use Rattle.elk_write.specs.Numbers.{past_own, past_node, past_member}
use Rattle.elk_write.specs.Values.{whole, wholes, point_data, id_data, section_id, end_members, with_bends, sections_data, edge_id, edge_ids, layering_data}
use Rattle.elk_write.specs.Written.{is_split}
use Rattle.elk_write.specs.Answered.{kept_into, with_point, port_answer, port_answers, with_sections, edge_answer, edge_answers, with_place, with_size, with_layering, with_node, answer_node, answer_into, answer_member, answer_children, parts_answer}
use Rattle.elk_write.proofs.Puts.{cmp}
use Rattle.elk_write.proofs.Known.{not_true}

abbrev pub IsClean : Data → Type 0
IsClean d = (has_float d ≡ false) × IsKeyed d

abbrev pub AreItemsClean : Items → Type 0
AreItemsClean ds = (items_have_float ds ≡ false) × AreItemsKeyed ds

abbrev pub AreMembersClean : Members → Type 0
AreMembersClean ms = (members_have_float ms ≡ false) × AreMembersKeyed ms

first_clean : (k : List ℕ) (d : Data) (ms : Members) → AreMembersClean (member k d ms) → IsClean d
first_clean k d ms h = ((or_parts (has_float d) (members_have_float ms) h.0).0, h.1.1)

rest_clean : (k : List ℕ) (d : Data) (ms : Members) → AreMembersClean (member k d ms) → AreMembersClean ms
rest_clean k d ms h = ((or_parts (has_float d) (members_have_float ms) h.0).1, h.1.2)

item_clean : (d : Data) (ds : Items) → IsClean d → AreItemsClean ds → AreItemsClean (item d ds)
item_clean d ds h k = (or_from (has_float d) (items_have_float ds) h.0 k.0, (h.1, k.1))

member_clean : (key : List ℕ) (d : Data) (ms : Members) → IsBelow key ms → IsClean d → AreMembersClean ms → AreMembersClean (member key d ms)
member_clean key d ms b h k = (or_from (has_float d) (members_have_float ms) h.0 k.0, (b, h.1, k.1))

float_by : (o : Ordering) (k l : List ℕ) (d e : Data) (ms : Members) → has_float d ≡ false → members_have_float (member l e ms) ≡ false → members_have_float (put k d ms) ≡ false
    → members_have_float (match_ordering o (member k d (member l e ms)) (member l d ms) (member l e (put k d ms))) ≡ false
float_by Less k l d e ms hd h ih = or_from (has_float d) (members_have_float (member l e ms)) hd h
float_by Equal k l d e ms hd h ih = or_from (has_float d) (members_have_float ms) hd (or_parts (has_float e) (members_have_float ms) h).1
float_by Greater k l d e ms hd h ih = or_from (has_float e) (members_have_float (put k d ms)) (or_parts (has_float e) (members_have_float ms) h).0 ih

float_put : (k : List ℕ) (d : Data) (ms : Members) → has_float d ≡ false → members_have_float ms ≡ false → members_have_float (put k d ms) ≡ false
float_put k d no_members hd h = or_from (has_float d) false hd refl
float_put k d (member l e ms) hd h = float_by (cmp k l) k l d e ms hd h (float_put k d ms hd (or_parts (has_float e) (members_have_float ms) h).1)

pub put_clean : (k : List ℕ) (d : Data) (ms : Members) → IsClean d → AreMembersClean ms → AreMembersClean (put k d ms)
put_clean k d ms h hs = (float_put k d ms h.0 hs.0, keyed_put k d ms h.1 hs.1)

-- ---- a whole value has no float

mutual
  pub float_whole : (d : Data) → all_whole d ≡ true → has_float d ≡ false
  float_whole (number n) h = not_true (is_float n) h
  float_whole (array ds) h = float_items ds h
  float_whole (object ms) h = float_members ms h
  float_whole d h = refl

  float_items : (ds : Items) → items_whole ds ≡ true → items_have_float ds ≡ false
  float_items no_items h = refl
  float_items (item d ds) h = or_from (has_float d) (items_have_float ds) (float_whole d (and_parts (all_whole d) (items_whole ds) h).0) (float_items ds (and_parts (all_whole d) (items_whole ds) h).1)

  float_members : (ms : Members) → members_whole ms ≡ true → members_have_float ms ≡ false
  float_members no_members h = refl
  float_members (member k d ms) h = or_from (has_float d) (members_have_float ms) (float_whole d (and_parts (all_whole d) (members_whole ms) h).0) (float_members ms (and_parts (all_whole d) (members_whole ms) h).1)

-- ---- written values

whole_clean : (z : ℤ) → IsClean (whole z)
whole_clean (pos n) = (refl, tt)
whole_clean (negsuc n) = (refl, tt)

wholes_clean : (ns : List ℕ) → AreItemsClean (items_of (map (λ n. whole (pos n)) ns))
wholes_clean [] = (refl, tt)
wholes_clean (n ∷ ns) = item_clean (whole (pos n)) (items_of (map (λ n. whole (pos n)) ns)) (whole_clean (pos n)) (wholes_clean ns)

none_clean : AreMembersClean no_members
none_clean = (refl, tt)

point_clean : (q : Point) → IsClean (point_data q)
point_clean q = member_clean (codes "x") (whole q.x) (member (codes "y") (whole q.y) no_members) (refl, tt) (whole_clean q.x) (member_clean (codes "y") (whole q.y) no_members tt (whole_clean q.y) none_clean)

points_clean : (ps : List Point) → AreItemsClean (items_of (map point_data ps))
points_clean [] = (refl, tt)
points_clean (q ∷ ps) = item_clean (point_data q) (items_of (map point_data ps)) (point_clean q) (points_clean ps)

id_clean : (id : Id) → IsClean (id_data id)
id_clean (Text s) = (refl, tt)
id_clean (Whole z) = whole_clean z

end_clean : (id : Id) (s : Section) → AreMembersClean (end_members id s)
end_clean id s =
    let start = member (codes "startPoint") (point_data s.start) no_members in
    let named = member (codes "id") (string (section_id id)) start in
    member_clean (codes "endPoint") (point_data s.end) named (refl, (refl, tt)) (point_clean s.end)
    (member_clean (codes "id") (string (section_id id)) start (refl, tt) (refl, tt) (member_clean (codes "startPoint") (point_data s.start) no_members tt (point_clean s.start) none_clean))

bends_clean : (ps : List Point) (id : Id) (s : Section) → AreMembersClean (with_bends ps (end_members id s))
bends_clean [] id s = end_clean id s
bends_clean (q ∷ ps) id s = member_clean (codes "bendPoints") (array (items_of (map point_data (q ∷ ps)))) (end_members id s) (refl, (refl, (refl, tt))) (points_clean (q ∷ ps)) (end_clean id s)

sections_clean : (id : Id) (s : Section) → IsClean (sections_data id s)
sections_clean id s = item_clean (object (with_bends s.bends (end_members id s))) no_items (bends_clean s.bends id s) (refl, tt)

before_clean : (o : Option Edge) (ds : List Data) → AreItemsClean (items_of ds) → AreItemsClean (items_of (edge_id o ++ ds))
before_clean None ds h = h
before_clean (Some e) ds h = item_clean (id_data e.id) (items_of ds) (id_clean e.id) h

ids_clean : (doc : Document) (ns : List ℕ) → AreItemsClean (items_of (edge_ids doc ns))
ids_clean doc [] = (refl, tt)
ids_clean doc (n ∷ ns) = before_clean (slice_get doc.edges n) (edge_ids doc ns) (ids_clean doc ns)

span_clean : (c : Certificate) → AreMembersClean (member (codes "span") (whole (pos c.span)) no_members)
span_clean c = member_clean (codes "span") (whole (pos c.span)) no_members tt (whole_clean (pos c.span)) none_clean

reversed_clean : (doc : Document) (c : Certificate) → AreMembersClean (member (codes "reversed") (array (items_of (edge_ids doc c.reversed))) (member (codes "span") (whole (pos c.span)) no_members))
reversed_clean doc c = member_clean (codes "reversed") (array (items_of (edge_ids doc c.reversed))) (member (codes "span") (whole (pos c.span)) no_members) (refl, tt) (ids_clean doc c.reversed) (span_clean c)

layering_clean : (doc : Document) (split : Bool) (c : Certificate) → IsClean (layering_data doc split c)
layering_clean doc true c =
    let back = member (codes "reversed") (array (items_of (edge_ids doc c.reversed))) (member (codes "span") (whole (pos c.span)) no_members) in
    let parts = member (codes "parts") (wholes c.parts) back in
    let layers = member (codes "layers") (wholes c.layers) parts in
    member_clean (codes "flow") (wholes c.flow) layers (refl, (refl, (refl, (refl, tt)))) (wholes_clean c.flow)
    (member_clean (codes "layers") (wholes c.layers) parts (refl, (refl, (refl, tt))) (wholes_clean c.layers)
    (member_clean (codes "parts") (wholes c.parts) back (refl, (refl, tt)) (wholes_clean c.parts) (reversed_clean doc c)))
layering_clean doc false c =
    let back = member (codes "reversed") (array (items_of (edge_ids doc c.reversed))) (member (codes "span") (whole (pos c.span)) no_members) in
    let layers = member (codes "layers") (wholes c.layers) back in
    member_clean (codes "flow") (wholes c.flow) layers (refl, (refl, (refl, tt))) (wholes_clean c.flow)
    (member_clean (codes "layers") (wholes c.layers) back (refl, (refl, tt)) (wholes_clean c.layers) (reversed_clean doc c))

-- ---- ports and edges

kept_clean : (edge : Bool) (ms into : Members) → AreMembersClean ms → AreMembersClean into → AreMembersClean (kept_into edge into ms)
kept_clean edge no_members into h g = g
kept_clean edge (member k d ms) into h g = elim (cases_Bool (is_flat_key edge k)) [
  | inl is ↦ rw is (kept_clean edge ms into (rest_clean k d ms h) g)
  | inr is ↦ rw is (kept_clean edge ms (put k d into) (rest_clean k d ms h) (put_clean k d into (first_clean k d ms h) g))
]

with_point_clean : (o : Option Point) (ms : Members) → AreMembersClean ms → AreMembersClean (with_point o ms)
with_point_clean None ms h = h
with_point_clean (Some q) ms h = put_clean (codes "y") (whole q.y) (put (codes "x") (whole q.x) ms) (whole_clean q.y) (put_clean (codes "x") (whole q.x) ms (whole_clean q.x) h)

port_clean : (o : Option Point) (d : Data) → IsClean d → IsClean (port_answer o d)
port_clean o (object ms) h = with_point_clean o (kept_into false no_members ms) (kept_clean false ms no_members h none_clean)
port_clean o d h = h

with_sections_clean : (e : Option Edge) (s : Option Section) (ms : Members) → AreMembersClean ms → AreMembersClean (with_sections e s ms)
with_sections_clean None s ms h = h
with_sections_clean (Some e) None ms h = h
with_sections_clean (Some e) (Some s) ms h = put_clean (codes "sections") (sections_data e.id s) ms (sections_clean e.id s) h

edge_clean : (e : Option Edge) (s : Option Section) (d : Data) → IsClean d → IsClean (edge_answer e s d)
edge_clean e s (object ms) h = with_sections_clean e s (kept_into true no_members ms) (kept_clean true ms no_members h none_clean)
edge_clean e s d h = h

head_clean : (d : Data) (ds : Items) → AreItemsClean (item d ds) → IsClean d
head_clean d ds h = ((or_parts (has_float d) (items_have_float ds) h.0).0, h.1.0)

tail_clean : (d : Data) (ds : Items) → AreItemsClean (item d ds) → AreItemsClean ds
tail_clean d ds h = ((or_parts (has_float d) (items_have_float ds) h.0).1, h.1.1)

ports_clean : (p : Placed) (n : ℕ) (ds : Items) → AreItemsClean ds → AreItemsClean (port_answers p n ds)
ports_clean p n no_items h = h
ports_clean p n (item d ds) h = item_clean (port_answer (slice_get p.ports n) d) (port_answers p (n + 1) ds) (port_clean (slice_get p.ports n) d (head_clean d ds h)) (ports_clean p (n + 1) ds (tail_clean d ds h))

edges_clean : (doc : Document) (p : Placed) (n : ℕ) (ds : Items) → AreItemsClean ds → AreItemsClean (edge_answers doc p n ds)
edges_clean doc p n no_items h = h
edges_clean doc p n (item d ds) h =
    item_clean (edge_answer (slice_get doc.edges n) (slice_get p.sections n) d) (edge_answers doc p (n + 1) ds) (edge_clean (slice_get doc.edges n) (slice_get p.sections n) d (head_clean d ds h)) (edges_clean doc p (n + 1) ds (tail_clean d ds h))

-- ---- nodes

place_clean : (box : Option Rect) (ms : Members) → AreMembersClean ms → AreMembersClean (with_place box ms)
place_clean None ms h = h
place_clean (Some r) ms h = put_clean (codes "y") (whole r.y) (put (codes "x") (whole r.x) ms) (whole_clean r.y) (put_clean (codes "x") (whole r.x) ms (whole_clean r.x) h)

size_clean : (box : Option Rect) (ms : Members) → AreMembersClean ms → AreMembersClean (with_size box ms)
size_clean None ms h = h
size_clean (Some r) ms h = put_clean (codes "height") (whole r.height) (put (codes "width") (whole r.width) ms) (whole_clean r.height) (put_clean (codes "width") (whole r.width) ms (whole_clean r.width) h)

with_layering_clean : (doc : Document) (split : Bool) (c : Option Certificate) (ms : Members) → AreMembersClean ms → AreMembersClean (with_layering doc split c ms)
with_layering_clean doc split None ms h = h
with_layering_clean doc split (Some c) ms h = put_clean (codes "layering") (layering_data doc split c) ms (layering_clean doc split c) h

with_node_clean : (compound : Bool) (doc : Document) (p : Placed) (n : ℕ) (ms : Members) → AreMembersClean ms → AreMembersClean (with_node compound doc p n ms)
with_node_clean false doc p n ms h = place_clean (slice_get p.boxes n) ms h
with_node_clean true doc p n ms h =
    with_layering_clean doc (is_split doc n) (option_and_then (λ c. c) (slice_get p.levels n)) (with_size (slice_get p.boxes n) (with_place (slice_get p.boxes n) ms))
    (size_clean (slice_get p.boxes n) (with_place (slice_get p.boxes n) ms) (place_clean (slice_get p.boxes n) ms h))

parts_edges_clean : (b : Bool) (doc : Document) (p : Placed) (at : Numbers) (ds : Items) → AreItemsClean ds → IsClean (if b then array (edge_answers doc p at.edge ds) else array ds)
parts_edges_clean true doc p at ds h = edges_clean doc p at.edge ds h
parts_edges_clean false doc p at ds h = h

parts_ports_clean : (b c : Bool) (doc : Document) (p : Placed) (at : Numbers) (ds : Items) → AreItemsClean ds
    → IsClean (if b then array (port_answers p at.port ds) else (if c then array (edge_answers doc p at.edge ds) else array ds))
parts_ports_clean true c doc p at ds h = ports_clean p at.port ds h
parts_ports_clean false c doc p at ds h = parts_edges_clean c doc p at ds h

children_clean : (b : Bool) (doc : Document) (p : Placed) (at below : Numbers) (k : List ℕ) (ds : Items) → AreItemsClean ds → AreItemsClean (answer_children doc p below ds)
    → IsClean (if b then array (answer_children doc p below ds) else parts_answer doc p at k ds)
children_clean true doc p at below k ds h ih = ih
children_clean false doc p at below k ds h ih = parts_ports_clean (bytes_eq k (codes "ports")) (bytes_eq k (codes "edges")) doc p at ds h

mutual
  pub answer_clean : (d : Data) (doc : Document) (p : Placed) (at : Numbers) (root : Bool) → IsClean d → IsClean (answer_node doc p at root d)
  answer_clean (object ms) doc p at root h =
      with_node_clean (root || has_children (object ms)) doc p at.node (answer_into doc p at (root || has_children (object ms)) (past_own at (object ms)) no_members ms)
      (inside_clean ms doc p at (root || has_children (object ms)) (past_own at (object ms)) no_members h none_clean)
  answer_clean d doc p at root h = h

  inside_clean : (ms : Members) (doc : Document) (p : Placed) (at : Numbers) (compound : Bool) (below : Numbers) (into : Members) → AreMembersClean ms → AreMembersClean into
      → AreMembersClean (answer_into doc p at compound below into ms)
  inside_clean no_members doc p at compound below into h g = g
  inside_clean (member k d ms) doc p at compound below into h g = elim (cases_Bool (is_node_key compound k)) [
    | inl is ↦ rw is (inside_clean ms doc p at compound below into (rest_clean k d ms h) g)
    | inr is ↦ rw is (inside_clean ms doc p at compound (past_member k below d) (put k (answer_member doc p at below k d) into) (rest_clean k d ms h) (put_clean k (answer_member doc p at below k d) into (one_clean d doc p at below k (first_clean k d ms h)) g))
  ]

  one_clean : (d : Data) (doc : Document) (p : Placed) (at below : Numbers) (k : List ℕ) → IsClean d → IsClean (answer_member doc p at below k d)
  one_clean (array ds) doc p at below k h = children_clean (bytes_eq k (codes "children")) doc p at below k ds h (each_clean ds doc p below h)
  one_clean d doc p at below k h = h

  each_clean : (ds : Items) (doc : Document) (p : Placed) (at : Numbers) → AreItemsClean ds → AreItemsClean (answer_children doc p at ds)
  each_clean no_items doc p at h = h
  each_clean (item d ds) doc p at h =
      item_clean (answer_node doc p at false d) (answer_children doc p (past_node at d) ds) (answer_clean d doc p at false (head_clean d ds h)) (each_clean ds doc p (past_node at d) (tail_clean d ds h))
