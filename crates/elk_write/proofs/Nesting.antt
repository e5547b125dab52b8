-- How deep an answer nests: no deeper than its value, or than the written members of its levels.
use Rattle.std.proofs.Common.{◌≡◌, ℕ, ◌+◌, ◌*◌, ◌≤◌, max, ℤ, pos, negsuc, List, [], ◌∷◌, ◌++◌, map, Ordering, Less, Bool, true, false, bytes_eq, refl, subst, Option, Some, None, arith, inl, inr}
use Rattle.std.proofs.lemmas.Bool.{cases_Bool}
use Rattle.std.specs.Prelude.{codes, ◌||◌, if◌then◌else◌, option_and_then, slice_get}
use Rattle.std.specs.Ordering.{match_ordering}
use Rattle.serde_json.specs.Data.{Data, array, object, Items, no_items, item, Members, no_members, member, put, depth, items_depth, members_depth}
use Rattle.serde_json.specs.Read.{max_depth}
use Rattle.serde_json.specs.View.{items_of}
use Rattle.elk_doc.specs.declared.document.Id.{Id}
use Rattle.elk_doc.specs.declared.document.Id.TheVariants.{Text, Whole}
use Rattle.elk_doc.specs.declared.document.Edge.{Edge}
use Rattle.drawing_types.specs.declared.shape.Point.{Point}
use Rattle.drawing_types.specs.declared.shape.Rect.{Rect}
use Rattle.drawing_types.specs.declared.section.Section.{Section}
use Rattle.elk_doc.specs.declared.drawing.Certificate.{Certificate}
use Rattle.elk_doc.specs.declared.drawing.Placed.{Placed}
use Rattle.elk_doc.specs.Document.{Document}
use Rattle.elk_json.specs.Members.{has_children}
use Rattle.elk_json.specs.Keyed.{IsBelow, IsKeyed, AreItemsKeyed, AreMembersKeyed}
use Rattle.elk_json.specs.Ranges.{levels, levels_below, levels_within, levels_among}
use Rattle.elk_json.specs.Rules.{refused}
use Rattle.elk_write.specs.declared.numbers.Numbers.{Numbers}
use Rattle.elk_write.specs.Keys.{is_node_key, is_flat_key}
use Rattle.elk_write.specs.Numbers.{from_zero, past_own, past_node, past_member}
use Rattle.elk_write.specs.Values.{whole, point_data, id_data, end_members, with_bends, sections_data, edge_id, edge_ids, layering_data}
use Rattle.elk_write.specs.Written.{is_split}
use Rattle.elk_write.specs.Answered.{kept_into, with_point, port_answer, port_answers, with_sections, edge_answer, edge_answers, with_place, with_size, with_layering, with_node, answer_node, answer_into, answer_member, answer_children, parts_answer}
use Rattle.elk_write.proofs.Puts.{cmp}
use Rattle.elk_write.proofs.Shape.{equal_bytes, is_reversed, below_apart}
use Rattle.elk_write.proofs.Law.{answer_of}
use Rattle.elk_write.proofs.NotRefused.{few_levels}

deep_by : (o : Ordering) (k l : List ℕ) (d e : Data) (ms : Members) → members_depth (put k d ms) ≤ max (depth d) (members_depth ms)
    → members_depth (match_ordering o (member k d (member l e ms)) (member l d ms) (member l e (put k d ms))) ≤ max (depth d) (members_depth (member l e ms))
deep_by Less k l d e ms h = omega arith
deep_by o k l d e ms h = omega arith

put_deep : (k : List ℕ) (d : Data) (ms : Members) → members_depth (put k d ms) ≤ max (depth d) (members_depth ms)
put_deep k d no_members = omega arith
put_deep k d (member l e ms) = deep_by (cmp k l) k l d e ms (put_deep k d ms)

-- ---- written values

whole_flat : (z : ℤ) → depth (whole z) ≡ 0
whole_flat (pos n) = refl
whole_flat (negsuc n) = refl

wholes_deep : (ns : List ℕ) → items_depth (items_of (map (λ n. whole (pos n)) ns)) ≤ 0
wholes_deep [] = omega arith
wholes_deep (n ∷ ns) = omega (arith, whole_flat (pos n), wholes_deep ns)

point_deep : (q : Point) → depth (point_data q) ≤ 1
point_deep q = omega (arith, whole_flat q.x, whole_flat q.y)

points_deep : (ps : List Point) → items_depth (items_of (map point_data ps)) ≤ 1
points_deep [] = omega arith
points_deep (q ∷ ps) = omega (arith, point_deep q, points_deep ps)

bends_deep : (ps : List Point) (id : Id) (s : Section) → members_depth (with_bends ps (end_members id s)) ≤ 2
bends_deep [] id s = omega (arith, point_deep s.start, point_deep s.end)
bends_deep (q ∷ ps) id s = omega (arith, point_deep s.start, point_deep s.end, points_deep (q ∷ ps))

sections_deep : (id : Id) (s : Section) → depth (sections_data id s) ≤ 4
sections_deep id s = omega (arith, bends_deep s.bends id s)

id_flat : (id : Id) → depth (id_data id) ≡ 0
id_flat (Text s) = refl
id_flat (Whole z) = whole_flat z

before_deep : (o : Option Edge) (ds : List Data) → items_depth (items_of ds) ≤ 0 → items_depth (items_of (edge_id o ++ ds)) ≤ 0
before_deep None ds h = h
before_deep (Some e) ds h = omega (arith, id_flat e.id)

ids_deep : (doc : Document) (ns : List ℕ) → items_depth (items_of (edge_ids doc ns)) ≤ 0
ids_deep doc [] = omega arith
ids_deep doc (n ∷ ns) = before_deep (slice_get doc.edges n) (edge_ids doc ns) (ids_deep doc ns)

layering_deep : (doc : Document) (split : Bool) (c : Certificate) → depth (layering_data doc split c) ≤ 2
layering_deep doc true c = omega (arith, wholes_deep c.flow, wholes_deep c.layers, wholes_deep c.parts, ids_deep doc c.reversed, whole_flat (pos c.span))
layering_deep doc false c = omega (arith, wholes_deep c.flow, wholes_deep c.layers, ids_deep doc c.reversed, whole_flat (pos c.span))

-- ---- ports and edges

kept_deep : (edge : Bool) (ms into : Members) → members_depth (kept_into edge into ms) ≤ max (members_depth into) (members_depth ms)
kept_deep edge no_members into = omega arith
kept_deep edge (member k d ms) into = elim (cases_Bool (is_flat_key edge k)) [
  | inl is ↦ rw is (omega (arith, kept_deep edge ms into))
  | inr is ↦ rw is (omega (arith, kept_deep edge ms (put k d into), put_deep k d into))
]

-- two numbers put into members
numbers_deep : (k l : List ℕ) (y z : ℤ) (ms : Members) → members_depth (put k (whole y) (put l (whole z) ms)) ≤ members_depth ms
numbers_deep k l y z ms = omega (arith, put_deep k (whole y) (put l (whole z) ms), put_deep l (whole z) ms, whole_flat y, whole_flat z)

with_point_deep : (o : Option Point) (ms : Members) → members_depth (with_point o ms) ≤ members_depth ms
with_point_deep None ms = omega arith
with_point_deep (Some q) ms = numbers_deep (codes "y") (codes "x") q.y q.x ms

port_deep : (o : Option Point) (d : Data) → depth (port_answer o d) ≤ depth d
port_deep o (object ms) = omega (arith, with_point_deep o (kept_into false no_members ms), kept_deep false ms no_members)
port_deep o d = omega arith

ports_deep : (p : Placed) (n : ℕ) (ds : Items) → items_depth (port_answers p n ds) ≤ items_depth ds
ports_deep p n no_items = omega arith
ports_deep p n (item d ds) = omega (arith, port_deep (slice_get p.ports n) d, ports_deep p (n + 1) ds)

with_sections_deep : (e : Option Edge) (s : Option Section) (ms : Members) → members_depth (with_sections e s ms) ≤ max 4 (members_depth ms)
with_sections_deep None s ms = omega arith
with_sections_deep (Some e) None ms = omega arith
with_sections_deep (Some e) (Some s) ms = omega (arith, put_deep (codes "sections") (sections_data e.id s) ms, sections_deep e.id s)

edge_deep : (e : Option Edge) (s : Option Section) (d : Data) → depth (edge_answer e s d) ≤ max 5 (depth d)
edge_deep e s (object ms) = omega (arith, with_sections_deep e s (kept_into true no_members ms), kept_deep true ms no_members)
edge_deep e s d = omega arith

edges_deep : (doc : Document) (p : Placed) (n : ℕ) (ds : Items) → items_depth (edge_answers doc p n ds) ≤ max 5 (items_depth ds)
edges_deep doc p n no_items = omega arith
edges_deep doc p n (item d ds) = omega (arith, edge_deep (slice_get doc.edges n) (slice_get p.sections n) d, edges_deep doc p (n + 1) ds)

-- ---- nodes

place_deep : (box : Option Rect) (ms : Members) → members_depth (with_place box ms) ≤ members_depth ms
place_deep None ms = omega arith
place_deep (Some r) ms = numbers_deep (codes "y") (codes "x") r.y r.x ms

size_deep : (box : Option Rect) (ms : Members) → members_depth (with_size box ms) ≤ members_depth ms
size_deep None ms = omega arith
size_deep (Some r) ms = numbers_deep (codes "height") (codes "width") r.height r.width ms

with_layering_deep : (doc : Document) (split : Bool) (c : Option Certificate) (ms : Members) → members_depth (with_layering doc split c ms) ≤ max 2 (members_depth ms)
with_layering_deep doc split None ms = omega arith
with_layering_deep doc split (Some c) ms = omega (arith, put_deep (codes "layering") (layering_data doc split c) ms, layering_deep doc split c)

with_node_deep : (compound : Bool) (doc : Document) (p : Placed) (n : ℕ) (ms : Members) → members_depth (with_node compound doc p n ms) ≤ max 2 (members_depth ms)
with_node_deep false doc p n ms = omega (arith, place_deep (slice_get p.boxes n) ms)
with_node_deep true doc p n ms =
    omega (
      arith,
      place_deep (slice_get p.boxes n) ms,
      size_deep (slice_get p.boxes n) (with_place (slice_get p.boxes n) ms),
      with_layering_deep doc (is_split doc n) (option_and_then (λ c. c) (slice_get p.levels n)) (with_size (slice_get p.boxes n) (with_place (slice_get p.boxes n) ms)),
    )

parts_deep : (b c : Bool) (doc : Document) (p : Placed) (at : Numbers) (ds : Items)
    → depth (if b then array (port_answers p at.port ds) else (if c then array (edge_answers doc p at.edge ds) else array ds)) ≤ max 6 (depth (array ds))
parts_deep true c doc p at ds = omega (arith, ports_deep p at.port ds)
parts_deep false true doc p at ds = omega (arith, edges_deep doc p at.edge ds)
parts_deep false false doc p at ds = omega arith

-- behind the children stands no other member of that name
levels_none : (k : List ℕ) (ms : Members) → k ≡ codes "children" → IsBelow k ms → levels_below ms ≡ 0
levels_none k no_members e h = refl
levels_none k (member l d ms) e h =
    let away : bytes_eq l (codes "children") ≡ false = subst (λ c. bytes_eq l c ≡ false) e (is_reversed k l (below_apart k l h.0)) in
    rw away (levels_none k ms e h.1)

module _ (doc : Document) (p : Placed) where
  -- at a member: its own depth and levels, and those of the members behind it
  one_deep : (b : Bool) (at below : Numbers) (k : List ℕ) (ds : Items) → items_depth (answer_children doc p below ds) ≤ max (items_depth ds) (2 * levels_among ds + 5)
      → depth (if b then array (answer_children doc p below ds) else parts_answer doc p at k ds) ≤ max (depth (array ds)) (if b then 2 * levels_among ds + 6 else 6)
  one_deep true at below k ds ih = omega arith
  one_deep false at below k ds ih = omega (arith, parts_deep (bytes_eq k (codes "ports")) (bytes_eq k (codes "edges")) doc p at ds)

  abbrev Within : Bool → ℕ → Data → ℕ → Type 0
  Within b n d m = m ≤ max (depth d) (if b then 2 * n + 6 else 6)

  into_deep : (gone b : Bool) (at below : Numbers) (compound : Bool) (k : List ℕ) (d : Data) (ms into : Members) → is_node_key compound k ≡ gone → bytes_eq k (codes "children") ≡ b
      → (b ≡ true → levels_below ms ≡ 0) → Within b (levels_within d) d (depth (answer_member doc p at below k d))
      → ((below : Numbers) (into : Members) → members_depth (answer_into doc p at compound below into ms) ≤ max (members_depth into) (max (members_depth ms) (2 * levels_below ms + 6)))
      → members_depth (answer_into doc p at compound below into (member k d ms)) ≤ max (members_depth into) (max (members_depth (member k d ms)) (2 * levels_below (member k d ms) + 6))
  into_deep true true at below compound k d ms into is here none one ih = rw (is, here) (omega (arith, ih below into, none refl))
  into_deep true false at below compound k d ms into is here none one ih = rw (is, here) (omega (arith, ih below into))
  into_deep false true at below compound k d ms into is here none one ih =
      let v = answer_member doc p at below k d in
      rw (is, here) (omega (arith, ih (past_member k below d) (put k v into), put_deep k v into, none refl, one))
  into_deep false false at below compound k d ms into is here none one ih =
      let v = answer_member doc p at below k d in
      rw (is, here) (omega (arith, ih (past_member k below d) (put k v into), put_deep k v into, one))

  mutual
    answer_deep : (d : Data) (at : Numbers) (root : Bool) → IsKeyed d → depth (answer_node doc p at root d) ≤ max (depth d) (2 * levels d + 7)
    answer_deep (object ms) at root h =
        let compound = root || has_children (object ms) in
        omega (arith, with_node_deep compound doc p at.node (answer_into doc p at compound (past_own at (object ms)) no_members ms), inside_deep ms at compound (past_own at (object ms)) no_members h)
    answer_deep d at root h = omega arith

    inside_deep : (ms : Members) (at : Numbers) (compound : Bool) (below : Numbers) (into : Members) → AreMembersKeyed ms
        → members_depth (answer_into doc p at compound below into ms) ≤ max (members_depth into) (max (members_depth ms) (2 * levels_below ms + 6))
    inside_deep no_members at compound below into h = omega arith
    inside_deep (member k d ms) at compound below into h =
        into_deep (is_node_key compound k) (bytes_eq k (codes "children")) at below compound k d ms into refl refl
        (λ e. levels_none k ms (equal_bytes k (codes "children") e) h.0) (member_deep d at below k h.1) (λ b i. inside_deep ms at compound b i h.2)

    member_deep : (d : Data) (at below : Numbers) (k : List ℕ) → IsKeyed d → Within (bytes_eq k (codes "children")) (levels_within d) d (depth (answer_member doc p at below k d))
    member_deep (array ds) at below k h = one_deep (bytes_eq k (codes "children")) at below k ds (each_deep ds below h)
    member_deep d at below k h = omega arith

    each_deep : (ds : Items) (at : Numbers) → AreItemsKeyed ds → items_depth (answer_children doc p at ds) ≤ max (items_depth ds) (2 * levels_among ds + 5)
    each_deep no_items at h = omega arith
    each_deep (item d ds) at h = omega (arith, answer_deep d at false h.0, each_deep ds (past_node at d) h.1)

pub answer_nests : (doc : Document) (p : Placed) (v : Data) → IsKeyed v → refused v ≡ None → depth v ≤ max_depth → depth (answer_of doc p v) ≤ max_depth
answer_nests doc p v keyed free h = omega (arith, answer_deep doc p v from_zero true keyed, few_levels v free)
