-- The answer without the written members is the value without them.
use Rattle.std.proofs.Common.{◌≡◌, ℕ, ◌+◌, List, Bool, true, false, bytes_eq, refl, sym, ap, ◌∙◌, Option, Some, None, inl, inr}
use Rattle.std.proofs.lemmas.Bool.{cases_Bool}
use Rattle.std.specs.Prelude.{codes, ◌||◌, option_and_then, slice_get}
use Rattle.serde_json.specs.Data.{Data, array, object, Items, no_items, item, Members, no_members, member, put}
use Rattle.drawing_types.specs.declared.shape.Point.{Point}
use Rattle.drawing_types.specs.declared.shape.Rect.{Rect}
use Rattle.elk_doc.specs.declared.document.Edge.{Edge}
use Rattle.drawing_types.specs.declared.section.Section.{Section}
use Rattle.elk_doc.specs.declared.drawing.Certificate.{Certificate}
use Rattle.elk_doc.specs.declared.drawing.Placed.{Placed}
use Rattle.elk_doc.specs.Document.{Document}
use Rattle.elk_json.specs.Members.{has_children}
use Rattle.elk_json.specs.Keyed.{IsKeyed, AreItemsKeyed, AreMembersKeyed}
use Rattle.elk_write.specs.declared.numbers.Numbers.{Numbers}
use Rattle.elk_write.specs.Keys.{is_node_key, is_flat_key}
use Rattle.elk_write.specs.Strip.{members_but, but, each_but, strip_node, strip_members, strip_member, strip_children}
use Rattle.elk_write.specs.Numbers.{past_own, past_node, past_member}
use Rattle.elk_write.specs.Written.{is_split}
use Rattle.elk_write.specs.Values.{whole}
use Rattle.elk_write.specs.Answered.{kept_into, with_point, port_answer, port_answers, with_sections, edge_answer, edge_answers, with_place, with_size, with_layering, with_node, answer_node, answer_member, answer_children, parts_answer}
use Rattle.elk_write.specs.Merged.{IsSorted}
use Rattle.elk_write.proofs.Puts.{sorted_keyed, strip_put, but_put, but_but}
use Rattle.elk_write.specs.Merged.{answered}
use Rattle.elk_write.proofs.Kept.{kept_sorted, answer_sorted}
use Rattle.elk_write.proofs.Shape.{same_children}

-- ---- ports and edges

but_point : (at : Option Point) (ms : Members) → members_but (is_flat_key false) (with_point at ms) ≡ members_but (is_flat_key false) ms
but_point None ms = refl
but_point (Some at) ms = but_put (is_flat_key false) (codes "y") _ (put (codes "x") (whole at.x) ms) refl ∙ but_put (is_flat_key false) (codes "x") (whole at.x) ms refl

but_port : (at : Option Point) (d : Data) → IsKeyed d → but (is_flat_key false) (port_answer at d) ≡ but (is_flat_key false) d
but_port at (object ms) h =
    ap object (but_point at (kept_into false no_members ms)
    ∙ ap (members_but (is_flat_key false)) (kept_sorted false ms (sorted_keyed ms h))
    ∙ but_but (is_flat_key false) ms)
but_port at d h = refl

but_ports : (p : Placed) (n : ℕ) (ds : Items) → AreItemsKeyed ds → each_but (is_flat_key false) (port_answers p n ds) ≡ each_but (is_flat_key false) ds
but_ports p n no_items h = refl
but_ports p n (item d ds) h =
    ap (λ e. item e (each_but (is_flat_key false) (port_answers p (n + 1) ds))) (but_port (slice_get p.ports n) d h.0)
    ∙ ap (item (but (is_flat_key false) d)) (but_ports p (n + 1) ds h.1)

but_sections : (edge : Option Edge) (s : Option Section) (ms : Members) → members_but (is_flat_key true) (with_sections edge s ms) ≡ members_but (is_flat_key true) ms
but_sections None s ms = refl
but_sections (Some e) None ms = refl
but_sections (Some e) (Some s) ms = but_put (is_flat_key true) (codes "sections") _ ms refl

but_edge : (edge : Option Edge) (s : Option Section) (d : Data) → IsKeyed d → but (is_flat_key true) (edge_answer edge s d) ≡ but (is_flat_key true) d
but_edge edge s (object ms) h =
    ap object (but_sections edge s (kept_into true no_members ms)
    ∙ ap (members_but (is_flat_key true)) (kept_sorted true ms (sorted_keyed ms h))
    ∙ but_but (is_flat_key true) ms)
but_edge edge s d h = refl

but_edges : (doc : Document) (p : Placed) (n : ℕ) (ds : Items) → AreItemsKeyed ds → each_but (is_flat_key true) (edge_answers doc p n ds) ≡ each_but (is_flat_key true) ds
but_edges doc p n no_items h = refl
but_edges doc p n (item d ds) h =
    ap (λ e. item e (each_but (is_flat_key true) (edge_answers doc p (n + 1) ds))) (but_edge (slice_get doc.edges n) (slice_get p.sections n) d h.0)
    ∙ ap (item (but (is_flat_key true) d)) (but_edges doc p (n + 1) ds h.1)

-- ---- an array of a node that is not that of its children

module _ (k : List ℕ) (c : bytes_eq k (codes "children") ≡ false) where
  at_ports : (ds : Items) → bytes_eq k (codes "ports") ≡ true → strip_member k (array ds) ≡ array (each_but (is_flat_key false) ds)
  at_ports ds e = rw (c, e) refl

  at_edges : (ds : Items) → bytes_eq k (codes "ports") ≡ false → bytes_eq k (codes "edges") ≡ true → strip_member k (array ds) ≡ array (each_but (is_flat_key true) ds)
  at_edges ds f e = rw (c, f, e) refl

  strip_edges : (b : Bool) (doc : Document) (p : Placed) (at : Numbers) (ds : Items) → bytes_eq k (codes "ports") ≡ false → bytes_eq k (codes "edges") ≡ b → AreItemsKeyed ds
      → strip_member k (parts_answer doc p at k ds) ≡ strip_member k (array ds)
  strip_edges true doc p at ds f e h =
      let answer : parts_answer doc p at k ds ≡ array (edge_answers doc p at.edge ds) = rw (f, e) refl in
      ap (strip_member k) answer ∙ at_edges (edge_answers doc p at.edge ds) f e ∙ ap array (but_edges doc p at.edge ds h) ∙ sym (at_edges ds f e)
  strip_edges false doc p at ds f e h = let answer : parts_answer doc p at k ds ≡ array ds = rw (f, e) refl in ap (strip_member k) answer

  strip_ports : (b : Bool) (doc : Document) (p : Placed) (at : Numbers) (ds : Items) → bytes_eq k (codes "ports") ≡ b → AreItemsKeyed ds
      → strip_member k (parts_answer doc p at k ds) ≡ strip_member k (array ds)
  strip_ports true doc p at ds e h =
      let answer : parts_answer doc p at k ds ≡ array (port_answers p at.port ds) = rw e refl in
      ap (strip_member k) answer ∙ at_ports (port_answers p at.port ds) e ∙ ap array (but_ports p at.port ds h) ∙ sym (at_ports ds e)
  strip_ports false doc p at ds f h = strip_edges (bytes_eq k (codes "edges")) doc p at ds f refl h

  strip_parts : (doc : Document) (p : Placed) (at : Numbers) (ds : Items) → AreItemsKeyed ds → strip_member k (parts_answer doc p at k ds) ≡ strip_member k (array ds)
  strip_parts doc p at ds h = strip_ports (bytes_eq k (codes "ports")) doc p at ds refl h

-- ---- nodes

strip_place : (compound : Bool) (box : Option Rect) (ms : Members) → strip_members (is_node_key compound) (with_place box ms) ≡ strip_members (is_node_key compound) ms
strip_place compound None ms = refl
strip_place compound (Some box) ms =
    strip_put (is_node_key compound) (codes "y") (whole box.y) (put (codes "x") (whole box.x) ms) refl
    ∙ strip_put (is_node_key compound) (codes "x") (whole box.x) ms refl

strip_size : (box : Option Rect) (ms : Members) → strip_members (is_node_key true) (with_size box ms) ≡ strip_members (is_node_key true) ms
strip_size None ms = refl
strip_size (Some box) ms =
    strip_put (is_node_key true) (codes "height") (whole box.height) (put (codes "width") (whole box.width) ms) refl
    ∙ strip_put (is_node_key true) (codes "width") (whole box.width) ms refl

strip_layering : (doc : Document) (split : Bool) (c : Option Certificate) (ms : Members) → strip_members (is_node_key true) (with_layering doc split c ms) ≡ strip_members (is_node_key true) ms
strip_layering doc split None ms = refl
strip_layering doc split (Some c) ms = strip_put (is_node_key true) (codes "layering") _ ms refl

strip_with_node : (compound : Bool) (doc : Document) (p : Placed) (n : ℕ) (ms : Members) → strip_members (is_node_key compound) (with_node compound doc p n ms) ≡ strip_members (is_node_key compound) ms
strip_with_node false doc p n ms = strip_place false (slice_get p.boxes n) ms
strip_with_node true doc p n ms =
    strip_layering doc (is_split doc n) (option_and_then (λ c. c) (slice_get p.levels n)) (with_size (slice_get p.boxes n) (with_place (slice_get p.boxes n) ms))
    ∙ strip_size (slice_get p.boxes n) (with_place (slice_get p.boxes n) ms)
    ∙ strip_place true (slice_get p.boxes n) ms

-- ---- the whole

at_children : (k : List ℕ) (ds : Items) → bytes_eq k (codes "children") ≡ true → strip_member k (array ds) ≡ array (strip_children ds)
at_children k ds e = rw e refl

-- the array of a member, where the children of it are known to be the same
strip_array : (b : Bool) (doc : Document) (p : Placed) (at below : Numbers) (k : List ℕ) (ds : Items) → bytes_eq k (codes "children") ≡ b → AreItemsKeyed ds
    → strip_children (answer_children doc p below ds) ≡ strip_children ds
    → strip_member k (answer_member doc p at below k (array ds)) ≡ strip_member k (array ds)
strip_array true doc p at below k ds e h ih =
    let answer : answer_member doc p at below k (array ds) ≡ array (answer_children doc p below ds) = rw e refl in
    ap (strip_member k) answer ∙ at_children k (answer_children doc p below ds) e ∙ ap array ih ∙ sym (at_children k ds e)
strip_array false doc p at below k ds e h ih =
    let answer : answer_member doc p at below k (array ds) ≡ parts_answer doc p at k ds = rw e refl in
    ap (strip_member k) answer ∙ strip_parts k e doc p at ds h

-- a node's own members, where those inside are known to be the same
strip_own : (doc : Document) (p : Placed) (at : Numbers) (root : Bool) (ms : Members) → IsSorted ms
    → ((compound : Bool) (below : Numbers) → strip_members (is_node_key compound) (answered doc p at compound below ms) ≡ strip_members (is_node_key compound) ms)
    → strip_node root (answer_node doc p at root (object ms)) ≡ strip_node root (object ms)
strip_own doc p at root ms h ih =
    let compound = root || has_children (object ms) in
    let inner = answered doc p at compound (past_own at (object ms)) ms in
    ap (λ i. strip_node root (object (with_node compound doc p at.node i))) (answer_sorted doc p at compound ms (past_own at (object ms)) h)
    ∙ ap (λ b. object (strip_members (is_node_key (root || b)) (with_node compound doc p at.node inner))) (same_children doc p at (past_own at (object ms)) compound at.node ms)
    ∙ ap object (strip_with_node compound doc p at.node inner ∙ ih compound (past_own at (object ms)))

mutual
  pub strip_answer : (doc : Document) (p : Placed) (at : Numbers) (root : Bool) (d : Data) → IsKeyed d → strip_node root (answer_node doc p at root d) ≡ strip_node root d
  strip_answer doc p at root (object ms) h = strip_own doc p at root ms (sorted_keyed ms h) (λ compound below. strip_inner doc p at compound ms below h)
  strip_answer doc p at root d h = refl

  strip_inner : (doc : Document) (p : Placed) (at : Numbers) (compound : Bool) (ms : Members) (below : Numbers) → AreMembersKeyed ms
      → strip_members (is_node_key compound) (answered doc p at compound below ms) ≡ strip_members (is_node_key compound) ms
  strip_inner doc p at compound no_members below h = refl
  strip_inner doc p at compound (member k d ms) below h = elim (cases_Bool (is_node_key compound k)) [
    | inl is ↦ rw is (strip_inner doc p at compound ms below h.2)
    | inr is ↦ rw (is, is) (ap (λ e. member k e (strip_members (is_node_key compound) (answered doc p at compound (past_member k below d) ms))) (strip_one doc p at below k d h.1)
        ∙ ap (member k (strip_member k d)) (strip_inner doc p at compound ms (past_member k below d) h.2))
  ]

  strip_one : (doc : Document) (p : Placed) (at below : Numbers) (k : List ℕ) (d : Data) → IsKeyed d → strip_member k (answer_member doc p at below k d) ≡ strip_member k d
  strip_one doc p at below k (array ds) h = strip_array (bytes_eq k (codes "children")) doc p at below k ds refl h (strip_each doc p below ds h)
  strip_one doc p at below k d h = refl

  strip_each : (doc : Document) (p : Placed) (at : Numbers) (ds : Items) → AreItemsKeyed ds → strip_children (answer_children doc p at ds) ≡ strip_children ds
  strip_each doc p at no_items h = refl
  strip_each doc p at (item d ds) h =
      ap (λ e. item e (strip_children (answer_children doc p (past_node at d) ds))) (strip_answer doc p at false d h.0)
      ∙ ap (item (strip_node false d)) (strip_each doc p (past_node at d) ds h.1)
