-- A value with the written members: each object is built anew, by putting members into an empty one.
use Rattle.std.specs.Prelude.{ℕ, ◌+◌, List, codes, Bool, false, true, ◌||◌, bytes_eq, if◌then◌else◌, Option, Some, None, option_and_then}
use Rattle.std.specs.Prelude.{slice_get}
use Rattle.serde_json.specs.Data.{Data, array, object, Items, no_items, item, Members, no_members, member, put}
use Rattle.drawing_types.specs.declared.shape.Point.{Point}
use Rattle.drawing_types.specs.declared.shape.Rect.{Rect}
use Rattle.elk_doc.specs.declared.document.Edge.{Edge}
use Rattle.drawing_types.specs.declared.section.Section.{Section}
use Rattle.elk_doc.specs.declared.drawing.Certificate.{Certificate}
use Rattle.elk_doc.specs.declared.drawing.Placed.{Placed}
use Rattle.elk_doc.specs.Document.{Document}
use Rattle.elk_json.specs.Members.{has_children}
use Rattle.elk_write.specs.declared.numbers.Numbers.{Numbers}
use Rattle.elk_write.specs.Keys.{is_node_key, is_flat_key}
use Rattle.elk_write.specs.Values.{whole, sections_data, layering_data}
use Rattle.elk_write.specs.Numbers.{from_zero, past_own, past_node, past_member}
use Rattle.elk_write.specs.Written.{is_split}

-- ---- ports and edges

-- the members of a port or an edge that are kept
abbrev pub kept_into : Bool → Members → Members → Members
kept_into edge into no_members = into
kept_into edge into (member k d ms) = if is_flat_key edge k then kept_into edge into ms else kept_into edge (put k d into) ms

abbrev pub with_point : Option Point → Members → Members
with_point None ms = ms
with_point (Some at) ms = put (codes "y") (whole at.y) (put (codes "x") (whole at.x) ms)

abbrev pub port_answer : Option Point → Data → Data
port_answer at (object ms) = object (with_point at (kept_into false no_members ms))
port_answer at d = d

abbrev pub with_sections : Option Edge → Option Section → Members → Members
with_sections None section ms = ms
with_sections (Some e) None ms = ms
with_sections (Some e) (Some s) ms = put (codes "sections") (sections_data e.id s) ms

abbrev pub edge_answer : Option Edge → Option Section → Data → Data
edge_answer edge section (object ms) = object (with_sections edge section (kept_into true no_members ms))
edge_answer edge section d = d

abbrev pub port_answers : Placed → ℕ → Items → Items
port_answers p n no_items = no_items
port_answers p n (item d ds) = item (port_answer (slice_get p.ports n) d) (port_answers p (n + 1) ds)

abbrev pub edge_answers : Document → Placed → ℕ → Items → Items
edge_answers doc p n no_items = no_items
edge_answers doc p n (item d ds) = item (edge_answer (slice_get doc.edges n) (slice_get p.sections n) d) (edge_answers doc p (n + 1) ds)

-- ---- nodes

-- an array of a node that is not that of its children
abbrev pub parts_answer : Document → Placed → Numbers → List ℕ → Items → Data
parts_answer doc p at k ds =
    if bytes_eq k (codes "ports") then array (port_answers p at.port ds)
    else (if bytes_eq k (codes "edges") then array (edge_answers doc p at.edge ds)
    else array ds)

abbrev pub with_place : Option Rect → Members → Members
with_place None ms = ms
with_place (Some box) ms = put (codes "y") (whole box.y) (put (codes "x") (whole box.x) ms)

abbrev pub with_size : Option Rect → Members → Members
with_size None ms = ms
with_size (Some box) ms = put (codes "height") (whole box.height) (put (codes "width") (whole box.width) ms)

abbrev pub with_layering : Document → Bool → Option Certificate → Members → Members
with_layering doc split None ms = ms
with_layering doc split (Some c) ms = put (codes "layering") (layering_data doc split c) ms

abbrev pub with_level : Bool → Document → Placed → ℕ → Members → Members
with_level compound doc p n ms =
    if compound
    then with_layering doc (is_split doc n) (option_and_then (λ c. c) (slice_get p.levels n)) (with_size (slice_get p.boxes n) ms)
    else ms

abbrev pub with_node : Bool → Document → Placed → ℕ → Members → Members
with_node compound doc p n ms = with_level compound doc p n (with_place (slice_get p.boxes n) ms)

-- a node with the numbers `at`; its children have the numbers from `below` on
abbrev mutual
  pub answer_node : Document → Placed → Numbers → Bool → Data → Data
  answer_node doc p at root (object ms) =
      object
      (with_node (root || has_children (object ms)) doc p at.node
      (answer_into doc p at (root || has_children (object ms)) (past_own at (object ms)) no_members ms))
  answer_node doc p at root d = d

  pub answer_into : Document → Placed → Numbers → Bool → Numbers → Members → Members → Members
  answer_into doc p at compound below into no_members = into
  answer_into doc p at compound below into (member k d ms) =
      if is_node_key compound k then answer_into doc p at compound below into ms
      else answer_into doc p at compound (past_member k below d) (put k (answer_member doc p at below k d) into) ms

  pub answer_member : Document → Placed → Numbers → Numbers → List ℕ → Data → Data
  answer_member doc p at below k (array ds) =
      if bytes_eq k (codes "children") then array (answer_children doc p below ds) else parts_answer doc p at k ds
  answer_member doc p at below k d = d

  pub answer_children : Document → Placed → Numbers → Items → Items
  answer_children doc p at no_items = no_items
  answer_children doc p at (item d ds) = item (answer_node doc p at false d) (answer_children doc p (past_node at d) ds)

abbrev pub answer_data : Document → Placed → Data → Data
answer_data doc p d = answer_node doc p from_zero true d
