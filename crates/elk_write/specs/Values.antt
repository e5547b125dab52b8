-- What a drawing's parts are as JSON. Keys stand in ascending order.
use Rattle.std.specs.Prelude.{ℕ, List, [], ◌∷◌, ◌++◌, map, codes, Bool, if◌then◌else◌, slice_get, Option, Some, None, ℤ, pos}
use Rattle.std.specs.Fmt.{signed_decimal}
use Rattle.serde_json.specs.Data.{Data, number, string, array, object, no_items, item, Members, no_members, member}
use Rattle.serde_json.specs.Find.{of_integer}
use Rattle.serde_json.specs.View.{items_of}
use Rattle.elk_doc.specs.declared.document.Id.{Id}
use Rattle.elk_doc.specs.declared.document.Id.TheVariants.{Text, Whole}
use Rattle.elk_doc.specs.declared.document.Edge.{Edge}
use Rattle.drawing_types.specs.declared.shape.Point.{Point}
use Rattle.drawing_types.specs.declared.section.Section.{Section}
use Rattle.elk_doc.specs.declared.drawing.Certificate.{Certificate}
use Rattle.elk_doc.specs.Document.{Document}

-- a whole number
abbrev pub whole : ℤ → Data
whole z = number (of_integer z)

-- an array of numbers from 0
abbrev pub wholes : List ℕ → Data
wholes ns = array (items_of (map (λ n. whole (pos n)) ns))

abbrev pub point_data : Point → Data
point_data p = object (member (codes "x") (whole p.x) (member (codes "y") (whole p.y) no_members))

abbrev pub id_data : Id → Data
id_data (Text s) = string s
id_data (Whole z) = whole z

-- the id of an edge's section: the edge's id, a number in decimal, followed by `_s0`
abbrev pub section_id : Id → List ℕ
section_id (Text s) = s ++ codes "_s0"
section_id (Whole z) = signed_decimal z ++ codes "_s0"

abbrev pub end_members : Id → Section → Members
end_members id s =
    member (codes "endPoint") (point_data s.end) (
    member (codes "id") (string (section_id id)) (
    member (codes "startPoint") (point_data s.start) no_members))

-- bends are written where there are any
abbrev pub with_bends : List Point → Members → Members
with_bends [] ms = ms
with_bends (p ∷ ps) ms = member (codes "bendPoints") (array (items_of (map point_data (p ∷ ps)))) ms

-- an array of one section
abbrev pub sections_data : Id → Section → Data
sections_data id s = array (item (object (with_bends s.bends (end_members id s))) no_items)

-- the id of an edge that is there
abbrev pub edge_id : Option Edge → List Data
edge_id None = []
edge_id (Some e) = id_data e.id ∷ []

-- the ids of edges by their numbers
abbrev pub edge_ids : Document → List ℕ → List Data
edge_ids doc [] = []
edge_ids doc (n ∷ ns) = edge_id (slice_get doc.edges n) ++ edge_ids doc ns

-- the members of a certificate that are numbers in any case
abbrev pub number_members : Certificate → Members
number_members c =
    member (codes "flow") (wholes c.flow)
    (member (codes "layers") (wholes c.layers) (member (codes "span") (whole (pos c.span)) no_members))

-- `parts` is written exactly where the level is split
abbrev pub with_parts : Bool → Certificate → Members → Members
with_parts split c ms = if split then member (codes "parts") (wholes c.parts) ms else ms

abbrev pub layering_data : Document → Bool → Certificate → Data
layering_data doc split c = object (
    member (codes "flow") (wholes c.flow) (
    member (codes "layers") (wholes c.layers) (
    with_parts split c (
    member (codes "reversed") (array (items_of (edge_ids doc c.reversed))) (
    member (codes "span") (whole (pos c.span)) no_members)))))
