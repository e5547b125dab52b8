-- The drawing that a placed value says, and the elements that lack a written member.
use Rattle.std.specs.Prelude.{◌≡◌, ℕ, ◌+◌, ◌==◌, List, [], ◌∷◌, filter, map, codes, Bool, not, ◌&&◌, ◌||◌, is_none, if◌then◌else◌, Option}
use Rattle.std.specs.Prelude.{Some, None, option_map, option_and_then, slice_get, pos}
use Rattle.std.specs.Option.{option_or}
use Rattle.std.specs.Ordering.{int_eq}
use Rattle.serde_json.specs.Data.{Data}
use Rattle.serde_json.specs.Find.{get}
use Rattle.drawing_types.specs.declared.shape.Point.{Point}
use Rattle.drawing_types.specs.declared.shape.Rect.{Rect}
use Rattle.drawing_types.specs.declared.shape.Size.{Size}
use Rattle.elk_doc.specs.declared.document.LevelOptions.{LevelOptions}
use Rattle.elk_doc.specs.declared.document.Node.{Node}
use Rattle.drawing_types.specs.declared.section.Section.{Section}
use Rattle.elk_doc.specs.declared.drawing.Certificate.{Certificate}
use Rattle.elk_doc.specs.declared.drawing.Placed.{Placed}
use Rattle.elk_doc.specs.Document.{Document, document}
use Rattle.elk_json.specs.declared.elements.Kind.{Kind}
use Rattle.elk_json.specs.declared.elements.Kind.TheVariants as kind
use Rattle.elk_json.specs.declared.fault.Rule.TheVariants as rules
use Rattle.elk_json.specs.declared.fault.Refusal.{Refusal}
use Rattle.elk_json.specs.Elements.{Element, elements}
use Rattle.elk_json.specs.Members.{is_node, is_port, is_edge}
use Rattle.elk_json.specs.Document.{number_at, nodes_of, ports_of, edges_of}
use Rattle.elk_json.specs.Rules.{first_at, at, refused}
use Rattle.elk_write.specs.declared.placing.Part.{Part}
use Rattle.elk_write.specs.declared.placing.Part.TheVariants as part
use Rattle.elk_write.specs.Reading.{point_in, size_in, sections_in, certificate_in}

-- ---- nodes

abbrev pub is_origin : Point → Bool
is_origin p = int_eq p.x (pos 0) && int_eq p.y (pos 0)

-- the root, which has the number 0, stands at the origin
abbrev pub rooted : ℕ → Point → Option Point
rooted n p = if n == 0 && not (is_origin p) then None else Some p

-- a compound node has its size written, and a leaf keeps its own
abbrev pub node_size_in : Option LevelOptions → Size → Data → Option Size
node_size_in None size d = Some size
node_size_in (Some o) size d = size_in d

abbrev pub box_of : Point → Size → Rect
box_of at size = record { x = at.x; y = at.y; width = size.width; height = size.height }

-- the box of the node with the number n, from `x` and `y`, and from `width` and `height` at a compound node
abbrev pub box_in : ℕ → Node → Data → Option Rect
box_in n v d =
    option_and_then (λ at. option_map (box_of at) (node_size_in v.level v.size d)) (option_and_then (rooted n) (point_in d))

-- the certificate of a compound node's level, from `layering`; a leaf has none
abbrev pub level_in : Document → ℕ → Option LevelOptions → Data → Option (Option Certificate)
level_in doc n None d = Some None
level_in doc n (Some o) d = option_map (λ c. Some c) (option_and_then (certificate_in doc n o.split) (get (codes "layering") d))

-- ---- elements by their numbers

abbrev pub box_at : Document → ℕ → Element → Option Rect
box_at doc n e = option_and_then (λ v. box_in n v e.value) (slice_get doc.nodes n)

abbrev pub level_at : Document → ℕ → Element → Option (Option Certificate)
level_at doc n e = option_and_then (λ v. level_in doc n v.level e.value) (slice_get doc.nodes n)

-- the place of a port, from `x` and `y`
abbrev pub place_at : ℕ → Element → Option Point
place_at n e = point_in e.value

-- the section of an edge, from `sections`
abbrev pub section_at : Document → ℕ → Element → Option Section
section_at doc n e = option_and_then (λ v. sections_in v.id e.value) (slice_get doc.edges n)

-- what each element of a list gives, by its number from n on
abbrev pub given : {A : Type 0} → (ℕ → Element → Option A) → ℕ → List Element → List (Option A)
given read n [] = []
given read n (e ∷ es) = read n e ∷ given read (n + 1) es

-- the drawing has what the elements give: boxes and levels by node, places by port, sections by edge
pub record IsGiven (doc : Document) (es : List Element) (p : Placed) : Type 0 where
  pub boxes : map (λ x. Some x) p.boxes ≡ given (box_at doc) 0 (filter is_node es)
  pub levels : map (λ x. Some x) p.levels ≡ given (level_at doc) 0 (filter is_node es)
  pub ports : map (λ x. Some x) p.ports ≡ given place_at 0 (filter is_port es)
  pub sections : map (λ x. Some x) p.sections ≡ given (section_at doc) 0 (filter is_edge es)

-- ---- what is not placed

-- whether a written member is missing, or can't be read, at the element with the number n
abbrev pub lacks : Document → Kind → ℕ → Element → Bool
lacks doc kind.Node n e = is_none (box_at doc n e) || is_none (level_at doc n e)
lacks doc kind.Port n e = is_none (place_at n e)
lacks doc kind.Edge n e = is_none (section_at doc n e)

-- a number for each kind
abbrev pub of_kind : Kind → ℕ → ℕ → ℕ → ℕ
of_kind kind.Node node port edge = node
of_kind kind.Port node port edge = port
of_kind kind.Edge node port edge = edge

-- the number of an element that stands at a place of the list
abbrev pub number_of : Kind → List Element → ℕ → ℕ
number_of k es place = of_kind k (number_at is_node es place) (number_at is_port es place) (number_at is_edge es place)

unfoldable pub is_unplaced : Document → List Element → ℕ → Element → Bool
is_unplaced doc es place e = lacks doc e.kind (number_of e.kind es place) e

-- the first element in document order that lacks a written member
abbrev pub first_unplaced : Document → List Element → Option Element
first_unplaced doc es = first_at (is_unplaced doc es) 0 es

abbrev pub document_in : Data → Document
document_in d = document (nodes_of (elements d)) (ports_of (elements d)) (edges_of (elements d))

-- a value that no rule refuses lacks a written member
unfoldable pub not_placed : Data → Option Refusal
not_placed d = at rules.NotPlaced (first_unplaced (document_in d) (elements d))

-- the first rule that refuses the value as a placed one, and its place
unfoldable pub refused_placed : Data → Option Refusal
refused_placed d = option_or (refused d) (not_placed d)

-- the drawing that a placed value says
abbrev pub IsDrawing : Document → Placed → Data → Type 0
IsDrawing doc p d = IsGiven doc (elements d) p

-- ---- one element after another

-- what an element with the number n gives
abbrev pub given_part : Document → Kind → ℕ → Element → Option Part
given_part doc kind.Node n e = option_and_then (λ box. option_map (λ level. part.Node box level) (level_at doc n e)) (box_at doc n e)
given_part doc kind.Port n e = option_map (λ at. part.Port at) (place_at n e)
given_part doc kind.Edge n e = option_map (λ s. part.Edge s) (section_at doc n e)

-- the box, level, place and section that a part gives, if it gives one
abbrev pub part_boxes : Part → List Rect
part_boxes (part.Node box level) = box ∷ []
part_boxes q = []

abbrev pub part_levels : Part → List (Option Certificate)
part_levels (part.Node box level) = level ∷ []
part_levels q = []

abbrev pub part_places : Part → List Point
part_places (part.Port at) = at ∷ []
part_places q = []

abbrev pub part_sections : Part → List Section
part_sections (part.Edge s) = s ∷ []
part_sections q = []
