-- The written members.
use Rattle.std.specs.Prelude.{◌≡◌, ℕ, ◌+◌, List, [], ◌∷◌, filter, codes, Bool, false, IsTrue, Option, Some, None, option_and_then}
use Rattle.std.specs.Prelude.{slice_get}
use Rattle.std.specs.Option.{option_map_or}
use Rattle.serde_json.specs.Data.{Data}
use Rattle.serde_json.specs.Find.{get}
use Rattle.drawing_types.specs.declared.shape.Rect.{Rect}
use Rattle.elk_doc.specs.declared.drawing.Placed.{Placed}
use Rattle.elk_doc.specs.Document.{Document}
use Rattle.elk_json.specs.Elements.{Element, elements}
use Rattle.elk_json.specs.Members.{is_node, is_port, is_edge, is_compound}
use Rattle.elk_write.specs.Strip.{strip}
use Rattle.elk_write.specs.Values.{whole, sections_data, layering_data}

abbrev pub Has : Data → List ℕ → Data → Type 0
Has d key v = get key d ≡ Some v

abbrev pub HasNot : Data → List ℕ → Type 0
HasNot d key = get key d ≡ None

-- a fact of each element and its number from n on
abbrev pub AllFrom : {A : Type 0} → (ℕ → A → Type 0) → ℕ → List A → Type 0
AllFrom P n [] = Unit {0}
AllFrom P n (x ∷ xs) = P n x × AllFrom P (n + 1) xs

-- it is there, and the fact holds of it
abbrev pub IfThere : {A : Type 0} → Option A → (A → Type 0) → Type 0
IfThere None P = ⊥
IfThere (Some x) P = P x

-- whether the level of a node is split
abbrev pub is_split : Document → ℕ → Bool
is_split doc n = option_map_or (λ v. option_map_or (λ l. l.split) v.level false) (slice_get doc.nodes n) false

-- a compound node has the size of its box, and its level's certificate
abbrev pub HasLevel : Document → Placed → ℕ → Data → Rect → Type 0
HasLevel doc p n d box =
    Has d (codes "width") (whole box.width) × Has d (codes "height") (whole box.height)
    × IfThere (option_and_then (λ c. c) (slice_get p.levels n)) (λ c. Has d (codes "layering") (layering_data doc (is_split doc n) c))

abbrev pub IsNodeWritten : Document → Placed → ℕ → Element → Type 0
IsNodeWritten doc p n e = IfThere (slice_get p.boxes n) (λ box.
    Has e.value (codes "x") (whole box.x) × Has e.value (codes "y") (whole box.y)
    × (IsTrue (is_compound e) → HasLevel doc p n e.value box))

abbrev pub IsPortWritten : Placed → ℕ → Element → Type 0
IsPortWritten p n e = IfThere (slice_get p.ports n) (λ at. Has e.value (codes "x") (whole at.x) × Has e.value (codes "y") (whole at.y))

-- an edge has one section, and none of the members in which other layouts stand
abbrev pub IsEdgeWritten : Document → Placed → ℕ → Element → Type 0
IsEdgeWritten doc p n e =
    IfThere (slice_get doc.edges n)
    (λ edge. IfThere (slice_get p.sections n) (λ s. Has e.value (codes "sections") (sections_data edge.id s)))
    × HasNot e.value (codes "bendPoints") × HasNot e.value (codes "junctionPoints") × HasNot e.value (codes "sourcePoint")
    × HasNot e.value (codes "targetPoint")

-- w is v placed by p: the same but for the written members, and these with the values of p, each node, port and edge by
-- its number in document order
abbrev pub IsPlacedBy : Data → Document → Placed → Data → Type 0
IsPlacedBy v doc p w =
    (strip w ≡ strip v)
    × AllFrom (IsNodeWritten doc p) 0 (filter is_node (elements w))
    × AllFrom (IsPortWritten p) 0 (filter is_port (elements w))
    × AllFrom (IsEdgeWritten doc p) 0 (filter is_edge (elements w))
