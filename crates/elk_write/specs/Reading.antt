-- What a drawing's parts are, as they are read from JSON. A part that can't be read is none; further members are passed over.
use Rattle.std.specs.Prelude.{ℕ, ◌+◌, ◌^◌, List, [], ◌∷◌, length, codes, Bool, true, false, not, ◌&&◌, ◌==◌, nat_lt, nat_le, if◌then◌else◌}
use Rattle.std.specs.Prelude.{bytes_eq, Option, Some, None, option_map, option_and_then, ℤ, pos, neg_ℤ}
use Rattle.std.specs.Option.{option_map_or}
use Rattle.std.specs.List.{list_all}
use Rattle.serde_json.specs.Data.{Data, Items, no_items, item}
use Rattle.serde_json.specs.Find.{get, at, as_array, as_number, as_integer, as_u64, as_str}
use Rattle.drawing_types.specs.declared.shape.Point.{Point}
use Rattle.drawing_types.specs.declared.shape.Size.{Size}
use Rattle.elk_doc.specs.declared.document.Id.{Id}
use Rattle.elk_doc.specs.declared.document.Edge.{Edge}
use Rattle.drawing_types.specs.declared.section.Section.{Section}
use Rattle.elk_doc.specs.declared.drawing.Certificate.{Certificate}
use Rattle.elk_doc.specs.Document.{Document}
use Rattle.elk_doc.specs.Level.{is_loop, is_edge_of}
use Rattle.elk_doc.specs.Fits.{child_count, edge_count}
use Rattle.elk_options.specs.Values.{if_within}
use Rattle.elk_json.specs.Elements.{items_list}
use Rattle.elk_json.specs.Ends.{is_same_id}
use Rattle.elk_json.specs.Members.{to_id}
use Rattle.elk_write.specs.Values.{section_id}

-- ---- numbers and points

abbrev pub integer_in : Data → Option ℤ
integer_in d = option_and_then as_integer (as_number d)

-- a whole number from -2^53 to 2^53
abbrev pub coordinate_in : Data → Option ℤ
coordinate_in d = option_and_then (if_within (neg_ℤ (pos (2 ^ 53))) (pos (2 ^ 53))) (integer_in d)

-- a whole number from 0 to 2^53
abbrev pub length_in : Data → Option ℤ
length_in d = option_and_then (if_within (pos 0) (pos (2 ^ 53))) (integer_in d)

-- a whole number from 0 to 2^64 - 1
abbrev pub large_in : Data → Option ℕ
large_in d = option_and_then (λ n. if nat_lt n (2 ^ 64) then Some n else None) (option_and_then as_u64 (as_number d))

-- a whole number from 0 to 2^32 - 1
abbrev pub small_in : Data → Option ℕ
small_in d = option_and_then (λ n. if nat_lt n (2 ^ 32) then Some n else None) (option_and_then as_u64 (as_number d))

-- a point has both its members
abbrev pub point_in : Data → Option Point
point_in d =
    option_and_then (λ x. option_map (λ y. record { x = x; y = y }) (option_and_then coordinate_in (get (codes "y") d)))
    (option_and_then coordinate_in (get (codes "x") d))

abbrev pub size_in : Data → Option Size
size_in d =
    option_and_then (λ w. option_map (λ h. record { width = w; height = h }) (option_and_then length_in (get (codes "height") d)))
    (option_and_then length_in (get (codes "width") d))

-- ---- lists

-- the items of an array, each read: none where one of them can't be
abbrev pub all_in : {A : Type 0} → (Data → Option A) → Items → Option (List A)
all_in read no_items = Some []
all_in read (item d ds) = option_and_then (λ x. option_map (λ xs. x ∷ xs) (all_in read ds)) (read d)

abbrev pub list_in : {A : Type 0} → (Data → Option A) → Data → Option (List A)
list_in read d = option_and_then (all_in read) (as_array d)

-- a list of so many
abbrev pub counted : {A : Type 0} → ℕ → List A → Option (List A)
counted n xs = if length xs == n then Some xs else None

-- ---- sections

abbrev pub is_text : List ℕ → Data → Bool
is_text text d = option_map_or (bytes_eq text) (as_str d) false

-- no bends where the member is absent
abbrev pub bends_in : Option Data → Option (List Point)
bends_in None = Some []
bends_in (Some d) = list_in point_in d

abbrev pub route_in : Data → Option Section
route_in d =
    option_and_then
    (λ a. option_and_then
    (λ bends. option_map (λ z. record { start = a; bends = bends; end = z }) (option_and_then point_in (get (codes "endPoint") d)))
    (bends_in (get (codes "bendPoints") d)))
    (option_and_then point_in (get (codes "startPoint") d))

-- the section of the edge with this id: its own id is the edge's followed by `_s0`
abbrev pub section_in : Id → Data → Option Section
section_in id d = if option_map_or (is_text (section_id id)) (get (codes "id") d) false then route_in d else None

abbrev pub is_sole : Data → Bool
is_sole d = option_map_or (λ ds. length (items_list ds) == 1) (as_array d) false

-- an array of one section
abbrev pub sole_section_in : Id → Data → Option Section
sole_section_in id d = if is_sole d then option_and_then (section_in id) (at 0 d) else None

abbrev pub sections_in : Id → Data → Option Section
sections_in id d = option_and_then (sole_section_in id) (get (codes "sections") d)

-- ---- certificates

-- the number of the first edge of a list that passes, where the list stands at number n
abbrev pub first_number : (Edge → Bool) → ℕ → List Edge → Option ℕ
first_number test n [] = None
first_number test n (e ∷ es) = if test e then Some n else first_number test (n + 1) es

-- the number of the edge that has this id
abbrev pub edge_named : Document → Data → Option ℕ
edge_named doc d = option_and_then (λ id. first_number (λ e. is_same_id id e.id) 0 doc.edges) (to_id d)

-- numbers from `low` on, each greater than the one before it
abbrev pub are_from : ℕ → List ℕ → Bool
are_from low [] = true
are_from low (n ∷ ns) = nat_le low n && are_from (n + 1) ns

abbrev pub is_ascending : List ℕ → Bool
is_ascending ns = are_from 0 ns

-- an edge of the level of n, and no self-loop
abbrev pub is_listable : Document → ℕ → ℕ → Bool
is_listable doc n e = nat_lt e (length doc.edges) && is_edge_of doc n e && not (is_loop doc e)

-- edges that the level of n may list as reversed, in document order and each once
abbrev pub are_listable : Document → ℕ → List ℕ → Bool
are_listable doc n es = is_ascending es && list_all (is_listable doc n) es

abbrev pub listable : Document → ℕ → List ℕ → Option (List ℕ)
listable doc n es = if are_listable doc n es then Some es else None

abbrev pub flow_in : Document → ℕ → Data → Option (List ℕ)
flow_in doc n d = option_and_then (counted (edge_count doc n)) (option_and_then (list_in large_in) (get (codes "flow") d))

abbrev pub layers_in : Document → ℕ → Data → Option (List ℕ)
layers_in doc n d = option_and_then (counted (child_count doc n)) (option_and_then (list_in small_in) (get (codes "layers") d))

abbrev pub reversed_in : Document → ℕ → Data → Option (List ℕ)
reversed_in doc n d = option_and_then (listable doc n) (option_and_then (list_in (edge_named doc)) (get (codes "reversed") d))

-- parts are read exactly where the level is split
abbrev pub parts_in : Document → ℕ → Bool → Data → Option (List ℕ)
parts_in doc n split d =
    if split then option_and_then (counted (child_count doc n)) (option_and_then (list_in small_in) (get (codes "parts") d)) else Some []

abbrev pub span_in : Data → Option ℕ
span_in d = option_and_then large_in (get (codes "span") d)

-- a certificate of its five parts, each of them there
abbrev pub certificate_with : Option (List ℕ) → Option (List ℕ) → Option (List ℕ) → Option (List ℕ) → Option ℕ → Option Certificate
certificate_with flow layers parts reversed span =
    option_and_then
    (λ f. option_and_then
    (λ l. option_and_then
    (λ p. option_and_then
    (λ r. option_map (λ s. record { layers = l; reversed = r; flow = f; span = s; parts = p }) span) reversed)
    parts)
    layers)
    flow

abbrev pub certificate_in : Document → ℕ → Bool → Data → Option Certificate
certificate_in doc n split d =
    certificate_with (flow_in doc n d) (layers_in doc n d) (parts_in doc n split d) (reversed_in doc n d) (span_in d)
