-- Ids, and the ends of edges.
use Rattle.std.specs.Prelude.{ℕ, ◌+◌, List, [], ◌∷◌, ◌++◌, length, codes, Bool, false, not, ◌&&◌, ◌||◌, ◌==◌, nat_eq, is_some}
use Rattle.std.specs.Prelude.{if◌then◌else◌, Option, Some, None, option_and_then, slice_get, bytes_eq}
use Rattle.std.specs.Option.{option_map_or, option_eq}
use Rattle.std.specs.List.{list_all, list_any}
use Rattle.std.specs.Ordering.{int_eq}
use Rattle.serde_json.specs.Data.{Data}
use Rattle.serde_json.specs.Find.{get}
use Rattle.elk_doc.specs.declared.document.Id.{Id}
use Rattle.elk_doc.specs.declared.document.Id.TheVariants.{Text, Whole}
use Rattle.elk_json.specs.Elements.{Element, listed}
use Rattle.elk_json.specs.Members.{is_node, is_port, is_edge, to_id, id_of}
use Rattle.elk_json.specs.Shape.{is_extended}

-- the number 1 and the text `1` differ
abbrev pub is_same_id : Id → Id → Bool
is_same_id (Text a) (Text b) = bytes_eq a b
is_same_id (Text a) (Whole n) = false
is_same_id (Whole m) (Text b) = false
is_same_id (Whole m) (Whole n) = int_eq m n

abbrev pub is_some_same_id : Option Id → Option Id → Bool
is_some_same_id None o = false
is_some_same_id (Some a) None = false
is_some_same_id (Some a) (Some b) = is_same_id a b

-- nodes and ports share one space of ids, and edges have another
unfoldable pub is_double : Element → Element → Bool
is_double e f = (if is_edge e then is_edge f else not (is_edge f)) && is_some_same_id (id_of e.value) (id_of f.value)

-- the first element whose id stood earlier
abbrev pub first_double : List Element → List Element → Option Element
first_double earlier [] = None
first_double earlier (e ∷ es) = if list_any (is_double e) earlier then Some e else first_double (earlier ++ e ∷ []) es

-- ---- references

-- the place of the first element that passes, where the list stands at place n
abbrev pub first_place : (Element → Bool) → ℕ → List Element → Option ℕ
first_place test n [] = None
first_place test n (e ∷ es) = if test e then Some n else first_place test (n + 1) es

-- a node or port of this id
unfoldable pub is_named : Data → Element → Bool
is_named d e = not (is_edge e) && is_some_same_id (to_id d) (id_of e.value)

-- the place in the list of the node or port that a reference names
unfoldable pub named : List Element → Data → Option ℕ
named es d = first_place (is_named d) 0 es

abbrev pub element_at : List Element → ℕ → Option Element
element_at es i = slice_get es i

-- the node of an end: itself, or the node that the port stands at
unfoldable pub node_at : List Element → ℕ → Option ℕ
node_at es i = option_and_then (λ e. if is_node e then Some i else e.owner) (element_at es i)

-- the port that stands at the node
unfoldable pub port_at_node : List Element → Option ℕ → Option ℕ → Option ℕ
port_at_node es node port =
    option_and_then
    (λ n. option_and_then
    (λ i. if option_map_or is_node (element_at es n) false && option_map_or
    (λ e. is_port e && option_eq nat_eq e.owner (Some n)) (element_at es i) false then Some i
    else None)
    port)
    node

-- what the primitive form names on one side
unfoldable pub primitive_end : List Element → Option Data → Option Data → Option ℕ
primitive_end es node None = option_and_then (named es) node
primitive_end es node (Some port) = port_at_node es (option_and_then (named es) node) (named es port)

-- what the first reference of a list names
abbrev pub extended_end : List Element → List Data → Option ℕ
extended_end es [] = None
extended_end es (d ∷ ds) = named es d

unfoldable pub source_of : List Element → Data → Option ℕ
source_of es d =
    if is_extended d then extended_end es (listed (codes "sources") d)
    else primitive_end es (get (codes "source") d) (get (codes "sourcePort") d)

unfoldable pub target_of : List Element → Data → Option ℕ
target_of es d =
    if is_extended d then extended_end es (listed (codes "targets") d)
    else primitive_end es (get (codes "target") d) (get (codes "targetPort") d)

-- each reference names what it has to
unfoldable pub has_known_ends : List Element → Data → Bool
has_known_ends es d =
    if is_extended d
    then list_all (λ r. is_some (named es r)) (listed (codes "sources") d)
    && list_all (λ r. is_some (named es r)) (listed (codes "targets") d)
    else is_some (source_of es d) && is_some (target_of es d)

unfoldable pub is_hyperedge : Data → Bool
is_hyperedge d = is_extended d && not ((length (listed (codes "sources") d) == 1) && (length (listed (codes "targets") d) == 1))

-- ---- levels of edges

unfoldable pub source_node : List Element → Data → Option ℕ
source_node es d = option_and_then (node_at es) (source_of es d)

unfoldable pub target_node : List Element → Data → Option ℕ
target_node es d = option_and_then (node_at es) (target_of es d)

unfoldable pub parent_of : List Element → Option ℕ → Option ℕ
parent_of es node = option_and_then (λ e. e.owner) (option_and_then (element_at es) node)

unfoldable pub is_cross_level : List Element → Data → Bool
is_cross_level es d =
    let s = source_node es d in
    let t = target_node es d in
    (not (option_eq nat_eq s t) && not (option_eq nat_eq (parent_of es s) (parent_of es t)))
    || option_eq nat_eq s (Some 0) || option_eq nat_eq t (Some 0)

-- the place of the node whose level the edge belongs to
unfoldable pub level_of_edge : List Element → Data → Option ℕ
level_of_edge es d = parent_of es (source_node es d)
