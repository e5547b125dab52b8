-- What the elements' members say.
use Rattle.std.specs.Prelude.{ℕ, List, length, codes, Bool, true, false, not, ◌&&◌, ◌||◌, ◌==◌, nat_lt, is_some, if◌then◌else◌, Option}
use Rattle.std.specs.Prelude.{Some, None, option_map, option_and_then, unwrap_or, ℤ, pos, int_le}
use Rattle.std.specs.Option.{option_map_or}
use Rattle.serde_json.specs.Data.{Data, null, boolean, number, string, array, object}
use Rattle.serde_json.specs.Find.{get, as_array, as_object, as_number, as_integer, as_str}
use Rattle.elk_doc.specs.declared.document.Id.{Id}
use Rattle.elk_doc.specs.declared.document.Id.TheVariants.{Text, Whole}
use Rattle.elk_doc.specs.declared.document.PortRule.{PortRule}
use Rattle.elk_options.specs.declared.options.Role.{Role}
use Rattle.elk_options.specs.declared.options.Role.TheVariants as role
use Rattle.elk_options.specs.declared.options.Options.{Options}
use Rattle.elk_options.specs.Names.{or_empty}
use Rattle.elk_options.specs.Reading.{first_bad, options_of}
use Rattle.elk_json.specs.declared.elements.Kind.{Kind}
use Rattle.elk_json.specs.declared.elements.Kind.TheVariants.{Node, Port, Edge}
use Rattle.elk_json.specs.Elements.{Element, listed}

-- ---- kinds

abbrev pub kind_is_node : Kind → Bool
kind_is_node Node = true
kind_is_node Port = false
kind_is_node Edge = false

abbrev pub is_node : Element → Bool
is_node e = kind_is_node e.kind

abbrev pub kind_is_port : Kind → Bool
kind_is_port Node = false
kind_is_port Port = true
kind_is_port Edge = false

abbrev pub is_port : Element → Bool
is_port e = kind_is_port e.kind

abbrev pub kind_is_edge : Kind → Bool
kind_is_edge Node = false
kind_is_edge Port = false
kind_is_edge Edge = true

abbrev pub is_edge : Element → Bool
is_edge e = kind_is_edge e.kind

-- ---- members

abbrev pub is_object : Data → Bool
is_object d = is_some (as_object d)

abbrev pub is_array : Data → Bool
is_array d = is_some (as_array d)

abbrev pub is_number : Data → Bool
is_number d = is_some (as_number d)

-- an id is a text or a number
abbrev pub is_id : Data → Bool
is_id d = is_some (as_str d) || is_number d

-- the member is absent, or passes
abbrev pub absent_or : (Data → Bool) → List ℕ → Data → Bool
absent_or passes key d = option_map_or passes (get key d) true

-- the member is there, and passes
abbrev pub there_and : (Data → Bool) → List ℕ → Data → Bool
there_and passes key d = option_map_or passes (get key d) false

-- a number, and 0 where it is absent
abbrev pub whole_at : List ℕ → Data → ℤ
whole_at key d = unwrap_or (option_and_then as_integer (option_and_then as_number (get key d))) (pos 0)

abbrev pub to_id : Data → Option Id
to_id null = None
to_id (boolean b) = None
to_id (number n) = option_map Whole (as_integer n)
to_id (string s) = Some (Text s)
to_id (array ds) = None
to_id (object ms) = None

abbrev pub id_of : Data → Option Id
id_of d = option_and_then to_id (get (codes "id") d)

-- ---- levels and roles

-- the node's list of children is not empty
abbrev pub has_children : Data → Bool
has_children d = nat_lt 0 (length (listed (codes "children") d))

abbrev pub is_root : Element → Bool
is_root e = is_node e && not (is_some e.owner)

-- a node with a level: the root, and any other with children
abbrev pub is_compound : Element → Bool
is_compound e = is_node e && (not (is_some e.owner) || has_children e.value)

-- the same of the node that an element stands at: the root stands first in the list
abbrev pub is_at_compound : Element → Bool
is_at_compound e = option_map_or (λ i. i == 0) e.owner false || has_children e.holder

abbrev pub options_data : Data → Data
options_data d = or_empty (get (codes "layoutOptions") d)

abbrev pub node_role : Bool → Role
node_role compound = if compound then role.Level else role.Leaf

abbrev pub role_of : Element → Role
role_of e = if is_node e then node_role (is_compound e) else (if is_port e then role.Port else role.Edge)

abbrev pub has_bad_option : Element → Bool
has_bad_option e = is_some (first_bad (role_of e) (options_data e.value))

abbrev pub options_at : Element → Options
options_at e = options_of (role_of e) (options_data e.value)

-- of the node that an element stands at
abbrev pub holder_role : Element → Role
holder_role e = node_role (is_at_compound e)

abbrev pub holder_has_bad_option : Element → Bool
holder_has_bad_option e = is_some (first_bad (holder_role e) (options_data e.holder))

abbrev pub holder_options : Element → Options
holder_options e = options_of (holder_role e) (options_data e.holder)

-- the options that are read in a role; none where one of them has a value outside its table
abbrev pub options_in : Role → Data → Option Options
options_in role d = if is_some (first_bad role (options_data d)) then None else Some (options_of role (options_data d))

abbrev pub own_options : Element → Option Options
own_options e = options_in (role_of e) e.value

-- at a port the rule for ports that its node has; none at nodes and edges
abbrev pub node_rule : Element → Option PortRule
node_rule e = if is_port e then option_map (λ o. o.rule) (options_in (holder_role e) e.holder) else None

abbrev pub is_between : ℤ → ℤ → ℤ → Bool
is_between low high z = int_le low z && int_le z high
