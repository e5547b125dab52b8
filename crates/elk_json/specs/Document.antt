-- The document of a value.
use Rattle.std.specs.Prelude.{◌≡◌, ℕ, ◌≤◌, List, take, length, filter, find, map, codes, Bool, false, if◌then◌else◌, Option, None}
use Rattle.std.specs.Prelude.{option_map, unwrap_or, pos}
use Rattle.serde_json.specs.Data.{Data}
use Rattle.elk_doc.specs.declared.document.Id.{Id}
use Rattle.elk_doc.specs.declared.document.Id.TheVariants.{Whole}
use Rattle.drawing_types.specs.declared.shape.Point.{Point}
use Rattle.drawing_types.specs.declared.shape.Size.{Size}
use Rattle.elk_doc.specs.declared.document.Node.{Node}
use Rattle.elk_doc.specs.declared.document.Port.{Port}
use Rattle.elk_doc.specs.declared.document.Edge.{Edge}
use Rattle.elk_doc.specs.declared.document.End.{End}
use Rattle.elk_doc.specs.declared.document.End.TheVariants as end
use Rattle.elk_doc.specs.Document.{Document}
use Rattle.drawing_types.specs.Shapes.{no_size}
use Rattle.std.specs.Option.{option_map_or}
use Rattle.elk_json.specs.Elements.{Element, elements}
use Rattle.elk_json.specs.Members.{is_node, is_port, is_edge, is_compound, whole_at, id_of, has_bad_option, options_at}
use Rattle.elk_json.specs.Ranges.{is_out_of_range}
use Rattle.elk_json.specs.Ends.{element_at, source_of, target_of}

-- how many elements of a kind stand before a place: the number there of that kind
abbrev pub number_at : (Element → Bool) → List Element → ℕ → ℕ
number_at kind es place = length (filter kind (take place es))

abbrev pub size_of : Data → Size
size_of d = record { width = whole_at (codes "width") d; height = whole_at (codes "height") d }

abbrev pub place_of : Data → Point
place_of d = record { x = whole_at (codes "x") d; y = whole_at (codes "y") d }

-- a compound node has no size of its own
abbrev pub node_size : Element → Size
node_size e = if is_compound e then no_size else size_of e.value

-- the number of the node that an element stands at
abbrev pub owner_number : List Element → Element → Option ℕ
owner_number es e = option_map (number_at is_node es) e.owner

abbrev pub node_of : List Element → Element → Node
node_of es e = record {
  id = id_of e.value;
  parent = owner_number es e;
  size = node_size e;
  rule = (options_at e).rule;
  position = (options_at e).position;
  level = (options_at e).level;
}

-- an id that is there by the rule on shapes
abbrev pub sure_id : Data → Id
sure_id d = unwrap_or (id_of d) (Whole (pos 0))

abbrev pub port_of : List Element → Element → Port
port_of es e = record {
  id = sure_id e.value;
  node = unwrap_or (owner_number es e) 0;
  size = size_of e.value;
  place = place_of e.value;
  side = (options_at e).side;
  index = (options_at e).index;
}

-- the node or port at a place of the list
abbrev pub end_at : List Element → Option ℕ → End
end_at es place =
    let i = unwrap_or place 0 in
    if option_map_or is_node (element_at es i) false then end.Node (number_at is_node es i) else end.Port (number_at is_port es i)

abbrev pub edge_of : List Element → Element → Edge
edge_of es e = record {
  id = sure_id e.value;
  source = end_at es (source_of es e.value);
  target = end_at es (target_of es e.value);
  weight = (options_at e).weight;
}

-- the nodes, ports and edges of a list of elements, each in its order
abbrev pub nodes_of : List Element → List Node
nodes_of es = map (node_of es) (filter is_node es)

abbrev pub ports_of : List Element → List Port
ports_of es = map (port_of es) (filter is_port es)

abbrev pub edges_of : List Element → List Edge
edges_of es = map (edge_of es) (filter is_edge es)

-- elements whose document can be built
pub record IsReady (es : List Element) : Type 0 where
  pub few : length es ≤ 8192
  pub in_range : find is_out_of_range es ≡ None
  pub good : find has_bad_option es ≡ None

-- the document of a value: its nodes, ports and edges, each in document order
pub record IsDocument (doc : Document) (d : Data) : Type 0 where
  pub nodes_are : doc.nodes ≡ nodes_of (elements d)
  pub ports_are : doc.ports ≡ ports_of (elements d)
  pub edges_are : doc.edges ≡ edges_of (elements d)
