-- A level of a document as one of children, edges and distances, in the frame in which its direction runs to the right.
use Rattle.std.specs.Prelude.{ℕ, cond, ◌==◌, Bool, false, List, map, ℤ, ◌-ℤ◌, ◌+ℤ◌, Option, None, Some, is_some, length, slice_index_or}
use Rattle.drawing_types.specs.declared.shape.Point.{Point}
use Rattle.drawing_types.specs.declared.shape.Size.{Size}
use Rattle.drawing_types.specs.declared.shape.Side.{Side}
use Rattle.elk_doc.specs.declared.document.Direction.{Direction}
use Rattle.elk_doc.specs.declared.document.Direction.TheVariants.{Right, Left, Down, Up}
use Rattle.elk_doc.specs.declared.document.End.{End}
use Rattle.elk_doc.specs.declared.document.End.TheVariants.{Node as AtNode, Port as AtPort}
use Rattle.elk_doc.specs.declared.document.LevelOptions.{LevelOptions}
use Rattle.elk_doc.specs.declared.drawing.Placed.{Placed}
use Rattle.elk_doc.specs.Document.{Document, node_at, port_at, edge_at, node_of_port}
use Rattle.elk_doc.specs.Level.{children, edges_of, place_of_child}
use Rattle.elk_doc.specs.Drawing.{box_of}
use Rattle.elk_doc.specs.Numbers.{numbers_below, count_below}
use Rattle.elk_doc.specs.PortsKept.{size_along}
use Rattle.drawing_types.specs.Shapes.{half_of}
use Rattle.elk_doc.specs.Sides.{given_side}
use Rattle.drawing_laws.specs.Rotating.{rotated_side}
use Rattle.port_order.specs.declared.children.ChildPort.{ChildPort}
use Rattle.port_order.specs.declared.children.Child.{Child}
use Rattle.port_order.specs.Sides.{is_mirrored, side_else}
use Rattle.port_order.specs.Rotated.{framed_size}
use Rattle.level_model.specs.declared.level.EdgeEnd.{EdgeEnd}
use Rattle.level_model.specs.declared.level.LevelEdge.{LevelEdge}
use Rattle.level_model.specs.Level.{PlainLevel}

-- the i-th child of a node, and the i-th edge of its level
abbrev pub child_number : Document → ℕ → ℕ → ℕ
child_number d n i = slice_index_or (children d n) i 0

abbrev pub edge_number : Document → ℕ → ℕ → ℕ
edge_number d n i = slice_index_or (edges_of d n) i 0

-- the ports of a node in document order, the i-th of them, and the place of a port among those of its node
abbrev pub is_port_of : Document → ℕ → ℕ → Bool
is_port_of d n k = node_of_port d k == n

abbrev pub ports_of : Document → ℕ → List ℕ
ports_of d n = numbers_below (is_port_of d n) (length d.ports)

abbrev pub port_number : Document → ℕ → ℕ → ℕ
port_number d n i = slice_index_or (ports_of d n) i 0

abbrev pub place_of_port : Document → ℕ → ℕ
place_of_port d k = count_below (is_port_of d (node_of_port d k)) k

-- a size in the frame of a direction
abbrev pub rotated_size : Direction → Size → Size
rotated_size way s = framed_size way s

-- the place of something of this size within a box, measured in the frame from the box's corner there
abbrev pub rotated_place : Direction → Size → Size → Point → Point
rotated_place Right box s q = q
rotated_place Left box s q = record { x = box.width -ℤ (q.x +ℤ s.width); y = q.y }
rotated_place Down box s q = record { x = q.y; y = q.x }
rotated_place Up box s q = record { x = box.height -ℤ (q.y +ℤ s.height); y = q.x }

-- how far the anchor of a port lies within it along a side of the frame: a half of its length there, rounded down in the
-- document's frame
abbrev pub half_along : Direction → Side → Size → ℤ
half_along way side s =
    cond (is_mirrored way side) (size_along side s -ℤ half_of (size_along side s)) (half_of (size_along side s))

abbrev pub rotated_given : Direction → Option Side → Option Side
rotated_given way None = None
rotated_given way (Some s) = Some (rotated_side way s)

-- a port of a child whose box has this size
abbrev pub level_port : Document → Direction → Size → ℕ → ChildPort
level_port d way box k =
    record {
      size = rotated_size way (port_at d k).size;
      place = rotated_place way box (port_at d k).size (port_at d k).place;
      half = half_along way (side_else (rotated_given way (given_side d k)) false) (rotated_size way (port_at d k).size);
      side = rotated_given way (port_at d k).side;
      index = (port_at d k).index;
    }

-- the size of a node's box in a drawing
abbrev pub box_size : Placed → ℕ → Size
box_size p c = record { width = (box_of p c).width; height = (box_of p c).height }

-- a child of a level: compound nodes count with the sizes that they have in the drawing
abbrev pub level_child : Document → Placed → Direction → ℕ → Child
level_child d p way c =
    record {
      size = rotated_size way (box_size p c);
      compound = is_some (node_at d c).level;
      rule = (node_at d c).rule;
      direction = way;
      position = (node_at d c).position;
      ports = map (level_port d way (box_size p c)) (ports_of d c);
    }

-- an end of an edge of the level of n: the place of its child, and that of its port
abbrev pub spoke_of : Document → ℕ → End → EdgeEnd
spoke_of d n (AtNode c) = record { child = place_of_child d n c; port = None }
spoke_of d n (AtPort k) = record { child = place_of_child d n (node_of_port d k); port = Some (place_of_port d k) }

abbrev pub level_edge : Document → ℕ → ℕ → LevelEdge
level_edge d n e =
    record { source = spoke_of d n (edge_at d e).source; target = spoke_of d n (edge_at d e).target; weight = (edge_at d e).weight }

-- The level of n with these options, in the frame of its direction: its children and edges in document order.
abbrev pub level_of : Document → Placed → ℕ → LevelOptions → PlainLevel
level_of d p n o =
    record {
      children = map (level_child d p o.direction) (children d n);
      edges = map (level_edge d n) (edges_of d n);
      spacing = o.spacing;
      choices = o.choices;
    }
