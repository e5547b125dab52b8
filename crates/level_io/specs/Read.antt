-- Children of a level by the sizes of their boxes.
use Rattle.std.specs.Prelude.{◌≡◌, ℕ, List, map, length, slice_index_or, is_some}
use Rattle.drawing_types.specs.declared.shape.Size.{Size}
use Rattle.elk_doc.specs.declared.document.Direction.{Direction}
use Rattle.elk_doc.specs.declared.drawing.Placed.{Placed}
use Rattle.elk_doc.specs.Document.{Document, node_at}
use Rattle.drawing_types.specs.Shapes.{no_size}
use Rattle.elk_doc.specs.Level.{IsChild}
use Rattle.port_order.specs.declared.children.Child.{Child}
use Rattle.port_order.specs.Conditions.{IsSmall}
use Rattle.working_frame.specs.Rotated.{box_size, level_port, ports_of, rotated_size}

-- the size of a node's box, where they are given by node
abbrev pub size_at : List Size → ℕ → Size
size_at sizes c = slice_index_or sizes c no_size

-- a node as a child whose box has this size, in the frame
abbrev pub child_with : Document → Direction → Size → ℕ → Child
child_with d way s c =
    record {
      size = rotated_size way s;
      compound = is_some (node_at d c).level;
      rule = (node_at d c).rule;
      direction = way;
      position = (node_at d c).position;
      ports = map (level_port d way s) (ports_of d c);
    }

abbrev pub sized_child : Document → Direction → List Size → ℕ → Child
sized_child d way sizes c = child_with d way (size_at sizes c) c

-- a size for each node, and those of the children of n from 0 to 2^47
pub record AreSizes (d : Document) (n : ℕ) (sizes : List Size) : Type 0 where
  pub as_many : length sizes ≡ length d.nodes
  pub small : (c : ℕ) → IsChild d n c → IsSmall (size_at sizes c)

-- a drawing whose boxes have these sizes at the children of n
abbrev pub HasSizes : Document → Placed → ℕ → List Size → Type 0
HasSizes d p n sizes = (c : ℕ) → IsChild d n c → box_size p c ≡ size_at sizes c
