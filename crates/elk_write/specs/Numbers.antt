-- The numbers of nodes, ports and edges in document order.
use Rattle.std.specs.Prelude.{ℕ, ◌+◌, List, length, codes, bytes_eq, if◌then◌else◌}
use Rattle.serde_json.specs.Data.{Data, array, object, Items, no_items, item, Members, no_members, member}
use Rattle.elk_json.specs.Elements.{listed}
use Rattle.elk_write.specs.declared.numbers.Numbers.{Numbers}

abbrev pub from_zero : Numbers
from_zero = record { node = 0; port = 0; edge = 0 }

-- the numbers that follow a node, its ports and its edges
abbrev pub past_own : Numbers → Data → Numbers
past_own at d = record {
  node = at.node + 1;
  port = at.port + length (listed (codes "ports") d);
  edge = at.edge + length (listed (codes "edges") d);
}

-- the numbers that follow a node with all that stands in it
abbrev mutual
  pub past_node : Numbers → Data → Numbers
  past_node at (object ms) = past_members (past_own at (object ms)) ms
  past_node at d = past_own at d

  pub past_members : Numbers → Members → Numbers
  past_members at no_members = at
  past_members at (member k d ms) = past_members (past_member k at d) ms

  pub past_member : List ℕ → Numbers → Data → Numbers
  past_member k at (array ds) = if bytes_eq k (codes "children") then past_children at ds else at
  past_member k at d = at

  pub past_children : Numbers → Items → Numbers
  past_children at no_items = at
  past_children at (item d ds) = past_children (past_node at d) ds
