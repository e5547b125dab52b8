-- The ports and spots of a child by number. A number past the end names an empty part.
use Rattle.std.specs.Prelude.{ℕ, Bool, false, not, List, pos, Option, None, Some, slice_index_or, is_some}
use Rattle.drawing_types.specs.Shapes.{origin, no_size}
use Rattle.elk_doc.specs.PortsKept.{pins}
use Rattle.port_order.specs.declared.children.ChildPort.{ChildPort}
use Rattle.port_order.specs.declared.children.Child.{Child}
use Rattle.port_order.specs.declared.spots.Spot.{Spot}

abbrev pub no_port : ChildPort
no_port = record { size = no_size; place = origin; half = pos 0; side = None; index = pos 0 }

abbrev pub port_at : Child → ℕ → ChildPort
port_at c k = slice_index_or c.ports k no_port

abbrev pub no_spot : Spot
no_spot = record { port = None; number = 0; leaves = false; enters = false; mean = None }

abbrev pub spot_at : List Spot → ℕ → Spot
spot_at spots i = slice_index_or spots i no_spot

-- a port is pinned under fixed positions: at a leaf always, at a compound child where it asks for a side
abbrev pub is_pinned : Child → ℕ → Bool
is_pinned c k = pins c.rule (not c.compound) (is_some (port_at c k).side)

abbrev pub is_pinned_at : Child → Option ℕ → Bool
is_pinned_at c None = false
is_pinned_at c (Some k) = is_pinned c k

-- every spot is spread whose port is not pinned; implicit ends always are
abbrev pub is_pinned_spot : Child → Spot → Bool
is_pinned_spot c s = is_pinned_at c s.port
