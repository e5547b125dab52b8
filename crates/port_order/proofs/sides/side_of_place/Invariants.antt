use Rattle.std.proofs.Common.{◌≡◌, drop}
use Rattle.port_order.specs.Sides.{first_side, sticks_out, side_of_place}
use Rattle.port_order.proofs.sides.side_of_place.Given as goal

abbrev pub invariant-loop-side : goal.invariant-loop-side
invariant-loop-side l = side_of_place l.fn.direction l.fn.outer l.fn.place l.fn.size ≡ first_side (sticks_out l.fn.outer l.fn.place l.fn.size) (drop l.side-index l.side-items) l.touched
