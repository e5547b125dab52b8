use Rattle.std.proofs.Common.{◌≡◌, drop}
use Rattle.std.specs.Prelude.{None}
use Rattle.port_order.specs.Sides.{first_side, touches, tried_sides}
use Rattle.port_order.proofs.sides.side_touched.Given as goal

abbrev pub invariant-loop-side : goal.invariant-loop-side
invariant-loop-side l = first_side (touches l.fn.outer l.fn.place l.fn.size) (tried_sides l.fn.direction) None ≡ first_side (touches l.fn.outer l.fn.place l.fn.size) (drop l.side-index l.side-items) None
