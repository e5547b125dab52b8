use Rattle.std.proofs.Common.{arith, to_z-of_z}
use Rattle.port_order.proofs.sides.sticks_out.Goals as goal

pub returns-in-East : goal.returns-in-East
returns-in-East c = rw c.in-East.is (grind (arith, to_z-of_z))

pub returns-in-South : goal.returns-in-South
returns-in-South c = rw c.in-South.is (grind (arith, to_z-of_z))
