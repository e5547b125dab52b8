use Rattle.std.proofs.Common.{arith}
use Rattle.port_order.proofs.ExampleLemmas.{four_spots, port_spot, leaving_end}
use Rattle.phase_tests.proofs.ports.order_of.Goals as goal

pub order_side-requires-clause-spots : goal.order_side-requires-clause-spots
order_side-requires-clause-spots c =
    four_spots _ _ _ _ _ c.port_spot.ensures.number c.port_spot-2.ensures.number c.port_spot-3.ensures.number c.leaving_end.ensures.number
    (port_spot _ _ 0 c.port_spot.ensures.port (omega (arith, c.requires.ports)) c.port_spot.ensures.mean)
    (port_spot _ _ 1 c.port_spot-2.ensures.port (omega (arith, c.requires.ports)) c.port_spot-2.ensures.mean)
    (port_spot _ _ 2 c.port_spot-3.ensures.port (omega (arith, c.requires.ports)) c.port_spot-3.ensures.mean)
    (leaving_end _ _ c.leaving_end.ensures.port c.leaving_end.ensures.leaves c.leaving_end.ensures.mean)
