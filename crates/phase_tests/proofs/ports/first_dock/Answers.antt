use Rattle.std.proofs.Common.{arith}
use Rattle.port_order.proofs.ExampleLemmas.{port_spot, zero_once}
use Rattle.phase_tests.proofs.ports.first_dock.Goals as goal

pub dock_of-requires-clause-spot : goal.dock_of-requires-clause-spot
dock_of-requires-clause-spot c = port_spot _ _ 0 c.port_spot.ensures.port (omega (arith, c.requires.ports)) c.port_spot.ensures.mean

pub dock_of-requires-clause-order : goal.dock_of-requires-clause-order
dock_of-requires-clause-order c = λ spread. rw c.port_spot.ensures.number zero_once
