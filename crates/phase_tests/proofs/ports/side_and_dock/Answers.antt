use Rattle.std.proofs.Common.{arith, sym, ◌∙◌, ◌≡◌, true, false}
use Rattle.port_order.proofs.ExampleLemmas.{port_spot, pinned_spot}
use Rattle.phase_tests.proofs.ports.side_and_dock.Goals as goal

pub side_of-requires-clause-spot : goal.side_of-requires-clause-spot
side_of-requires-clause-spot c = port_spot _ _ 0 c.port_spot-corner.ensures.port (omega (arith, c.requires.one)) c.port_spot-corner.ensures.mean

pub dock_of-requires-clause-spot : goal.dock_of-requires-clause-spot
dock_of-requires-clause-spot c = port_spot _ _ 0 c.port_spot-corner.ensures.port (omega (arith, c.requires.one)) c.port_spot-corner.ensures.mean

pub dock_of-requires-clause-order : goal.dock_of-requires-clause-order
dock_of-requires-clause-order c = λ spread. let bad : true ≡ false = sym (pinned_spot c.args.child.now c.port_spot-corner.result 0 c.requires.rule c.requires.leaf c.port_spot-corner.ensures.port) ∙ spread in absurd cc
