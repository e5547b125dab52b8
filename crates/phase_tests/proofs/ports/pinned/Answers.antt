use Rattle.std.proofs.Common.{◌∙◌}
use Rattle.port_order.proofs.ExampleLemmas.{corner_child}
use Rattle.phase_tests.proofs.ports.pinned.Goals as goal

pub returns : goal.returns
returns c = corner_child c.args.direction _ (c.from_vec.ensures ∙ c.in_ok-ports.ensures.items)
