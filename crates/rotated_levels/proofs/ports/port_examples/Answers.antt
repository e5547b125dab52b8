use Rattle.rotated_levels.proofs.PortExampleLemmas.{upward_stands}
use Rattle.rotated_levels.proofs.ports.port_examples.Goals as goal

pub returns : goal.returns
returns c = upward_stands
