use Rattle.compound.proofs.KeptLemmas.{root_ports_are_kept}
use Rattle.compound.proofs.ports.root_ports_are_kept.Goals as goal

pub returns : goal.returns
returns c = root_ports_are_kept
