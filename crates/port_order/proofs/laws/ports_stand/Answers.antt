use Rattle.port_order.proofs.KeptLemmas.{ports_stand}
use Rattle.port_order.proofs.laws.ports_stand.Goals as goal

pub returns : goal.returns
returns c = ports_stand
