use Rattle.port_order.proofs.StrictLemmas.{strict_order}
use Rattle.port_order.proofs.laws.spots_are_ordered.Goals as goal

pub returns : goal.returns
returns c = strict_order
