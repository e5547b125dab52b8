use Rattle.port_order.proofs.RotatedLemmas.{directions_rotate}
use Rattle.port_order.proofs.laws.directions_rotate.Goals as goal

pub returns : goal.returns
returns c = directions_rotate
