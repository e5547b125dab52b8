use Rattle.port_order.proofs.PlaceLemmas.{offsets_rise}
use Rattle.port_order.proofs.laws.offsets_rise.Goals as goal

pub returns : goal.returns
returns c = offsets_rise
