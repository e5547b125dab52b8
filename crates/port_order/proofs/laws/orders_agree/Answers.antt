use Rattle.port_order.proofs.AgreeLemmas.{one_order}
use Rattle.port_order.proofs.laws.orders_agree.Goals as goal

pub returns : goal.returns
returns c = one_order
