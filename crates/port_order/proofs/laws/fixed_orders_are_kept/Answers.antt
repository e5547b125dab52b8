use Rattle.port_order.proofs.KeptLemmas.{order_kept}
use Rattle.port_order.proofs.laws.fixed_orders_are_kept.Goals as goal

pub returns : goal.returns
returns c = order_kept
