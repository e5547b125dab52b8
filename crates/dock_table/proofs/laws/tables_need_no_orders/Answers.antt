use Rattle.dock_table.proofs.AgreeingLemmas.{need_no_orders}
use Rattle.dock_table.proofs.laws.tables_need_no_orders.Goals as goal

pub returns : goal.returns
returns c = need_no_orders
