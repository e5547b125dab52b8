use Rattle.route_slots.proofs.Ranking.{orderable, one_orderable}
use Rattle.route_slots.proofs.laws.orders.Goals as goal

pub returns-clause-none : goal.returns-clause-none
returns-clause-none e = orderable

pub returns-clause-one : goal.returns-clause-one
returns-clause-one e = one_orderable
