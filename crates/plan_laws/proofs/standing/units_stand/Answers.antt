use Rattle.plan_laws.proofs.RowLemmas.{has_units}
use Rattle.plan_laws.proofs.standing.units_stand.Goals as goal

pub returns : goal.returns
returns c = λ l p o d layers ready. has_units l p o d layers ready
