use Rattle.plan_laws.proofs.LegsThere.{traces_join}
use Rattle.plan_laws.proofs.joins.traces_join.Goals as goal

pub returns : goal.returns
returns c = traces_join
