use Rattle.plan_laws.proofs.Alternating.{steps_alternate}
use Rattle.plan_laws.proofs.joins.steps_alternate.Goals as goal

pub returns : goal.returns
returns c = steps_alternate
