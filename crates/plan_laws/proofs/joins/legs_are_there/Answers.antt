use Rattle.plan_laws.proofs.LegsThere.{legs_there}
use Rattle.plan_laws.proofs.joins.legs_are_there.Goals as goal

pub returns : goal.returns
returns c = legs_there
