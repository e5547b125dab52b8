use Rattle.plan_laws.proofs.NetLemmas.{nets_stand}
use Rattle.plan_laws.proofs.standing.nets_stand.Goals as goal

pub returns : goal.returns
returns c = λ l p o d layers ready drawn. nets_stand l p o layers ready d drawn
