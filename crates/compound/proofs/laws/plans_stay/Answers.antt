use Rattle.compound.proofs.PlanLemmas.{plans_stay}
use Rattle.compound.proofs.laws.plans_stay.Goals as goal

pub returns : goal.returns
returns c = plans_stay
