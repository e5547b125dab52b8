use Rattle.level_model.proofs.EndLemmas.{child_stands, end_stands}
use Rattle.plan_laws.proofs.standing.ends_stand.Goals as goal

pub returns : goal.returns
returns c = λ l p o d layers ready drawn. record { children = child_stands l p o layers ready d drawn; ends = end_stands l p o layers ready d drawn }
