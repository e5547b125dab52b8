use Rattle.plan_laws.proofs.Whole.{stage_stands}
use Rattle.plan_laws.proofs.standing.the_stage_stands.Goals as goal

pub returns : goal.returns
returns c = stage_stands
