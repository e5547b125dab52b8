use Rattle.level_model.proofs.LineLemmas.{lines_stand}
use Rattle.plan_laws.proofs.standing.lines_stand.Goals as goal

pub returns : goal.returns
returns c = λ l p o d layers ready. lines_stand l p o layers ready d
