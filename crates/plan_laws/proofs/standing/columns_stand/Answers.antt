use Rattle.level_model.proofs.GapLemmas.{has_columns}
use Rattle.plan_laws.proofs.standing.columns_stand.Goals as goal

pub returns : goal.returns
returns c = λ l p o d layers ready drawn. has_columns l p o d ready.level.spacing drawn
