use Rattle.plan_laws.proofs.Clearing.{clear_law}
use Rattle.plan_laws.proofs.stage.routes_keep_clear.Goals as goal

pub returns : goal.returns
returns e = clear_law
