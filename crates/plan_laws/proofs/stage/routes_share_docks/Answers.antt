use Rattle.plan_laws.proofs.Sharing.{sharing_law}
use Rattle.plan_laws.proofs.stage.routes_share_docks.Goals as goal

pub returns : goal.returns
returns e = sharing_law
