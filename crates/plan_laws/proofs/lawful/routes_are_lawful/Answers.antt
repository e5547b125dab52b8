use Rattle.plan_laws.proofs.LawfulRoutes.{routes_lawful}
use Rattle.plan_laws.proofs.lawful.routes_are_lawful.Goals as goal

pub returns : goal.returns
returns c = routes_lawful
