use Rattle.plan_laws.proofs.NearPoints.{points_near}
use Rattle.plan_laws.proofs.joins.points_are_near.Goals as goal

pub returns : goal.returns
returns c = points_near
