use Rattle.drawing_laws.proofs.DualityLaw.{flow_shows_least}
use Rattle.drawing_laws.proofs.laws.least_by_flow.Goals as goal

pub returns : goal.returns
returns c = flow_shows_least
