use Rattle.crossing_laws.proofs.Crossing.{nets_cross_as_drawn}
use Rattle.crossing_laws.proofs.laws.nets_cross_as_drawn.Goals as goal

pub returns : goal.returns
returns e = nets_cross_as_drawn
