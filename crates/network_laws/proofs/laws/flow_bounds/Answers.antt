use Rattle.network_laws.proofs.Duality.{flow_bounds_cost}
use Rattle.network_laws.proofs.laws.flow_bounds.Goals as goal

pub returns : goal.returns
returns c = flow_bounds_cost
