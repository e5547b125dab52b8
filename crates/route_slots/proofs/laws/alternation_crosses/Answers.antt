use Rattle.net_routes.proofs.Asking.{least_cut}
use Rattle.route_slots.proofs.laws.alternation_crosses.Goals as goal

pub returns : goal.returns
returns e = least_cut
