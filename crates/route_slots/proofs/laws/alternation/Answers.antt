use Rattle.route_slots.proofs.Ordered.{as_asked}
use Rattle.net_routes.proofs.Straight.{common, alternate_straight}
use Rattle.net_routes.proofs.Asking.{alternate_flipped}
use Rattle.route_slots.proofs.laws.alternation.Goals as goal

pub returns-clause-common : goal.returns-clause-common
returns-clause-common e = common

pub returns-clause-flipped : goal.returns-clause-flipped
returns-clause-flipped e = let f = alternate_straight in let g = as_asked in alternate_flipped
