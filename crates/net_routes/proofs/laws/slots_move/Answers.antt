use Rattle.net_routes.proofs.SlotMoves.{fewest_moves, fewest_back, uncrossed_moves, uncrossed_back}
use Rattle.net_routes.proofs.laws.slots_move.Goals as goal

pub returns-clause-fewest : goal.returns-clause-fewest
returns-clause-fewest e = λ y nets count routes. (fewest_moves y nets count routes, fewest_back y nets count routes)

pub returns-clause-uncrossed : goal.returns-clause-uncrossed
returns-clause-uncrossed e = λ y nets count routes. (uncrossed_moves y nets count routes, uncrossed_back y nets count routes)
