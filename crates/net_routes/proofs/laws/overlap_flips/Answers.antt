use Rattle.net_routes.proofs.Flipping.{flipped, exchanged, pieces_overlap}
use Rattle.net_routes.proofs.laws.overlap_flips.Goals as goal

pub returns-clause-flipped : goal.returns-clause-flipped
returns-clause-flipped e = flipped

pub returns-clause-exchanged : goal.returns-clause-exchanged
returns-clause-exchanged e = exchanged

pub returns-clause-pieces : goal.returns-clause-pieces
returns-clause-pieces e = pieces_overlap
