use Rattle.rotated_levels.proofs.RouteLemmas.{routes_rotate_back}
use Rattle.rotated_levels.proofs.routes.routes_rotate_back.Goals as goal

pub returns : goal.returns
returns c = routes_rotate_back
