use Rattle.rotated_levels.proofs.JoinedWholeLemmas.{drawings_join}
use Rattle.rotated_levels.proofs.joining.drawings_join.Goals as goal

pub returns : goal.returns
returns c = drawings_join
