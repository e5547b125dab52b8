use Rattle.rotated_levels.proofs.SpreadLemmas.{ports_rotate_back}
use Rattle.rotated_levels.proofs.ports.ports_rotate_back.Goals as goal

pub returns : goal.returns
returns c = ports_rotate_back
