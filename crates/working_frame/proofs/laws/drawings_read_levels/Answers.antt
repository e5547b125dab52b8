use Rattle.working_frame.proofs.KeptLemmas.{drawings_read_levels}
use Rattle.working_frame.proofs.laws.drawings_read_levels.Goals as goal

pub returns : goal.returns
returns c = drawings_read_levels
