use Rattle.working_frame.proofs.KeptLemmas.{levels_read_sizes}
use Rattle.working_frame.proofs.laws.levels_read_sizes.Goals as goal

pub returns : goal.returns
returns c = levels_read_sizes
