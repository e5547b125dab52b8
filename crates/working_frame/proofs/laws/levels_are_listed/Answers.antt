use Rattle.working_frame.proofs.NumberedLemmas.{levels_are_listed}
use Rattle.working_frame.proofs.laws.levels_are_listed.Goals as goal

pub returns : goal.returns
returns c = levels_are_listed
