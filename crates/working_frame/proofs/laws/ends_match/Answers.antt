use Rattle.working_frame.proofs.NumberedLemmas.{ends_match}
use Rattle.working_frame.proofs.laws.ends_match.Goals as goal

pub returns : goal.returns
returns c = ends_match
