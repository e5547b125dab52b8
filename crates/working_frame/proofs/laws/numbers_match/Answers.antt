use Rattle.working_frame.proofs.NumberedLemmas.{numbers_match}
use Rattle.working_frame.proofs.laws.numbers_match.Goals as goal

pub returns : goal.returns
returns c = numbers_match
