use Rattle.working_frame.proofs.Spanned.{moves}
use Rattle.working_frame.proofs.reaching.reach_moves.Goals as goal

pub returns : goal.returns
returns c = λ x z zs. moves x z zs
