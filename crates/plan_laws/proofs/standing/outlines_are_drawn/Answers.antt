use Rattle.plan_laws.proofs.ApartLemmas.{outlines_are_drawn}
use Rattle.plan_laws.proofs.standing.outlines_are_drawn.Goals as goal

pub returns : goal.returns
returns c = outlines_are_drawn
