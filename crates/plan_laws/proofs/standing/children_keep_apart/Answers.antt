use Rattle.plan_laws.proofs.ApartLemmas.{children_keep_apart}
use Rattle.plan_laws.proofs.standing.children_keep_apart.Goals as goal

pub returns : goal.returns
returns c = children_keep_apart
