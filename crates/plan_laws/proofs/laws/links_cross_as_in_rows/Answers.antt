use Rattle.plan_laws.proofs.CrossedLinks as lemmas
use Rattle.plan_laws.proofs.laws.links_cross_as_in_rows.Goals as goal

pub returns : goal.returns
returns c = lemmas.links_cross_as_in_rows
