use Rattle.plan_laws.proofs.PortLemmas.{ports_are_kept}
use Rattle.plan_laws.proofs.standing.ports_are_kept.Goals as goal

pub returns : goal.returns
returns c = ports_are_kept
