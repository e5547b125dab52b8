use Rattle.plan_laws.proofs.ExampleLemmas.{chained_ready}
use Rattle.plan_laws.proofs.standing.chained_level_is_ready.Goals as goal

pub returns : goal.returns
returns c = chained_ready
