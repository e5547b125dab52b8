use Rattle.elk_engine.proofs.AgainLaw.{answers_good}
use Rattle.elk_engine.proofs.laws.answers_are_good.Goals as goal

pub returns : goal.returns
returns c = answers_good
