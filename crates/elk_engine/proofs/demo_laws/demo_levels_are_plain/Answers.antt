use Rattle.elk_engine.proofs.DemoLaws.{levels_plain}
use Rattle.elk_engine.proofs.demo_laws.demo_levels_are_plain.Goals as goal

pub returns : goal.returns
returns c = levels_plain c.args._nodes
