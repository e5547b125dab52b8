use Rattle.elk_engine.proofs.DemoLaws.{demo_counted}
use Rattle.elk_engine.proofs.demo_laws.demo_is_counted.Goals as goal

pub returns : goal.returns
returns c = demo_counted c.args._nodes
