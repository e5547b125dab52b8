use Rattle.elk_engine.proofs.DemoLaws.{edges_lead_on}
use Rattle.elk_engine.proofs.demo_laws.demo_edges_lead_on.Goals as goal

pub returns : goal.returns
returns c = edges_lead_on c.args._nodes
