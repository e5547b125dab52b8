use Rattle.elk_engine.proofs.DemoLaws.{demo_sound}
use Rattle.elk_engine.proofs.demo_laws.demo_is_sound.Goals as goal

pub returns : goal.returns
returns c = demo_sound c.args._nodes c.requires.some c.requires.few
