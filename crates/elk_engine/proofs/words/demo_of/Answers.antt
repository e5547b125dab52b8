use Rattle.std.proofs.Common.{ap, arith}
use Rattle.std.specs.Prelude.{option_map}
use Rattle.elk_engine.specs.declared.words.Command.TheVariants.{Demo}
use Rattle.elk_engine.proofs.Numbers.{small, none_small}
use Rattle.elk_engine.proofs.words.demo_of.Goals as goal

pub returns-else-leaves-gt1024-clause-value : goal.returns-else-leaves-gt1024-clause-value
returns-else-leaves-gt1024-clause-value c =
    ap (option_map Demo) (small c.args.text.now c.in-Ok.leaves c.in-Ok.ensures.value.0.0.0 c.in-Ok.ensures.value.0.1 (omega arith) (omega arith))

pub returns-in-Err-clause-value : goal.returns-in-Err-clause-value
returns-in-Err-clause-value c = ap (option_map Demo) (none_small c.args.text.now c.in-Err.ensures.value.0)
