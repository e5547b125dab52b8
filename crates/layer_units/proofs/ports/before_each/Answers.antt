use Rattle.std.proofs.lemmas.Result.{IfOk-weaker}
use Rattle.layer_units.proofs.NoteLemmas.{counted_before}
use Rattle.layer_units.proofs.ports.before_each.Goals as goal

pub returns-in_default : goal.returns-in_default
returns-in_default c = IfOk-weaker c.counted.result _ _ (λ before made. counted_before c.args.child.now c.args.spots.now c.args.ports.now before.items c.in_default.not-FixedOrder c.requires.ports made) c.counted.ensures
