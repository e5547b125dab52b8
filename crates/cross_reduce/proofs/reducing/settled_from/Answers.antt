use Rattle.std.proofs.Common.{sym, ◌∙◌}
use Rattle.elk_layers.specs.Layered.{plain, rows_of}
use Rattle.cross_reduce.specs.Reduced.{at_rest}
use Rattle.cross_reduce.proofs.LoweringLemmas.{none_settled}
use Rattle.cross_reduce.proofs.StateLemmas.{same_refl}
use Rattle.cross_reduce.proofs.reducing.settled_from.Goals as goal

pub returns-then-swept-eq0-clause-same : goal.returns-then-swept-eq0-clause-same
returns-then-swept-eq0-clause-same c = same_refl (rows_of c.args.swept.order)

pub returns-then-swept-eq0-clause-settled : goal.returns-then-swept-eq0-clause-settled
returns-then-swept-eq0-clause-settled c = none_settled (plain c.args.layered.now) (rows_of c.args.swept.order) (sym c.requires.counted ∙ c.if-swept-eq0.true)

pub returns-then-swept-eq0-clause-settles : goal.returns-then-swept-eq0-clause-settles
returns-then-swept-eq0-clause-settles c = at_rest (rows_of c.args.swept.order) (returns-then-swept-eq0-clause-settled c)
