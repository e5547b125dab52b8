use Rattle.std.proofs.Common.{◌+◌, ◌∙◌, arith, get_or}
use Rattle.bk_place.proofs.SpokeLemmas.{fan_between, first_before}
use Rattle.bk_place.proofs.spokes.fan.Goals as goal

pub window-requires-clause-order : goal.window-requires-clause-order
window-requires-clause-order c =
    first_before c.args.spokes.now c.args.unit (get_or c.args.firsts.now c.args.unit 0) (get_or c.args.firsts.now (c.args.unit + 1) 0)
    (c.requires.firsts c.args.unit (omega (arith, c.requires.unit))) (c.requires.firsts (c.args.unit + 1) c.requires.unit)

pub window-requires-clause-bound : goal.window-requires-clause-bound
window-requires-clause-bound c = (c.requires.firsts (c.args.unit + 1) c.requires.unit).bound

pub returns : goal.returns
returns c =
    c.window.ensures
    ∙ fan_between c.args.spokes.now c.args.unit (get_or c.args.firsts.now c.args.unit 0) (get_or c.args.firsts.now (c.args.unit + 1) 0)
    (c.requires.firsts c.args.unit (omega (arith, c.requires.unit))) (c.requires.firsts (c.args.unit + 1) c.requires.unit)
