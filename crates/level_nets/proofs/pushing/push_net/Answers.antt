use Rattle.std.proofs.Common.{List, length, get_or, ap, arith}
use Rattle.net_routes.specs.declared.Net.{Net}
use Rattle.route_lines.specs.Points.{PlainGap}
use Rattle.level_nets.proofs.PushLemmas.{pushed_is, few_here}
use Rattle.level_nets.proofs.pushing.push_net.Goals as goal

pub overflow_cast-leg : goal.overflow_cast-leg
overflow_cast-leg c =
    let few = few_here c.args.gaps.now c.args.gap c.index-gaps-gap.result c.requires.gap c.requires.few in
    let same = ap length c.as_slice.ensures.value in
    omega (arith, few, same)

pub returns-clause-pushed : goal.returns-clause-pushed
returns-clause-pushed c =
    let old = get_or c.args.gaps.now c.args.gap c.index-gaps-gap.result in
    let f : List Net → PlainGap = λ ns. record { left = old.left; first = old.first; step = old.step; right = old.right; nets = ns; count = old.slots.count; routes = old.slots.routes.items } in
    pushed_is c.args.gaps.now c.args.gap _ c.index-gaps-gap.result c.args.net c.requires.gap (ap f c.in_ok-push.ensures.items)
