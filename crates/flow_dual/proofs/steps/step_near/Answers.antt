use Rattle.std.proofs.Common.{◌+◌, ◌<◌, ◌^◌, pos, ◌≤ℤ◌, ◌+ℤ◌, arith, rules, subst}
use Rattle.std.proofs.lemmas.Int.{ints}
use Rattle.network_laws.specs.Layering.{layer_of}
use Rattle.network_laws.specs.Links.{end_of}
use Rattle.flow_dual.proofs.steps.step_near.Goals as goal

pub overflow_add-result : goal.overflow_add-result
overflow_add-result c =
    let at = subst (λ end. pos c.args.near ≤ℤ (layer_of c.args.layer.now (end_of end c.args.e) +ℤ pos (2 ^ 62))) c.in-Tail.is c.requires.low in
    let s = c.slack_of.ensures.small in
    let l : c.args.near + c.slack_of.result < 2 ^ 64 = omega (arith, ints, at, s) in
    search rules
