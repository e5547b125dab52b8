use Rattle.std.proofs.Common.{◌≡◌, true, rules}
use Rattle.std.proofs.lemmas.Result.{IfOk-weaker, on_ok_weaker}
use Rattle.level_model.specs.Nets.{of_loop}
use Rattle.level_nets.specs.Read.{passes_on}
use Rattle.level_nets.specs.Reach.{parts_in}
use Rattle.level_nets.specs.Held.{plain_gaps}
use Rattle.level_nets.proofs.Holding.{held_more, leg_is, passage_held}
use Rattle.level_nets.proofs.PushLemmas.{gap_inside}
use Rattle.level_nets.proofs.pushing.push_passage.Goals as goal

pub returns-clause-held : goal.returns-clause-held
returns-clause-held c =
    let s = parts_in c.args.sheet.now in
    let passes : passes_on (parts_in c.args.sheet.now) c.args.edge c.args.side ≡ true = search rules in
    let inside = gap_inside c.args.gaps.now c.args.sheet.now.layered.now.layers c.loop_gap.result c.requires.long c.loop_gap.ensures.inside in
    on_ok_weaker c.push_net.result
    (λ pushed names held. passage_held s names (passes_on s c.args.edge c.args.side) c.args.edge c.args.side (plain_gaps c.push_net.new.gaps) passes
    (held_more s names (of_loop c.args.edge c.args.side) (plain_gaps c.args.gaps.now) (plain_gaps c.push_net.new.gaps) c.loop_gap.result c.loop_net.result c.loop_gap.ensures.value c.loop_net.ensures inside pushed held))
    c.push_net.ensures.pushed

pub returns-clause-leg : goal.returns-clause-leg
returns-clause-leg c =
    let s = parts_in c.args.sheet.now in
    let inside = gap_inside c.args.gaps.now c.args.sheet.now.layered.now.layers c.loop_gap.result c.requires.long c.loop_gap.ensures.inside in
    IfOk-weaker c.push_net.result _ _
    (λ leg here names held passes. leg_is s names (of_loop c.args.edge c.args.side) (plain_gaps c.args.gaps.now) c.loop_gap.result leg c.loop_gap.ensures.value inside here held)
    c.push_net.ensures.leg
