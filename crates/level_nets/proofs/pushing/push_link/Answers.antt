use Rattle.std.proofs.Common.{arith}
use Rattle.std.proofs.lemmas.Result.{IfOk-weaker, on_ok_weaker}
use Rattle.level_model.specs.Nets.{of_link}
use Rattle.level_nets.specs.Reach.{parts_in}
use Rattle.level_nets.specs.Held.{plain_gaps}
use Rattle.level_nets.proofs.Holding.{held_more, leg_is}
use Rattle.level_nets.proofs.PushLemmas.{gap_inside}
use Rattle.level_nets.proofs.pushing.push_link.Goals as goal

pub returns-clause-held : goal.returns-clause-held
returns-clause-held c =
    let s = parts_in c.args.sheet.now in
    let inside = gap_inside c.args.gaps.now c.args.sheet.now.layered.now.layers c.link_gap.result c.requires.long (let less = c.link_gap.ensures.inside in omega (arith, less)) in
    on_ok_weaker c.push_net.result
    (λ pushed names held. held_more s names (of_link c.args.link) (plain_gaps c.args.gaps.now) (plain_gaps c.push_net.new.gaps) c.link_gap.result c.link_net.result c.link_gap.ensures.value c.link_net.ensures inside pushed held)
    c.push_net.ensures.pushed

pub returns-clause-leg : goal.returns-clause-leg
returns-clause-leg c =
    let s = parts_in c.args.sheet.now in
    let inside = gap_inside c.args.gaps.now c.args.sheet.now.layered.now.layers c.link_gap.result c.requires.long (let less = c.link_gap.ensures.inside in omega (arith, less)) in
    IfOk-weaker c.push_net.result _ _
    (λ leg here names held. leg_is s names (of_link c.args.link) (plain_gaps c.args.gaps.now) c.link_gap.result leg c.link_gap.ensures.value inside here held)
    c.push_net.ensures.leg
