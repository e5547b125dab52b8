use Rattle.std.proofs.Common.{◌≡◌, true, rules}
use Rattle.std.proofs.lemmas.Result.{IfOk-weaker, on_ok_weaker}
use Rattle.level_model.specs.Level.{end_at}
use Rattle.level_model.specs.Nets.{of_dock}
use Rattle.level_nets.specs.Read.{dock_inverts}
use Rattle.level_nets.specs.Reach.{parts_in}
use Rattle.level_nets.specs.Held.{plain_gaps}
use Rattle.level_nets.proofs.Holding.{held_more, leg_is, dock_held}
use Rattle.level_nets.proofs.PushLemmas.{gap_inside}
use Rattle.level_nets.proofs.pushing.push_dock.Goals as goal

pub returns-clause-held : goal.returns-clause-held
returns-clause-held c =
    let s = parts_in c.args.sheet.now in
    let n = end_at c.args.edge c.args.at_source in
    let is_reversed : dock_inverts (parts_in c.args.sheet.now) (end_at c.args.edge c.args.at_source) ≡ true = search rules in
    let inside = gap_inside c.args.gaps.now c.args.sheet.now.layered.now.layers c.dock_gap.result c.requires.long c.dock_gap.ensures.inside in
    on_ok_weaker c.push_net.result
    (λ pushed names held. dock_held s names n (plain_gaps c.push_net.new.gaps) is_reversed
    (held_more s names (of_dock n) (plain_gaps c.args.gaps.now) (plain_gaps c.push_net.new.gaps) c.dock_gap.result c.dock_net.result c.dock_gap.ensures.value c.dock_net.ensures inside pushed held))
    c.push_net.ensures.pushed

pub returns-clause-leg : goal.returns-clause-leg
returns-clause-leg c =
    let s = parts_in c.args.sheet.now in
    let n = end_at c.args.edge c.args.at_source in
    let inside = gap_inside c.args.gaps.now c.args.sheet.now.layered.now.layers c.dock_gap.result c.requires.long c.dock_gap.ensures.inside in
    IfOk-weaker c.push_net.result _ _
    (λ leg here names held is_reversed. leg_is s names (of_dock n) (plain_gaps c.args.gaps.now) c.dock_gap.result leg c.dock_gap.ensures.value inside here held)
    c.push_net.ensures.leg
