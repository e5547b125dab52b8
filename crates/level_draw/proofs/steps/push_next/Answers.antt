use Rattle.std.proofs.Common.{◌∙◌, FitsSigned, w64, ap, rules}
use Rattle.std.proofs.lemmas.Int.{to_z-of_z}
use Rattle.elk_layers.specs.declared.units.Link.{Link}
use Rattle.elk_layers.specs.Lines.{top_of}
use Rattle.route_lines.specs.declared.Step.TheVariants.{Lane}
use Rattle.level_nets.specs.Reach.{parts_in}
use Rattle.level_draw.proofs.Walking.{two_more}
use Rattle.level_draw.proofs.steps.push_next.Goals as goal

pub returns-clause-steps : goal.returns-clause-steps
returns-clause-steps c =
    let fits : FitsSigned w64 c.top_of.result = search rules in
    two_more _ _ _ _ _ _ _ c.in_ok-push.ensures.items c.in_ok-push-2.ensures.items
    (ap Lane (to_z-of_z w64 c.top_of.result fits ∙ c.top_of.ensures ∙ ap (λ (l : Link). top_of (parts_in c.args.sheet.now).tops l.head) c.link_at-head.ensures))
    c.link_leg.ensures
