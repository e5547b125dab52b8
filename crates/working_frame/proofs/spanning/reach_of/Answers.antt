use Rattle.std.proofs.Common.{None, IfSome, sym, subst, ◌∙◌, ◌↔◌, ◌≡◌, []}
use Rattle.working_frame.specs.Reach.{corners_of, points_of, reached, IsReach}
use Rattle.working_frame.proofs.Growing.{over_more}
use Rattle.working_frame.proofs.Spanned.{none_reached, some_reached}
use Rattle.working_frame.proofs.spanning.reach_of.Goals as goal

pub returns-clause-none : goal.returns-clause-none
returns-clause-none c =
    let ps = reached c.args.outlines.now c.args.sections.now in
    let is = c.over_sections.ensures ∙ over_more None c.over_outlines-boxed.result (corners_of c.args.outlines.now) (points_of c.args.sections.now) c.over_outlines-boxed.ensures in
    subst (λ o. o ≡ None ↔ ps ≡ []) (sym is) (none_reached ps)

pub returns-clause-some : goal.returns-clause-some
returns-clause-some c =
    let ps = reached c.args.outlines.now c.args.sections.now in
    let is = c.over_sections.ensures ∙ over_more None c.over_outlines-boxed.result (corners_of c.args.outlines.now) (points_of c.args.sections.now) c.over_outlines-boxed.ensures in
    subst (λ o. IfSome o (IsReach ps)) (sym is) (some_reached ps)
