use Rattle.std.proofs.Common.{◌≡◌, [], sym, subst, List, IfSome}
use Rattle.drawing_types.specs.declared.shape.Rect.{Rect}
use Rattle.drawing_types.specs.declared.section.Section.{Section}
use Rattle.working_frame.specs.Reach.{IsReach, reached}
use Rattle.level_draw.proofs.ReachFar.{reach_far, reach_of_all}
use Rattle.level_draw.proofs.shifting.reach_in.Goals as goal

pub returns-clause-reach : goal.returns-clause-reach
returns-clause-reach c =
    subst (IsReach (reached c.args.parts.now.outlines.items c.args.parts.now.sections.items)) (sym c.reach_or.ensures)
    (reach_of_all (reached c.args.parts.now.outlines.items c.args.parts.now.sections.items) c.reach_of.result
    (λ none. subst (λ (rs : List Rect). reached rs c.args.parts.now.sections.items ≡ []) c.as_slice.ensures.value
    (subst (λ (ss : List Section). reached c.as_slice.result.now ss ≡ []) c.as_slice-2.ensures.value (c.reach_of.ensures.none.0 none)))
    (subst (λ (rs : List Rect). IfSome c.reach_of.result (IsReach (reached rs c.args.parts.now.sections.items))) c.as_slice.ensures.value
    (subst (λ (ss : List Section). IfSome c.reach_of.result (IsReach (reached c.as_slice.result.now ss))) c.as_slice-2.ensures.value c.reach_of.ensures.some)))

pub returns-clause-far : goal.returns-clause-far
returns-clause-far c =
    reach_far c.args.parts.now.outlines.items c.args.parts.now.sections.items c.reach_or.result c.requires.outlines c.requires.sections (returns-clause-reach c)
