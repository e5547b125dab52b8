use Rattle.std.proofs.Common.{[], ◌∷◌, ◌++◌, ◌∙◌, ap}
use Rattle.working_frame.specs.Walk.{reach_over}
use Rattle.working_frame.proofs.Growing.{over_more}
use Rattle.working_frame.proofs.spanning.over_section.Goals as goal

pub returns : goal.returns
returns c =
    let s = c.args.section.now in
    let end = s.end ∷ [] in
    c.with_point.ensures
    ∙ over_more c.with_point-begun.result c.over_points-bent.result s.bends end (c.over_points-bent.ensures ∙ ap (reach_over c.with_point-begun.result) c.as_slice.ensures.value)
    ∙ over_more c.args.reach c.with_point-begun.result (s.start ∷ []) (s.bends ++ end) c.with_point-begun.ensures
