use Rattle.std.proofs.Common.{◌∙◌, ap, sym, refl, pos, arith}
use Rattle.std.proofs.lemmas.List.{drop_all}
use Rattle.working_frame.specs.Reach.{corners_of}
use Rattle.working_frame.specs.Walk.{reach_over}
use Rattle.working_frame.proofs.Growing.{outline_taken}
use Rattle.working_frame.proofs.spanning.over_outlines.Goals as goal

pub loop-outline-preserved : goal.loop-outline-preserved
loop-outline-preserved c =
    let i = c.loop-outline.outline-index in
    let inside = c.loop-outline-test.true in
    outline_taken c.loop-outline.found c.over_outline-found.result c.args.outlines.now i _ (record { x = pos 0; y = pos 0; width = pos 0; height = pos 0 }) inside refl c.over_outline-found.ensures ∙ c.loop-outline.invariant

pub returns : goal.returns
unfolding corners_of reach_over
returns c =
    let end = c.loop-outline-test.false in
    sym (ap (λ z. reach_over c.loop-outline.found (corners_of z)) (drop_all c.loop-outline.outline-index c.args.outlines.now (omega (arith, end, c.loop-outline.auto.outline-index-end)))) ∙ c.loop-outline.invariant
