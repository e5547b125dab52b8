use Rattle.std.proofs.Common.{◌∙◌, ap, sym, arith}
use Rattle.std.proofs.lemmas.List.{drop_all}
use Rattle.working_frame.specs.Reach.{points_of}
use Rattle.working_frame.specs.Walk.{reach_over}
use Rattle.working_frame.proofs.Growing.{section_taken}
use Rattle.working_frame.proofs.spanning.over_sections.Goals as goal

pub loop-section-preserved : goal.loop-section-preserved
loop-section-preserved c =
    let i = c.loop-section.section-index in
    let inside = c.loop-section-test.true in
    section_taken c.loop-section.found c.over_section-found.result c.args.sections.now i c.section-item.result c.section-item.result inside c.section-item.is c.over_section-found.ensures ∙ c.loop-section.invariant

pub returns : goal.returns
unfolding points_of reach_over
returns c =
    let end = c.loop-section-test.false in
    sym (ap (λ z. reach_over c.loop-section.found (points_of z)) (drop_all c.loop-section.section-index c.args.sections.now (omega (arith, end, c.loop-section.auto.section-index-end)))) ∙ c.loop-section.invariant
