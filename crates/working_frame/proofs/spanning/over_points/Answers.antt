use Rattle.std.proofs.Common.{◌∙◌, ap, sym, refl, pos, arith}
use Rattle.std.proofs.lemmas.List.{drop_all}
use Rattle.working_frame.specs.Walk.{reach_over}
use Rattle.working_frame.proofs.Growing.{point_taken}
use Rattle.working_frame.proofs.spanning.over_points.Goals as goal

pub loop-point-preserved : goal.loop-point-preserved
loop-point-preserved c =
    let i = c.loop-point.point-index in
    let inside = c.loop-point-test.true in
    point_taken c.loop-point.found c.with_point-found.result c.args.points.now i _ (record { x = pos 0; y = pos 0 }) inside refl c.with_point-found.ensures ∙ c.loop-point.invariant

pub returns : goal.returns
unfolding reach_over
returns c =
    let end = c.loop-point-test.false in
    sym (ap (λ z. reach_over c.loop-point.found z) (drop_all c.loop-point.point-index c.args.points.now (omega (arith, end, c.loop-point.auto.point-index-end)))) ∙ c.loop-point.invariant
