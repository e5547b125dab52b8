use Rattle.std.proofs.Common.{◌≡◌, ◌∙◌, replicate, false}
use Rattle.layout_check.proofs.StepLaws.{start_reached}
use Rattle.layout_check.proofs.paths.reaches.Goals as goal

pub follow_all-requires-clause-reached : goal.follow_all-requires-clause-reached
follow_all-requires-clause-reached c =
    let fresh : c.as_mut_slice-room.result.now ≡ replicate c.args.nodes false = c.as_mut_slice-room.ensures.value ∙ c.in_ok-marks.ensures.items_if_clones_equal (λ y e. e) in
    start_reached c.args.steps.now c.args.nodes c.args.from c.as_mut_slice-room.result.now fresh
