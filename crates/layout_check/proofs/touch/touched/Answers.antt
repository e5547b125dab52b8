use Rattle.std.proofs.Common.{◌≡◌, ℕ, ◌∙◌, ap, false, length, replicate}
use Rattle.layout_check.specs.Shapes.{touches}
use Rattle.layout_check.proofs.TouchLaws.{marks_none}
use Rattle.layout_check.proofs.touch.touched.Goals as goal

pub touch_all-requires-clause-marks : goal.touch_all-requires-clause-marks
touch_all-requires-clause-marks c =
    let d = c.args.doc.now in
    let fresh : c.as_mut_slice.result.now ≡ replicate (length d.ports) false = c.as_mut_slice.ensures.value ∙ c.in_ok-marks.ensures.items_if_clones_equal (λ y e. e) ∙ ap (λ (n : ℕ). replicate n false) (ap length c.ports.ensures.value) in
    marks_none (touches d c.args.placed.now c.args.at_head) (length d.ports) c.as_mut_slice.result.now fresh
