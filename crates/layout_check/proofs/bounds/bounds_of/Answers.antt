use Rattle.std.proofs.Common.{ℕ, ◌<◌, below_more, subst}
use Rattle.drawing_types.specs.declared.shape.Point.{Point}
use Rattle.layout_check.specs.Bounds.{HoldsPoint}
use Rattle.layout_check.specs.Stretches.{point_of}
use Rattle.layout_check.proofs.bounds.bounds_of.Goals as goal

pub loop-i-preserved : goal.loop-i-preserved
loop-i-preserved c =
    let P : Point → Type 0 = λ p. HoldsPoint c.with_point-bounds.result p in
    let Q : ℕ → Type 0 = λ k. HoldsPoint c.with_point-bounds.result (point_of c.args.section.now k) in
    let before : (k : ℕ) → k < c.loop-i.i → Q k = λ k l. c.with_point-bounds.ensures.kept _ (c.loop-i.invariant k l) in
    below_more Q _ before (subst P c.point_at.ensures c.with_point-bounds.ensures.held)
