use Rattle.std.proofs.Common.{◌≡◌, ◌∙◌, ap, get_or, below_more, subst, ℕ}
use Rattle.drawing_types.specs.declared.shape.Rect.{Rect}
use Rattle.drawing_types.specs.Shapes.{origin}
use Rattle.elk_doc.specs.Drawing.{points_of}
use Rattle.elk_doc.specs.Inside.{IsWithinPadding}
use Rattle.drawing_types.specs.Shapes.{point_rect}
use Rattle.layout_check.proofs.inside.are_within.Goals as goal

pub loop-i-preserved : goal.loop-i-preserved
loop-i-preserved c =
    let e : c.point_rect.result ≡ point_rect (get_or (points_of c.args.section.now) c.loop-i.i origin) = c.point_rect.ensures ∙ ap point_rect c.point_at.ensures in
    let P : Rect → Type 0 = λ r. IsWithinPadding c.args.outer c.args.room r in
    let Q : ℕ → Type 0 = λ i. IsWithinPadding c.args.outer c.args.room (point_rect (get_or (points_of c.args.section.now) i origin)) in
    below_more Q _ c.loop-i.invariant (subst P e (c.is_within.ensures.0 c.if-not-is_within.false))
