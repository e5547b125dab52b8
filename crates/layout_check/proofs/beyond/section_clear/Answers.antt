use Rattle.std.proofs.Common.{◌≡◌, ◌∙◌, ap, get_or, below_more, subst, ℕ}
use Rattle.drawing_types.specs.declared.shape.Rect.{Rect}
use Rattle.drawing_types.specs.Shapes.{origin}
use Rattle.elk_doc.specs.Drawing.{points_of}
use Rattle.drawing_types.specs.Shapes.{point_rect}
use Rattle.layout_check.specs.FirstApart.{PartBeyond}
use Rattle.layout_check.specs.Levels.{at_level}
use Rattle.layout_check.proofs.beyond.section_clear.Goals as goal

pub loop-t-preserved : goal.loop-t-preserved
loop-t-preserved c =
    let e : c.point_rect-point.result ≡ point_rect (get_or (points_of c.args.section.now) c.loop-t.t origin) = c.point_rect-point.ensures ∙ ap point_rect c.point_at.ensures in
    let P : Rect → Type 0 = λ s. at_level PartBeyond c.args.level.now c.args.across s c.args.j in
    let Q : ℕ → Type 0 = λ t. at_level PartBeyond c.args.level.now c.args.across (point_rect (get_or (points_of c.args.section.now) t origin)) c.args.j in
    below_more Q _ c.loop-t.invariant (subst P e (c.part_beyond.ensures.0 c.if-not-part_beyond.false))
