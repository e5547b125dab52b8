use Rattle.std.proofs.Common.{◌≡◌, ◌∙◌, ap, get_or, below_more, subst, ℕ, ◌<◌}
use Rattle.drawing_types.specs.declared.shape.Rect.{Rect}
use Rattle.drawing_types.specs.Shapes.{origin}
use Rattle.elk_doc.specs.Drawing.{points_of}
use Rattle.drawing_types.specs.Shapes.{point_rect}
use Rattle.layout_check.specs.BoxBounds.{Held}
use Rattle.layout_check.proofs.box_bounds.add_section.Goals as goal

pub loop-i-preserved : goal.loop-i-preserved
loop-i-preserved c =
    let o = c.args.options.now in
    let new = c.add.new.bounds in
    let e : c.point_rect.result ≡ point_rect (get_or (points_of c.args.section.now) c.loop-i.i origin) = c.point_rect.ensures ∙ ap point_rect c.point_at.ensures in
    let P : Rect → Type 0 = λ r. Held o new c.args.part r in
    let Q : ℕ → Type 0 = λ i. Held o new c.args.part (point_rect (get_or (points_of c.args.section.now) i origin)) in
    let before : (k : ℕ) → k < c.loop-i.i → Q k = λ k l. c.add.ensures.kept _ _ (c.loop-i.invariant.held k l) in
    record {
      kept = λ i r h. c.add.ensures.kept i r (c.loop-i.invariant.kept i r h);
      held = below_more Q _ before (subst P e (c.add.ensures.held c.if-not-add.false));
    }
