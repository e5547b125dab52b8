use Rattle.std.proofs.Common.{subst, sym, ap, ◌∙◌, w64}
use Rattle.std.proofs.lemmas.Int.{to_z-of_z}
use Rattle.drawing_types.specs.declared.shape.Point.{Point}
use Rattle.drawing_types.specs.Shapes.{rect_at}
use Rattle.port_order.specs.Places.{place_of_port}
use Rattle.dock_table.specs.Narrow.{IsNearRect}
use Rattle.dock_table.proofs.NarrowLemmas.{port_near}
use Rattle.dock_table.proofs.outlines.port_rect.Goals as goal

pub returns-clause-value : goal.returns-clause-value
returns-clause-value c =
    c.rect_at.ensures
    ∙ ap (λ (p : Point). rect_at p c.size_of.result) (rw (to_z-of_z w64 c.args.offset c.ranges.offset) at c.place_of_port-place.ensures)
    ∙ ap (rect_at (place_of_port c.args.child.now c.args.side c.args.port c.args.offset)) c.size_of.ensures.value

pub returns-clause-near : goal.returns-clause-near
returns-clause-near c =
    subst IsNearRect (sym (returns-clause-value c)) (port_near c.args.child.now c.args.side c.args.port c.args.offset c.requires.child c.requires.port c.requires.offset)
