use Rattle.std.proofs.Common.{List, refl, sym, ap, subst}
use Rattle.drawing_types.specs.declared.shape.Point.{Point}
use Rattle.box_pack.specs.Boxes.{point_at}
use Rattle.level_split.specs.Outlines.{rect_in}
use Rattle.level_split.specs.Placing.{IsRoomyPlace}
use Rattle.level_split.proofs.PushLemmas.{boxes_more}
use Rattle.level_split.proofs.placing.boxes_of.Goals as goal

pub box_at-requires-clause-place : goal.box_at-requires-clause-place
box_at-requires-clause-place c =
    subst (λ (ps : List Point). IsRoomyPlace (point_at ps c.loop-i.i)) (sym c.as_slice-places.ensures.value) (c.requires.places c.loop-i.i c.loop-i-test.true)

pub loop-i-preserved : goal.loop-i-preserved
loop-i-preserved c =
    boxes_more c.args.way c.args.rows.now c.args.outlines.now c.loop-i.i c.loop-i.boxes.items c.push.new.self.items c.box_at.result (point_at c.as_slice-places.result.now c.loop-i.i) (rect_in c.args.outlines.now c.loop-i.i)
    c.loop-i.invariant c.in_ok-push.ensures.items c.box_at.ensures (ap (λ (ps : List Point). point_at ps c.loop-i.i) c.as_slice-places.ensures.value) refl
