use Rattle.elk_doc.specs.Drawing.{no_rect}
use Rattle.level_io.specs.Written.{box_change}
use Rattle.level_io.proofs.ChangedLemmas.{none_changed, one_more}
use Rattle.level_io.proofs.writing.write_boxes.Goals as goal

pub loop-i-init : goal.loop-i-init
loop-i-init c = none_changed c.args.children.now (box_change c.args.way c.args.by c.args.places.now) no_rect c.args.boxes.now

pub loop-i-preserved : goal.loop-i-preserved
loop-i-preserved c =
    one_more c.args.children.now (box_change c.args.way c.args.by c.args.places.now) no_rect c.args.boxes.now c.loop-i.boxes c.loop-i.i c.box_back.result c.requires.children
    c.loop-i.invariant c.loop-i-test.true c.box_back.ensures
