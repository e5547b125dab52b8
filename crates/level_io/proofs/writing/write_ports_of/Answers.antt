use Rattle.std.proofs.Common.{◌∙◌, ap}
use Rattle.elk_doc.specs.declared.document.Port.{Port}
use Rattle.drawing_types.specs.Shapes.{origin}
use Rattle.level_model.specs.FromPlan.{point_or}
use Rattle.level_io.specs.Back.{place_back}
use Rattle.level_io.specs.Written.{port_change}
use Rattle.level_io.proofs.ChangedLemmas.{none_changed, one_more}
use Rattle.level_io.proofs.writing.write_ports_of.Goals as goal

pub loop-j-init : goal.loop-j-init
loop-j-init c = none_changed c.args.numbers.now (port_change c.args.doc.now c.args.way c.args.outer c.args.numbers.now c.args.places.now) origin c.args.ports.now

pub loop-j-preserved : goal.loop-j-preserved
loop-j-preserved c =
    one_more c.args.numbers.now (port_change c.args.doc.now c.args.way c.args.outer c.args.numbers.now c.args.places.now) origin c.args.ports.now c.loop-j.ports c.loop-j.j c.place_back.result c.requires.numbers
    c.loop-j.invariant c.loop-j-test.true
    (c.place_back.ensures ∙ ap (λ (q : Port). place_back c.args.way c.args.outer q.size (point_or c.args.places.now c.loop-j.j)) c.port-port.ensures.value)
