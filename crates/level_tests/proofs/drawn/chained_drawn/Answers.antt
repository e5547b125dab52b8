use Rattle.elk_layers.specs.Layered.{plain, rows_of}
use Rattle.level_model.specs.Conditions.{plain_level}
use Rattle.level_tests.proofs.ChainedDrawn.{drawable_from}
use Rattle.level_tests.proofs.drawn.chained_drawn.Goals as goal

pub draw-requires : goal.draw-requires
draw-requires c =
    drawable_from (plain_level c.in_ok-level.level) (plain c.in_ok-layered.layered) (rows_of c.in_ok-order.order) c.in_ok-lines.lines.top.items c.in_ok-certificate.certificate.reversed c.in_ok-certificate.certificate.layers
    c.in_ok-level.ensures c.in_ok-layered.ensures c.in_ok-order.ensures c.in_ok-lines.ensures c.in_ok-certificate.ensures.reversed c.in_ok-certificate.ensures.layers
