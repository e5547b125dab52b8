use Rattle.std.proofs.Common.{arith, sym, ◌∙◌}
use Rattle.elk_doc.proofs.NumberLaws.{count_below-zero, count_below-more, count_below-same}
use Rattle.elk_doc.specs.PortsKept.{is_spread_port}
use Rattle.layout_check.proofs.spots.port_count.Goals as goal
use Rattle.layout_check.proofs.spots.port_count.Goals.{then-is_spread_port, else-is_spread_port}

pub loop-port-init : goal.loop-port-init
loop-port-init c = record { counted = sym (count_below-zero _); few = omega arith }

pub loop-port-preserved : goal.loop-port-preserved
loop-port-preserved c =
    let passes = is_spread_port c.args.scene.now.doc.now c.args.scene.now.placed.now c.args.node c.args.side in
    elim c.if-is_spread_port.branch [
      | then-is_spread_port w ↦
          let more = count_below-more passes c.loop-port.port (sym c.is_spread_port.ensures ∙ w.if-is_spread_port.true) in
          record { counted = omega arith; few = omega arith }
      | else-is_spread_port w ↦
          let same = count_below-same passes c.loop-port.port (sym c.is_spread_port.ensures ∙ w.if-is_spread_port.false) in
          record { counted = omega arith; few = omega arith }
    ]
