use Rattle.std.proofs.Common.{arith, sym, ◌∙◌}
use Rattle.elk_doc.proofs.NumberLaws.{count_below-zero, count_below-more, count_below-same}
use Rattle.elk_doc.specs.PortsKept.{is_spread_end}
use Rattle.layout_check.proofs.spots.end_count.Goals as goal
use Rattle.layout_check.proofs.spots.end_count.Goals.{then-is_spread_end, else-is_spread_end}

pub loop-edge-init : goal.loop-edge-init
loop-edge-init c = record { counted = sym (count_below-zero _); few = omega arith }

pub loop-edge-preserved : goal.loop-edge-preserved
loop-edge-preserved c =
    let passes = is_spread_end c.args.scene.now.doc.now c.args.scene.now.placed.now c.args.node c.args.side c.args.at_source in
    elim c.if-is_spread_end.branch [
      | then-is_spread_end w ↦
          let more = count_below-more passes c.loop-edge.edge (sym c.is_spread_end.ensures ∙ w.if-is_spread_end.true) in
          record { counted = omega arith; few = omega arith }
      | else-is_spread_end w ↦
          let same = count_below-same passes c.loop-edge.edge (sym c.is_spread_end.ensures ∙ w.if-is_spread_end.false) in
          record { counted = omega arith; few = omega arith }
    ]
