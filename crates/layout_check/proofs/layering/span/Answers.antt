use Rattle.std.proofs.Common.{sym, ◌∙◌, arith}
use Rattle.elk_doc.specs.Level.{is_edge_of}
use Rattle.drawing_laws.proofs.Sums.{sum_below-zero}
use Rattle.layout_check.specs.FirstLevels.{length_of}
use Rattle.layout_check.proofs.SumLaws.{sum_more, sum_same}
use Rattle.layout_check.proofs.layering.span.Goals as goal
use Rattle.layout_check.proofs.layering.span.Goals.{then-is_edge_of, else-is_edge_of}

pub loop-edge-init : goal.loop-edge-init
loop-edge-init c = record { summed = sym (sum_below-zero _ _); few = omega arith }

pub loop-edge-preserved : goal.loop-edge-preserved
loop-edge-preserved c =
    let f = length_of c.args.doc.now c.args.heads.now c.args.tails.now c.args.layers.now in
    elim c.if-is_edge_of.branch [
      | then-is_edge_of w ↦
          let more = sum_more (is_edge_of c.args.doc.now c.args.node) f c.loop-edge.edge (sym c.is_edge_of.ensures ∙ w.if-is_edge_of.true) in
          let value = w.length_of-span.ensures.value in
          let fits = w.length_of-span.ensures.small in
          record { summed = omega (arith, more, value); few = omega (arith, fits) }
      | else-is_edge_of w ↦
          let same = sum_same (is_edge_of c.args.doc.now c.args.node) f c.loop-edge.edge (sym c.is_edge_of.ensures ∙ w.if-is_edge_of.false) in
          record { summed = omega (arith, same); few = omega arith }
    ]
