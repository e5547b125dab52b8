use Rattle.std.proofs.Common.{◌≡◌, ◌≤◌, ◌*◌, ◌^◌}
use Rattle.elk_doc.specs.Numbers.{sum_below}
use Rattle.elk_doc.specs.Level.{is_edge_of}
use Rattle.layout_check.specs.FirstLevels.{length_of}
use Rattle.layout_check.proofs.layering.span.Given as goal

abbrev pub invariant-loop-edge : goal.invariant-loop-edge
invariant-loop-edge l = record { summed : l.span ≡ sum_below (is_edge_of l.doc l.node) (length_of l.doc l.heads l.tails l.layers) l.edge; few : l.span ≤ l.edge * 2 ^ 52 }
