use Rattle.std.proofs.Common.{◌≡◌, ◌≤◌, ◌*◌, ◌^◌, slice_index}
use Rattle.elk_doc.specs.Numbers.{sum_below}
use Rattle.elk_doc.specs.Level.{is_edge_of}
use Rattle.layout_check.proofs.flow.sum_of.Given as goal

abbrev pub invariant-loop-edge : goal.invariant-loop-edge
invariant-loop-edge l = record { summed : l.sum ≡ sum_below (is_edge_of l.doc l.node) (slice_index l.values) l.edge; few : l.sum ≤ l.edge * 2 ^ 64 }
