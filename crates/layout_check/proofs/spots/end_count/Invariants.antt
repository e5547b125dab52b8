use Rattle.std.proofs.Common.{◌≡◌, ◌≤◌}
use Rattle.elk_doc.specs.Numbers.{count_below}
use Rattle.elk_doc.specs.PortsKept.{is_spread_end}
use Rattle.layout_check.proofs.spots.end_count.Given as goal

abbrev pub invariant-loop-edge : goal.invariant-loop-edge
invariant-loop-edge l = record { counted : l.count ≡ count_below (is_spread_end l.scene.doc.now l.scene.placed.now l.node l.side l.at_source) l.edge; few : l.count ≤ l.edge }
