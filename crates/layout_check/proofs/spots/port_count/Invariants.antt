use Rattle.std.proofs.Common.{◌≡◌, ◌≤◌}
use Rattle.elk_doc.specs.Numbers.{count_below}
use Rattle.elk_doc.specs.PortsKept.{is_spread_port}
use Rattle.layout_check.proofs.spots.port_count.Given as goal

abbrev pub invariant-loop-port : goal.invariant-loop-port
invariant-loop-port l = record { counted : l.count ≡ count_below (is_spread_port l.scene.doc.now l.scene.placed.now l.node l.side) l.port; few : l.count ≤ l.port }
