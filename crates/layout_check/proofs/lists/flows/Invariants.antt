use Rattle.std.proofs.Common.{◌≡◌, ◌≤◌}
use Rattle.elk_doc.specs.Level.{is_edge_of}
use Rattle.elk_doc.specs.Numbers.{count_below}
use Rattle.elk_doc.specs.Drawing.{flow_in}
use Rattle.layout_check.specs.Shapes.{Lists}
use Rattle.layout_check.proofs.lists.flows.Given as goal

abbrev pub invariant-loop-edge : goal.invariant-loop-edge
invariant-loop-edge l = record { listed : Lists (flow_in l.doc l.node l.certificate) l.edge l.flows.items; counted : l.place ≡ count_below (is_edge_of l.doc l.node) l.edge; few : l.place ≤ l.edge }
