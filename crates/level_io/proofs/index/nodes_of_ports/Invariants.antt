use Rattle.std.proofs.Common.{Some}
use Rattle.elk_doc.specs.Document.{node_of_port}
use Rattle.level_io.specs.Indexed.{AreKeys}
use Rattle.level_io.proofs.index.nodes_of_ports.Given as goal

abbrev pub invariant-loop-port : goal.invariant-loop-port
invariant-loop-port l = AreKeys (λ k. Some (node_of_port l.doc k)) l.port l.keys.items
