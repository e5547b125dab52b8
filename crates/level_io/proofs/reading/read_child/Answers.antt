use Rattle.std.proofs.Common.{◌∙◌}
use Rattle.level_io.proofs.ReadLemmas.{port_numbers}
use Rattle.level_io.proofs.reading.read_child.Goals as goal

pub read_ports-requires-clause-ports : goal.read_ports-requires-clause-ports
read_ports-requires-clause-ports c =
    port_numbers c.args.doc.now c.args.child c.row-numbers.result.now (c.row-numbers.ensures ∙ c.requires.index.ports.each c.args.child c.requires.child)
