use Rattle.std.proofs.Common.{rules}
use Rattle.elk_write.specs.Reading.{edge_named}
use Rattle.elk_write.proofs.levels.edges_named.Goals as goal

pub returns : goal.returns
returns c = c.read_each.ensures (edge_named c.args.doc.now) (λ v r h. search rules)
