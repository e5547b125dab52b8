use Rattle.elk_doc.specs.Document.{node_at}
use Rattle.level_io.specs.Indexed.{AreKeys}
use Rattle.level_io.proofs.index.parents.Given as goal

abbrev pub invariant-loop-node : goal.invariant-loop-node
invariant-loop-node l = AreKeys (λ c. (node_at l.doc c).parent) l.node l.keys.items
