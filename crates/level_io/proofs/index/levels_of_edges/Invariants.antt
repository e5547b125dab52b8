use Rattle.std.proofs.Common.{Some}
use Rattle.elk_doc.specs.Level.{level_of_edge}
use Rattle.level_io.specs.Indexed.{AreKeys}
use Rattle.level_io.proofs.index.levels_of_edges.Given as goal

abbrev pub invariant-loop-edge : goal.invariant-loop-edge
invariant-loop-edge l = AreKeys (λ e. Some (level_of_edge l.doc e)) l.edge l.keys.items
