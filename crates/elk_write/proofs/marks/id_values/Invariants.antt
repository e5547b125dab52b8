use Rattle.std.proofs.Common.{◌≡◌, ◌++◌, drop, map}
use Rattle.serde_json.specs.View.{view}
use Rattle.elk_write.specs.Values.{edge_ids}
use Rattle.elk_write.proofs.marks.id_values.Given as goal

abbrev pub invariant-loop-edge : goal.invariant-loop-edge
invariant-loop-edge l = map view l.values.items ++ edge_ids l.doc (drop l.edge-index l.edges) ≡ edge_ids l.doc l.edges
