use Rattle.std.proofs.Common.{drop}
use Rattle.serde_json.specs.View.{items_of}
use Rattle.elk_write.specs.Tokens.{tokens_of_items, Leaves}
use Rattle.elk_write.specs.Values.{edge_ids}
use Rattle.elk_write.proofs.tokens.put_ids.Given as goal

abbrev pub invariant-loop-edge : goal.invariant-loop-edge
invariant-loop-edge l =
    Leaves l.initial.out (tokens_of_items (items_of (edge_ids l.doc l.edges))) l.out
    (tokens_of_items (items_of (edge_ids l.doc (drop l.edge-index l.edges))))
