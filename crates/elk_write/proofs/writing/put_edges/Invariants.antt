use Rattle.std.proofs.Common.{drop}
use Rattle.serde_json.specs.View.{items_view}
use Rattle.elk_write.specs.Answered.{edge_answers}
use Rattle.elk_write.specs.Tokens.{tokens_of_items, Leaves}
use Rattle.elk_write.proofs.writing.put_edges.Given as goal

abbrev pub invariant-loop-edge : goal.invariant-loop-edge
invariant-loop-edge l =
    Leaves l.initial.out (tokens_of_items (edge_answers l.doc l.placed l.first (items_view l.edge-items))) l.out
    (tokens_of_items (edge_answers l.doc l.placed l.number (items_view (drop l.edge-index l.edge-items))))
