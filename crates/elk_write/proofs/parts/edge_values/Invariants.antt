use Rattle.std.proofs.Common.{◌≡◌, drop}
use Rattle.serde_json.specs.View.{items_view}
use Rattle.elk_write.specs.Answered.{edge_answers}
use Rattle.elk_write.proofs.Lists.{before}
use Rattle.elk_write.proofs.parts.edge_values.Given as goal

abbrev pub invariant-loop-edge : goal.invariant-loop-edge
invariant-loop-edge l =
    before (items_view l.copies.items) (edge_answers l.doc l.placed l.number (items_view (drop l.edge-index l.edge-items)))
    ≡ edge_answers l.doc l.placed l.first (items_view l.edge-items)
