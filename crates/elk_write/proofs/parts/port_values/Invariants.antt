use Rattle.std.proofs.Common.{◌≡◌, drop}
use Rattle.serde_json.specs.View.{items_view}
use Rattle.elk_write.specs.Answered.{port_answers}
use Rattle.elk_write.proofs.Lists.{before}
use Rattle.elk_write.proofs.parts.port_values.Given as goal

abbrev pub invariant-loop-port : goal.invariant-loop-port
invariant-loop-port l =
    before (items_view l.copies.items) (port_answers l.placed l.number (items_view (drop l.port-index l.port-items)))
    ≡ port_answers l.placed l.first (items_view l.port-items)
