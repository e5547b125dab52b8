use Rattle.std.proofs.Common.{drop}
use Rattle.serde_json.specs.View.{items_view}
use Rattle.elk_write.specs.Answered.{port_answers}
use Rattle.elk_write.specs.Tokens.{tokens_of_items, Leaves}
use Rattle.elk_write.proofs.writing.put_ports.Given as goal

abbrev pub invariant-loop-port : goal.invariant-loop-port
invariant-loop-port l =
    Leaves l.initial.out (tokens_of_items (port_answers l.placed l.first (items_view l.port-items))) l.out
    (tokens_of_items (port_answers l.placed l.number (items_view (drop l.port-index l.port-items))))
