use Rattle.std.proofs.Common.{◌≡◌, drop}
use Rattle.elk_json.specs.Ends.{is_same_id}
use Rattle.elk_json.specs.Keys.{key_id}
use Rattle.elk_write.specs.Reading.{first_number}
use Rattle.elk_write.proofs.levels.edge_with.Given as goal

abbrev pub invariant-loop-number : goal.invariant-loop-number
invariant-loop-number l =
    first_number (λ e. is_same_id (key_id l.key) e.id) 0 l.doc.edges
    ≡ first_number (λ e. is_same_id (key_id l.key) e.id) l.number (drop l.number l.doc.edges)
