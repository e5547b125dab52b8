use Rattle.std.proofs.Common.{map, drop}
use Rattle.serde_json.specs.View.{items_of}
use Rattle.elk_write.specs.Tokens.{tokens_of_items, Leaves}
use Rattle.elk_write.specs.Values.{point_data}
use Rattle.elk_write.proofs.tokens.put_points.Given as goal

abbrev pub invariant-loop-point : goal.invariant-loop-point
invariant-loop-point l =
    Leaves l.initial.out (tokens_of_items (items_of (map point_data l.points))) l.out
    (tokens_of_items (items_of (map point_data (drop l.point-index l.points))))
