use Rattle.std.proofs.Common.{◌≡◌, take, map}
use Rattle.serde_json.specs.View.{view}
use Rattle.elk_write.specs.Values.{point_data}
use Rattle.elk_write.proofs.marks.point_values.Given as goal

abbrev pub invariant-loop-point : goal.invariant-loop-point
invariant-loop-point l = map view l.values.items ≡ map point_data (take l.point-index l.points)
