use Rattle.std.proofs.Common.{◌≡◌, take, map}
use Rattle.std.specs.Prelude.{pos}
use Rattle.serde_json.specs.View.{view}
use Rattle.elk_write.specs.Values.{whole}
use Rattle.elk_write.proofs.marks.large_values.Given as goal

abbrev pub invariant-loop-number : goal.invariant-loop-number
invariant-loop-number l = map view l.values.items ≡ map (λ n. whole (pos n)) (take l.number-index l.numbers)
