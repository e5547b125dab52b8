use Rattle.std.proofs.Common.{◌≡◌, ◌+◌, ◌-◌, ◌*◌, ◌≤◌, map}
use Rattle.std.specs.Prelude.{sum}
use Rattle.std.specs.List.{range_with_len}
use Rattle.elk_engine.specs.DemoDocument.{triple_weight}
use Rattle.elk_engine.proofs.counting.counts.Given as goal

abbrev pub invariant-loop-number : goal.invariant-loop-number
invariant-loop-number l =
    record {
      sum : l.weight ≡ l.nodes - 1 + sum (map triple_weight (range_with_len 1 (l.number - 1)));
      small : l.weight ≤ l.nodes - 1 + 4 * (l.number - 1);
    }
