use Rattle.std.proofs.Common.{map, drop}
use Rattle.std.specs.Prelude.{pos}
use Rattle.serde_json.specs.View.{items_of}
use Rattle.elk_write.specs.Tokens.{tokens_of_items, Leaves}
use Rattle.elk_write.specs.Values.{whole}
use Rattle.elk_write.proofs.tokens.put_large.Given as goal

abbrev pub invariant-loop-number : goal.invariant-loop-number
invariant-loop-number l =
    Leaves l.initial.out (tokens_of_items (items_of (map (λ n. whole (pos n)) l.numbers))) l.out
    (tokens_of_items (items_of (map (λ n. whole (pos n)) (drop l.number-index l.numbers))))
