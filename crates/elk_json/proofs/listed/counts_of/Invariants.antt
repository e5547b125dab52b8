use Rattle.std.proofs.Common.{◌≡◌, ◌≤◌, map}
use Rattle.std.specs.List.{range_with_len}
use Rattle.elk_json.specs.Counts.{of_kind}
use Rattle.elk_json.specs.Document.{number_at}
use Rattle.elk_json.specs.Seen.{seen_list}
use Rattle.elk_json.proofs.listed.counts_of.Given as goal

abbrev pub invariant-loop-element : goal.invariant-loop-element
invariant-loop-element l =
    (l.counted.items ≡ map (number_at (of_kind l.kind) (seen_list l.elements)) (range_with_len 0 l.element-index))
    × (l.count ≡ number_at (of_kind l.kind) (seen_list l.elements) l.element-index)
    × (l.count ≤ l.element-index)
