use Rattle.std.proofs.Common.{◌≡◌, ℕ, ◌<◌, length, drop, get_or, false, ◌||◌}
use Rattle.elk_json.specs.Marks.{has_level_edge}
use Rattle.elk_json.specs.Seen.{seen_list}
use Rattle.elk_json.proofs.marks.levels_with_edges.Given as goal

abbrev pub invariant-loop-element : goal.invariant-loop-element
invariant-loop-element l =
    (length l.marks.items ≡ length l.list.elements.now)
    × ((place : ℕ) → place < length (seen_list l.list.elements.now)
    → (get_or l.marks.items place false || has_level_edge (seen_list l.list.elements.now) place (seen_list (drop l.element-index l.list.elements.now)))
    ≡ has_level_edge (seen_list l.list.elements.now) place (seen_list l.list.elements.now))
