use Rattle.std.proofs.Common.{◌≡◌, drop}
use Rattle.elk_json.specs.Rules.{first_at, is_badly_optioned}
use Rattle.elk_json.specs.Seen.{seen_list}
use Rattle.elk_json.proofs.rules.first_badly_marked.Given as goal

abbrev pub invariant-loop-i : goal.invariant-loop-i
invariant-loop-i l =
    first_at (is_badly_optioned (seen_list l.elements)) 0 (seen_list l.elements)
    ≡ first_at (is_badly_optioned (seen_list l.elements)) l.i (seen_list (drop l.i l.elements))
