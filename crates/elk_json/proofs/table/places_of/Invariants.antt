use Rattle.std.proofs.Common.{◌≡◌, drop}
use Rattle.std.specs.Option.{option_or}
use Rattle.indexmap.specs.IndexMap.{get}
use Rattle.elk_json.specs.declared.key.Key.{Key}
use Rattle.elk_json.specs.Ends.{first_place}
use Rattle.elk_json.specs.Keys.{key_id, is_same_key}
use Rattle.elk_json.specs.Seen.{seen_list}
use Rattle.elk_json.specs.Tables.{has_id}
use Rattle.elk_json.proofs.table.places_of.Given as goal

abbrev pub invariant-loop-i : goal.invariant-loop-i
invariant-loop-i l =
    (k : Key) → option_or (get is_same_key l.table k) (first_place (has_id l.edges (key_id k)) l.i (seen_list (drop l.i l.elements)))
    ≡ first_place (has_id l.edges (key_id k)) 0 (seen_list l.elements)
