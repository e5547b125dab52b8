-- Where the ids of elements stand first.
use Rattle.std.specs.Prelude.{◌≡◌, ℕ, List, Bool, not, ◌&&◌, if◌then◌else◌, Some}
use Rattle.indexmap.specs.IndexMap.{IndexMap, get}
use Rattle.elk_doc.specs.declared.document.Id.{Id}
use Rattle.elk_json.specs.declared.key.Key.{Key}
use Rattle.elk_json.specs.Elements.{Element}
use Rattle.elk_json.specs.Members.{is_edge, id_of}
use Rattle.elk_json.specs.Ends.{is_some_same_id, first_place}
use Rattle.elk_json.specs.Keys.{key_id, is_same_key}

-- an edge of this id, or a node or port of it
abbrev pub has_id : Bool → Id → Element → Bool
has_id edges id e = (if edges then is_edge e else not (is_edge e)) && is_some_same_id (Some id) (id_of e.value)

-- the table has the place of the first element of each id, among edges or among nodes and ports
abbrev pub IsTable : {S : Type 0} → Bool → IndexMap Key ℕ S → List Element → Type 0
IsTable edges table es = (k : Key) → get is_same_key table k ≡ first_place (has_id edges (key_id k)) 0 es
