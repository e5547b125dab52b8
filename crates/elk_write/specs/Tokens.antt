-- The tokens of a value without floats, and how far they are written.
use Rattle.std.specs.Prelude.{◌≡◌, ◌==◌, List, [], ◌∷◌, ◌++◌, length, map, codes, Bool, if◌then◌else◌, Option, Some, None, pos}
use Rattle.json.specs.Token.{Token, key}
use Rattle.json.specs.Tree.{json_tokens, items_tokens, members_tokens}
use Rattle.json.specs.Written.{Written}
use Rattle.serde_json.specs.Data.{Data, array, Items, Members, no_members, member}
use Rattle.serde_json.specs.View.{items_of}
use Rattle.serde_json.specs.Written.{outline, items_outline, members_outline}
use Rattle.drawing_types.specs.declared.shape.Point.{Point}
use Rattle.elk_doc.specs.declared.document.Edge.{Edge}
use Rattle.elk_doc.specs.declared.drawing.Certificate.{Certificate}
use Rattle.elk_doc.specs.Document.{Document}
use Rattle.elk_write.specs.Values.{whole, wholes, point_data, id_data, edge_ids}

abbrev pub tokens_of : Data → List Token
tokens_of d = json_tokens (outline d)

-- with the closing bracket
abbrev pub tokens_of_items : Items → List Token
tokens_of_items ds = items_tokens (items_outline ds)

abbrev pub tokens_of_members : Members → List Token
tokens_of_members ms = members_tokens (members_outline ms)

-- ---- what stands only where there is something

-- the bends of a section
abbrev pub bend_tokens : List Point → List Token
bend_tokens ps = if length ps == 0 then [] else key (codes "bendPoints") ∷ tokens_of (array (items_of (map point_data ps)))

-- the id of an edge that is there
abbrev pub id_tokens : Option Edge → List Token
id_tokens None = []
id_tokens (Some e) = tokens_of (id_data e.id)

-- the parts of a level that is split
abbrev pub part_tokens : Bool → Certificate → List Token
part_tokens split c = if split then key (codes "parts") ∷ tokens_of (wholes c.parts) else []

-- ---- of a certificate

abbrev pub layer_tokens : Bool → Certificate → List Token
layer_tokens split c =
    key (codes "flow") ∷ (tokens_of (wholes c.flow) ++ key (codes "layers") ∷ (tokens_of (wholes c.layers) ++ part_tokens split c))

abbrev pub reversed_members : Document → Certificate → Members
reversed_members doc c =
    member (codes "reversed") (array (items_of (edge_ids doc c.reversed))) (member (codes "span") (whole (pos c.span)) no_members)

-- ---- how far they are written

-- what was written grew by these tokens
abbrev pub Adds : Written → Written → List Token → Type 0
Adds old new ts = (new.before ≡ old.before) × (new.tokens ≡ old.tokens ++ ts)

-- of the tokens that were to come, some are written, and these are still to come
abbrev pub Leaves : Written → List Token → Written → List Token → Type 0
Leaves old all new left = (new.before ≡ old.before) × (new.tokens ++ left ≡ old.tokens ++ all)
