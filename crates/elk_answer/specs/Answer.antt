-- What is refused, and what is answered.
use Rattle.std.specs.Prelude.{◌≡◌, ℕ, ◌<◌, List, length, Option, Some, None}
use Rattle.serde_json.specs.Data.{Data}
use Rattle.elk_doc.specs.Document.{Document, node_at}
use Rattle.elk_doc.specs.declared.drawing.Placed.{Placed}
use Rattle.elk_doc.specs.declared.document.LevelOptions.{LevelOptions}
use Rattle.elk_doc.specs.declared.drawing.Certificate.{Certificate}
use Rattle.elk_doc.specs.Drawing.{certificate_of}
use Rattle.elk_doc.specs.Layering.{Least}
use Rattle.elk_doc.specs.Drawn.{Drawn}
use Rattle.elk_doc.specs.Fitted.{Fitted}
use Rattle.drawing_laws.specs.Held.{HasSmallCoordinates}
use Rattle.elk_json.specs.declared.fault.Rule.TheVariants.{NotJson}
use Rattle.elk_json.specs.declared.fault.Refusal.{Refusal}
use Rattle.elk_json.specs.Bytes.{reading}
use Rattle.elk_json.specs.Document.{IsDocument}
use Rattle.elk_json.specs.Keyed.{IsKeyed}
use Rattle.elk_json.specs.Rules.{refused}
use Rattle.elk_write.specs.Written.{IsPlacedBy}
use Rattle.elk_write.specs.ReadBack.{IsReadBack}
use Rattle.elk_write.specs.Text.{text as spelled}
use Rattle.compound.specs.Planned.{Planned}

-- the refusal of what the bytes are read as
abbrev pub RefusesReading : Option Data → Refusal → Type 0
RefusesReading None r = r ≡ record { rule = NotJson; place = None }
RefusesReading (Some v) r = refused v ≡ Some r

-- the refusal of these bytes: they are no JSON, or a rule refuses their value
abbrev pub Refuses : List ℕ → Refusal → Type 0
Refuses bytes r = RefusesReading (reading bytes) r

-- nothing refuses these bytes
abbrev pub IsAccepted : List ℕ → Type 0
IsAccepted bytes = (r : Refusal) → Refuses bytes r → ⊥

-- no layering of the same orientation has a smaller span, at any level
abbrev pub HasLeastSpans : Document → Placed → Type 0
HasLeastSpans d p =
    (n : ℕ) (o : LevelOptions) (c : Certificate) → n < length d.nodes → (node_at d n).level ≡ Some o
    → certificate_of p n ≡ Some c → Least d p n c

-- What makes the text a good answer, for the document that the bytes are read as and a drawing of it. It is written from the
-- same value with the members of the drawing put in, and its keys ascend; the drawing obeys the document, has no more room
-- than it needs, the least spans, and small coordinates. The text is read as what was written, which no rule refuses; it says
-- the same drawing, and the same document but for the places of ports, which the drawing obeys too.
pub record IsGoodAnswer (bytes text : List ℕ) (doc : Document) (placed : Placed) : Type 0 where
  pub value : Data
  pub answer : Data
  pub read : reading bytes ≡ Some value
  pub document : IsDocument doc value
  pub drawn : Drawn doc placed
  pub fitted : Fitted doc placed
  pub least : HasLeastSpans doc placed
  pub small : HasSmallCoordinates placed
  pub same : IsPlacedBy value doc placed answer
  pub ascending : IsKeyed answer
  pub written : text ≡ spelled answer
  pub read_again : reading text ≡ Some answer
  pub read_back : IsReadBack doc placed answer

-- The text is a good answer, and its drawing comes level by level from layouts. Who only asks whether an answer is good need not
-- read what `Planned` says.
pub record IsAnswer (bytes text : List ℕ) : Type 0 where
  pub doc : Document
  pub placed : Placed
  pub good : IsGoodAnswer bytes text doc placed
  pub planned : Planned doc placed
