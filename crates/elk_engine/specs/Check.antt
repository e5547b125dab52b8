-- What `check` refuses, and what it answers.
use Rattle.std.specs.Prelude.{◌≡◌, ℕ, List, ◌++◌, codes, Option, Some, None, option_map, option_and_then, slice_get}
use Rattle.std.specs.Fmt.{decimal}
use Rattle.serde_json.specs.Data.{Data}
use Rattle.elk_doc.specs.declared.document.Id.{Id}
use Rattle.elk_doc.specs.declared.drawing.Placed.{Placed}
use Rattle.elk_doc.specs.Document.{Document}
use Rattle.elk_json.specs.declared.fault.Rule.TheVariants.{NotJson}
use Rattle.elk_json.specs.declared.fault.Refusal.{Refusal}
use Rattle.elk_json.specs.Bytes.{reading}
use Rattle.elk_json.specs.Document.{IsDocument}
use Rattle.elk_write.specs.Placing.{IsDrawing, refused_placed}
use Rattle.layout_check.specs.declared.fault.Place.{Place}
use Rattle.layout_check.specs.declared.fault.Place.TheVariants.{Absent, Node, Port, Edge}
use Rattle.layout_check.specs.declared.verdict.Verdict.{Verdict}
use Rattle.layout_check.specs.declared.verdict.Verdict.TheVariants.{Yes, No}
use Rattle.layout_check.specs.Verdicts.{IsVerdict}
use Rattle.elk_engine.specs.Notes.{place_text}

-- the refusal of what the bytes are read as, as a placed document
abbrev pub RefusesReading : Option Data → Refusal → Type 0
RefusesReading None r = r ≡ record { rule = NotJson; place = None }
RefusesReading (Some v) r = refused_placed v ≡ Some r

abbrev pub Refuses : List ℕ → Refusal → Type 0
Refuses bytes r = RefusesReading (reading bytes) r

-- the id of an element that a verdict names
abbrev pub id_at : Document → Place → Option Id
id_at d Absent = None
id_at d (Node n) = option_and_then (λ v. v.id) (slice_get d.nodes n)
id_at d (Port k) = option_map (λ v. v.id) (slice_get d.ports k)
id_at d (Edge e) = option_map (λ v. v.id) (slice_get d.edges e)

-- the line of a verdict: `yes`, or `no`, the definition's number and the ids of both places
abbrev pub verdict_line : Document → Verdict → List ℕ
verdict_line d Yes = codes "yes\n"
verdict_line d (No number first second) =
    codes "no " ++ decimal number ++ codes " " ++ place_text (id_at d first) ++ codes " " ++ place_text (id_at d second) ++ codes "\n"

abbrev pub verdict_status : Verdict → ℕ
verdict_status Yes = 0
verdict_status (No number first second) = 1

-- The bytes are read as a document and a drawing of it. The status is 0 and the text says yes where the drawing obeys the
-- document; else the status is 1 and the text has the first definition that fails, and its first places.
pub record IsJudged (bytes : List ℕ) (status : ℕ) (text : List ℕ) : Type 0 where
  pub value : Data
  pub doc : Document
  pub placed : Placed
  pub verdict : Verdict
  pub read : reading bytes ≡ Some value
  pub document : IsDocument doc value
  pub drawing : IsDrawing doc placed value
  pub judged : IsVerdict doc placed verdict
  pub status_is : status ≡ verdict_status verdict
  pub text_is : text ≡ verdict_line doc verdict
