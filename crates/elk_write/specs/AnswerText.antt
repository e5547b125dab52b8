-- What the text of an answer is.
use Rattle.std.specs.Prelude.{◌≡◌, ℕ, List, Some}
use Rattle.serde_json.specs.Data.{Data}
use Rattle.elk_doc.specs.declared.drawing.Placed.{Placed}
use Rattle.elk_doc.specs.Document.{Document}
use Rattle.elk_doc.specs.Drawn.{Drawn}
use Rattle.drawing_laws.specs.Held.{HasSmallCoordinates}
use Rattle.elk_json.specs.Bytes.{reading}
use Rattle.elk_json.specs.Keyed.{IsKeyed}
use Rattle.elk_json.specs.Words.{HasWords}
use Rattle.elk_write.specs.Written.{IsPlacedBy}
use Rattle.elk_write.specs.ReadBack.{IsReadBack}
use Rattle.elk_write.specs.Text.{text}

-- The bytes are the text of a value that is v placed by p, with its keys in ascending order. Where v was read from a text,
-- ids fit 64 bits and coordinates are small, the bytes are read as that value. Where the drawing obeys the document, no rule refuses
-- it, and it says the same drawing.
pub record IsAnswerText (v : Data) (doc : Document) (p : Placed) (bytes : List ℕ) : Type 0 where
  pub answer : Data
  pub placed : IsPlacedBy v doc p answer
  pub keyed : IsKeyed answer
  pub written : bytes ≡ text answer
  pub read : (input : List ℕ) → reading input ≡ Some v → HasWords doc → HasSmallCoordinates p → reading bytes ≡ Some answer
  pub read_back : Drawn doc p → IsReadBack doc p answer
