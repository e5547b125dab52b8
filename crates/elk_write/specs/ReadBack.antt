-- What is read of a value that was placed.
use Rattle.std.specs.Prelude.{◌≡◌, ℕ, ◌<◌, ◌^◌, map, Option, Some, None, All}
use Rattle.serde_json.specs.Data.{Data}
use Rattle.elk_doc.specs.declared.document.Port.{Port}
use Rattle.elk_doc.specs.declared.drawing.Certificate.{Certificate}
use Rattle.elk_doc.specs.declared.drawing.Placed.{Placed}
use Rattle.elk_doc.specs.Document.{Document}
use Rattle.drawing_types.specs.Shapes.{origin}
use Rattle.elk_doc.specs.Layering.{Least}
use Rattle.elk_doc.specs.Drawn.{Drawn}
use Rattle.elk_doc.specs.Fitted.{Fitted}
use Rattle.elk_json.specs.Document.{IsDocument}
use Rattle.elk_write.specs.Placing.{not_placed, refused_placed, IsDrawing}

abbrev pub without_place : Port → Port
without_place q = record { id = q.id; node = q.node; size = q.size; place = origin; side = q.side; index = q.index }

-- the same document but for the places of ports
pub record SameButPlaces (doc other : Document) : Type 0 where
  pub nodes : other.nodes ≡ doc.nodes
  pub ports : map without_place other.ports ≡ map without_place doc.ports
  pub edges : other.edges ≡ doc.edges

-- No element of the value lacks a written member. Its document is doc but for the places of ports, and its drawing is p.
pub record SaysBack (doc : Document) (p : Placed) (w : Data) : Type 0 where
  pub whole : not_placed w ≡ None
  pub document : (other : Document) → IsDocument other w → SameButPlaces doc other
  pub drawing : (other : Document) (q : Placed) → IsDocument other w → IsDrawing other q w → q ≡ p

-- The value that is written for a drawing p which obeys its document doc is read back: no rule refuses it, and p obeys the
-- document that is read of it, and has no more room and no greater spans than it needs there where it has not in doc.
pub record IsReadBack (doc : Document) (p : Placed) (w : Data) : Type 0 where
  pub says : SaysBack doc p w
  pub accepted : refused_placed w ≡ None
  pub drawn : (other : Document) → IsDocument other w → Drawn other p
  pub fitted : (other : Document) → IsDocument other w → Fitted doc p → Fitted other p
  pub least : (other : Document) → IsDocument other w → (n : ℕ) (c : Certificate) → Least doc p n c → Least other p n c

-- the numbers of a certificate as they are held: layers and parts of 32 bits, flow and span of 64
pub record IsHeld (c : Certificate) : Type 0 where
  pub layers : All (λ n. n < 2 ^ 32) c.layers
  pub parts : All (λ n. n < 2 ^ 32) c.parts
  pub flow : All (λ n. n < 2 ^ 64) c.flow
  pub span : c.span < 2 ^ 64

abbrev pub IsHeldLevel : Option Certificate → Type 0
IsHeldLevel None = Unit {0}
IsHeldLevel (Some c) = IsHeld c

abbrev pub AreHeld : Placed → Type 0
AreHeld p = All IsHeldLevel p.levels
