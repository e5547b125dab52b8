-- What the level of a node and its drawing read of a document's drawing.
use Rattle.std.specs.Prelude.{◌≡◌, ℕ}
use Rattle.drawing_types.specs.declared.shape.Point.{Point}
use Rattle.elk_doc.specs.declared.document.Direction.{Direction}
use Rattle.elk_doc.specs.declared.document.LevelOptions.{LevelOptions}
use Rattle.elk_doc.specs.declared.drawing.Placed.{Placed}
use Rattle.elk_doc.specs.Document.{Document}
use Rattle.elk_doc.specs.Level.{IsChild, IsEdge}
use Rattle.elk_doc.specs.Drawing.{box_of, port_place, section_of}
use Rattle.level_model.specs.FromPlan.{LevelDrawing}
use Rattle.working_frame.specs.Rotated.{box_size, level_of}
use Rattle.working_frame.specs.Drawing.{IsRotatedDrawing}
use Rattle.working_frame.specs.Numbered.{IsPortOf}

-- A level depends on the sizes of its children's boxes alone, wherever they stand.
abbrev pub LevelsReadSizes : Type 0
LevelsReadSizes =
    (d : Document) (p q : Placed) (n : ℕ) (o : LevelOptions)
    → ((c : ℕ) → IsChild d n c → box_size p c ≡ box_size q c) → level_of d p n o ≡ level_of d q n o

-- two drawings are the same at the level of n: in the boxes of its children, their ports, and the routes of its edges
pub record AgreeAt (d : Document) (p q : Placed) (n : ℕ) : Type 0 where
  pub boxes : (c : ℕ) → IsChild d n c → box_of p c ≡ box_of q c
  pub ports : (c k : ℕ) → IsChild d n c → IsPortOf d c k → port_place p k ≡ port_place q k
  pub sections : (e : ℕ) → IsEdge d n e → section_of p e ≡ section_of q e

-- A drawing that comes from that of a level still does when it changes elsewhere.
abbrev pub DrawingsReadLevels : Type 0
DrawingsReadLevels =
    (d : Document) (p q : Placed) (n : ℕ) (way : Direction) (v : LevelDrawing) (by : Point)
    → AgreeAt d p q n → IsRotatedDrawing d p n way v by → IsRotatedDrawing d q n way v by
