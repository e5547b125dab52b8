-- The ports of the root of a document, which is a child of no level.
use Rattle.std.specs.Prelude.{◌≡◌, ◌≢◌, ℕ, ◌+◌, ◌^◌, pos, Some}
use Rattle.drawing_types.specs.declared.shape.Rect.{Rect}
use Rattle.elk_doc.specs.declared.document.LevelOptions.{LevelOptions}
use Rattle.elk_doc.specs.declared.drawing.Placed.{Placed}
use Rattle.elk_doc.specs.Document.{Document, node_at, node_of_port}
use Rattle.elk_doc.specs.Drawing.{port_place}
use Rattle.elk_doc.specs.PortsKept.{KeepsPorts}
use Rattle.elk_doc.specs.Sound.{IsSound}
use Rattle.drawing_types.specs.Ranges.{IsWithin}
use Rattle.level_io.specs.Canvas.{IsDrawingOf}
use Rattle.compound.specs.Planned.{RootPortsStand}

-- a box from 0 to 2^45 + 2^37 wide and high
pub record IsRootBox (r : Rect) : Type 0 where
  pub width : IsWithin (pos 0) (pos (2 ^ 45 + 2 ^ 37)) r.width
  pub height : IsWithin (pos 0) (pos (2 ^ 45 + 2 ^ 37)) r.height

-- The ports of the root stand where they should; all else stays.
pub record AreRootPortsPlaced (d : Document) (old now : Placed) : Type 0 where
  pub stand : (o : LevelOptions) → (node_at d 0).level ≡ Some o → RootPortsStand d now o
  pub boxes : now.boxes ≡ old.boxes
  pub sections : now.sections ≡ old.sections
  pub levels : now.levels ≡ old.levels
  pub others : (k : ℕ) → node_of_port d k ≢ 0 → port_place now k ≡ port_place old k
  pub complete : IsDrawingOf d now

-- Ports of the root that stand so are kept.
abbrev pub RootPortsAreKept : Type 0
RootPortsAreKept =
    (d : Document) (p : Placed) (o : LevelOptions) → IsSound d → (node_at d 0).level ≡ Some o → RootPortsStand d p o → KeepsPorts d p 0
