-- However deep levels are nested, each has room once all levels inside its children are laid out.
use Rattle.std.specs.Prelude.{◌≡◌, ℕ, suc, ◌+◌, ◌<◌, ◌^◌, pos, length, Some}
use Rattle.drawing_types.specs.declared.shape.Rect.{Rect}
use Rattle.elk_doc.specs.declared.document.LevelOptions.{LevelOptions}
use Rattle.elk_doc.specs.declared.drawing.Placed.{Placed}
use Rattle.elk_doc.specs.Document.{Document, node_at}
use Rattle.elk_doc.specs.Drawing.{box_of}
use Rattle.elk_doc.specs.Sound.{IsSound}
use Rattle.drawing_types.specs.Ranges.{IsWithin}
use Rattle.level_io.specs.Levels.{HasRoom}
use Rattle.compound.specs.Planned.{ArePlannedFrom}

-- a box of at most 2^45 + 2^37 on each side
pub record IsSmallBox (r : Rect) : Type 0 where
  pub width : IsWithin (pos 0) (pos (2 ^ 45 + 2 ^ 37)) r.width
  pub height : IsWithin (pos 0) (pos (2 ^ 45 + 2 ^ 37)) r.height

-- Where all nodes after n are planned, the level of n has room.
abbrev pub PlannedLevelsHaveRoom : Type 0
PlannedLevelsHaveRoom =
    (d : Document) (p : Placed) (n : ℕ) (o : LevelOptions) → IsSound d → n < length d.nodes → (node_at d n).level ≡ Some o
    → ArePlannedFrom d p (suc n) → HasRoom d p n o

-- Planned nodes have small boxes.
abbrev pub PlannedBoxesAreSmall : Type 0
PlannedBoxesAreSmall = (d : Document) (p : Placed) (n : ℕ) → IsSound d → n < length d.nodes → ArePlannedFrom d p n → IsSmallBox (box_of p n)
