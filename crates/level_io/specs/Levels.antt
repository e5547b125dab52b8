-- When the level of a node of a document is a level that can be drawn.
use Rattle.std.specs.Prelude.{ℕ, ◌^◌, pos, ◌≤ℤ◌, IsNone}
use Rattle.elk_doc.specs.declared.document.LevelOptions.{LevelOptions}
use Rattle.elk_doc.specs.declared.drawing.Placed.{Placed}
use Rattle.elk_doc.specs.Document.{Document, node_at}
use Rattle.elk_doc.specs.Drawing.{box_of}
use Rattle.elk_doc.specs.Fits.{IsSolid, KeepsSize}
use Rattle.elk_doc.specs.Level.{IsChild}
use Rattle.elk_doc.specs.Sound.{IsSound, IsSoundSpacing}
use Rattle.level_model.specs.Conditions.{IsLevel, total_width, total_height}
use Rattle.working_frame.specs.Rotated.{level_of}

-- The leaves among the children of n keep their sizes.
abbrev pub KeepsLeaves : Document → Placed → ℕ → Type 0
KeepsLeaves d p n = (c : ℕ) → IsChild d n c → IsNone (node_at d c).level → KeepsSize d p c

-- The boxes of the children of n have sizes, those of leaves their own, and with their ports they are together at most 2^46
-- wide and 2^46 high in the frame.
pub record HasRoom (d : Document) (p : Placed) (n : ℕ) (o : LevelOptions) : Type 0 where
  pub leaves : KeepsLeaves d p n
  pub solid : (c : ℕ) → IsChild d n c → IsSolid (box_of p c)
  pub widths : total_width (level_of d p n o).children ≤ℤ pos (2 ^ 46)
  pub heights : total_height (level_of d p n o).children ≤ℤ pos (2 ^ 46)

abbrev pub LevelsAreLevels : Type 0
LevelsAreLevels =
    (d : Document) (p : Placed) (n : ℕ) (o : LevelOptions)
    → IsSound d → IsSoundSpacing o.spacing → HasRoom d p n o → IsLevel (level_of d p n o)

-- every child of n is a leaf
abbrev pub HasLeavesAlone : Document → ℕ → Type 0
HasLeavesAlone d n = (c : ℕ) → IsChild d n c → IsNone (node_at d c).level

abbrev pub LevelsOfLeavesAreLevels : Type 0
LevelsOfLeavesAreLevels =
    (d : Document) (p : Placed) (n : ℕ) (o : LevelOptions)
    → IsSound d → IsSoundSpacing o.spacing → HasLeavesAlone d n → KeepsLeaves d p n → IsLevel (level_of d p n o)
