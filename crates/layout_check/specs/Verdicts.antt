-- The verdict on a drawing.
use Rattle.std.specs.Prelude.{◌≡◌, ℕ, ◌+◌, ◌<◌, length}
use Rattle.elk_doc.specs.declared.document.LevelOptions.{LevelOptions}
use Rattle.elk_doc.specs.declared.drawing.Certificate.{Certificate}
use Rattle.elk_doc.specs.declared.drawing.Placed.{Placed}
use Rattle.elk_doc.specs.Document.{Document}
use Rattle.elk_doc.specs.Drawn.{Drawn}
use Rattle.elk_doc.specs.Layering.{Least}
use Rattle.layout_check.specs.declared.fault.Place.{Place}
use Rattle.layout_check.specs.Faults.{fault_at}
use Rattle.layout_check.specs.ListedLevels.{IsLevel}
use Rattle.layout_check.specs.declared.verdict.Verdict.{Verdict}
use Rattle.layout_check.specs.declared.verdict.Verdict.TheVariants.{Yes, No}
use Rattle.layout_check.specs.Definitions.{definitions, definition_at, Everywhere, FailsFirst}

-- the drawing obeys its document, and no level has a layering of the same orientation with a smaller span
pub record IsYes (d : Document) (p : Placed) : Type 0 where
  pub drawn : Drawn d p
  pub least : (n : ℕ) (o : LevelOptions) (c : Certificate) → IsLevel d p n o c → Least d p n c

-- The definition of this number fails, first at these places of the first level at which it does, and all definitions of
-- lower numbers hold at every level.
pub record IsNo (d : Document) (p : Placed) (number : ℕ) (first second : Place) : Type 0 where
  pub place : ℕ
  pub place_in : place < length definitions
  pub number_is : number ≡ place + 6
  pub fails : FailsFirst (definition_at place) d p (fault_at first second)
  pub lower : (i : ℕ) → i < place → Everywhere (definition_at i) d p

abbrev pub IsVerdict : Document → Placed → Verdict → Type 0
IsVerdict d p Yes = IsYes d p
IsVerdict d p (No number first second) = IsNo d p number first second
