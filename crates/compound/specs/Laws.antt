-- What changes elsewhere in a drawing leaves a level planned.
use Rattle.std.specs.Prelude.{◌≡◌, ℕ}
use Rattle.elk_doc.specs.declared.document.LevelOptions.{LevelOptions}
use Rattle.elk_doc.specs.declared.drawing.Placed.{Placed}
use Rattle.elk_doc.specs.Document.{Document}
use Rattle.elk_doc.specs.Drawing.{certificate_of}
use Rattle.working_frame.specs.Kept.{AgreeAt}
use Rattle.working_frame.specs.Rotated.{box_size}
use Rattle.compound.specs.Planned.{IsPlannedLevel}

-- A level stays planned where its drawing, its certificate and the size of its node stay.
abbrev pub PlansStay : Type 0
PlansStay =
    (d : Document) (p q : Placed) (n : ℕ) (o : LevelOptions)
    → AgreeAt d p q n → certificate_of p n ≡ certificate_of q n → box_size p n ≡ box_size q n → IsPlannedLevel d p n o
    → IsPlannedLevel d q n o
