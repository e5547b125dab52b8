-- A level whose connected parts stand apart keeps every rule where it comes from layouts of its parts.
use Rattle.std.specs.Prelude.{◌≡◌, ℕ, ◌<◌, length, IsTrue, Some}
use Rattle.elk_doc.specs.declared.document.LevelOptions.{LevelOptions}
use Rattle.elk_doc.specs.declared.drawing.Certificate.{Certificate}
use Rattle.elk_doc.specs.declared.drawing.Placed.{Placed}
use Rattle.elk_doc.specs.Document.{Document, node_at}
use Rattle.elk_doc.specs.Drawing.{box_of, certificate_of}
use Rattle.elk_doc.specs.Fits.{FitsCertificate, IsSolid, LeavesKept}
use Rattle.elk_doc.specs.Level.{IsChild}
use Rattle.elk_doc.specs.PortsKept.{KeepsPorts}
use Rattle.elk_doc.specs.Sound.{IsSound}
use Rattle.rotated_levels.specs.Levels.{IsWellDrawn}
use Rattle.compound.specs.Parted.{IsPartedPlan}

-- The level of n, which has these options, comes from layouts of its parts, in a drawing whose leaves keep their sizes.
pub record IsDrawnInParts (d : Document) (p : Placed) (n : ℕ) (o : LevelOptions) : Type 0 where
  pub sound : IsSound d
  pub there : n < length d.nodes
  pub options : (node_at d n).level ≡ Some o
  pub split : IsTrue o.split
  pub leaves : LeavesKept d p
  pub planned : IsPartedPlan d p n o

-- It has a certificate of the form that is asked for, and the ports of its children are kept. Where the children have no negative
-- sizes and the ports of its node are kept, the level is drawn, with no more room than it needs.
pub record IsPartsDrawing (d : Document) (p : Placed) (n : ℕ) (o : LevelOptions) : Type 0 where
  pub certificate : Certificate
  pub is_written : certificate_of p n ≡ Some certificate
  pub ports : (m : ℕ) → IsChild d n m → KeepsPorts d p m
  pub fits : FitsCertificate d n o certificate
  pub drawn : ((c : ℕ) → IsChild d n c → IsSolid (box_of p c)) → KeepsPorts d p n → IsWellDrawn d p n o certificate

abbrev pub PartedLevelsAreDrawn : Type 0
PartedLevelsAreDrawn = (d : Document) (p : Placed) (n : ℕ) (o : LevelOptions) → IsDrawnInParts d p n o → IsPartsDrawing d p n o
