-- A level whose connected parts stand apart in the drawing of a document.
use Rattle.std.specs.Prelude.{◌≡◌, ℕ}
use Rattle.elk_doc.specs.declared.document.LevelOptions.{LevelOptions}
use Rattle.elk_doc.specs.declared.drawing.Placed.{Placed}
use Rattle.elk_doc.specs.Document.{Document}
use Rattle.level_model.specs.declared.level.LevelIn.{LevelIn}
use Rattle.level_model.specs.Conditions.{plain_level}
use Rattle.level_split.specs.declared.layout.PartsOut.{PartsOut}
use Rattle.level_split.specs.Parts.{IsPartsLayout, whole_drawing}
use Rattle.working_frame.specs.Rotated.{box_size, level_of}
use Rattle.working_frame.specs.Drawing.{IsRotatedDrawing}
use Rattle.rotated_levels.specs.Framed.{start_of}
use Rattle.level_io.specs.Sizes.{IsSizeRound}
use Rattle.level_io.specs.Written.{HasCertificate}

-- The level of n, which has these options, comes from layouts of its connected parts, with the sizes of its children in the
-- drawing, in the frame of its direction: its boxes, ports and routes are those of the parts in rows, rotated back and moved to
-- begin at the padding; its certificate is put together from those of the parts, with the document's numbers of edges; and the node
-- has the size that this content and its pinned ports need.
pub record IsPartedPlan (d : Document) (p : Placed) (n : ℕ) (o : LevelOptions) : Type 0 where
  pub level : LevelIn
  pub out : PartsOut
  pub is : plain_level level ≡ level_of d p n o
  pub fixed : level.fixed ≡ o.fixed
  pub placing : level.placing ≡ o.placing
  pub laid_out : IsPartsLayout level o.component out
  pub certificate : HasCertificate d n p out.certificate
  pub drawn : IsRotatedDrawing d p n o.direction (whole_drawing out) (start_of o.direction o.padding out.extent)
  pub size : IsSizeRound d n o out.extent (box_size p n)
