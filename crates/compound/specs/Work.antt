-- A drawing of a document in work.
use Rattle.std.specs.Prelude.{◌≡◌, ℕ, ◌<◌, List, length, None, IsNone}
use Rattle.drawing_types.specs.declared.shape.Size.{Size}
use Rattle.elk_doc.specs.declared.document.LevelOptions.{LevelOptions}
use Rattle.elk_doc.specs.declared.document.Node.{Node}
use Rattle.elk_doc.specs.declared.drawing.Placed.{Placed}
use Rattle.elk_doc.specs.Document.{Document, node_at}
use Rattle.elk_doc.specs.Drawing.{certificate_of}
use Rattle.elk_doc.specs.Fits.{IsRooted}
use Rattle.level_model.specs.declared.level.LevelIn.{LevelIn}
use Rattle.level_model.specs.Conditions.{plain_level}
use Rattle.level_io.specs.declared.figure.LevelFigure.{LevelFigure}
use Rattle.working_frame.specs.Rotated.{box_size, level_of}
use Rattle.level_io.specs.Read.{size_at}
use Rattle.level_io.specs.Canvas.{IsDrawingOf}
use Rattle.level_io.specs.Sizes.{IsNodeFramed}
use Rattle.level_io.specs.Written.{IsWritten}
use Rattle.compound.specs.Planned.{ArePlannedFrom}
use Rattle.compound.specs.Figures.{IsFigureIn}

-- the size that a document gives a node
abbrev pub given_size : Node → Size
given_size n = n.size

-- The sizes of all boxes are known by node. The nodes from m on are laid out; those before are as in the document. Only levels
-- that are laid out have certificates, and the root stands at the origin.
pub record IsWork (d : Document) (p : Placed) (sizes : List Size) (m : ℕ) : Type 0 where
  pub complete : IsDrawingOf d p
  pub as_many : length sizes ≡ length d.nodes
  pub known : (n : ℕ) → n < length d.nodes → box_size p n ≡ size_at sizes n
  pub planned : ArePlannedFrom d p m
  pub given : (n : ℕ) → n < m → n < length d.nodes → box_size p n ≡ (node_at d n).size
  pub bare : (n : ℕ) → n < m → certificate_of p n ≡ None
  pub bare_leaves : (n : ℕ) → n < length d.nodes → IsNone (node_at d n).level → certificate_of p n ≡ None
  pub rooted : IsRooted p

-- The level of n, which has these options, is laid out with the sizes that its children have in a drawing.
pub record IsFigureOf (d : Document) (p : Placed) (n : ℕ) (o : LevelOptions) (v : LevelFigure) : Type 0 where
  pub level : LevelIn
  pub is : plain_level level ≡ level_of d p n o
  pub fixed : level.fixed ≡ o.fixed
  pub placing : level.placing ≡ o.placing
  pub figure : IsFigureIn level o v

-- the drawing of the level of n is written, and the node is then framed round it
pub record IsFramedRound (d : Document) (n : ℕ) (o : LevelOptions) (v : LevelFigure) (old now : Placed) : Type 0 where
  pub between : Placed
  pub written : IsWritten d n o v old between
  pub framed : IsNodeFramed d n o v.extent between now
