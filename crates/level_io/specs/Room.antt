-- Which drawings of levels can be written.
use Rattle.std.specs.Prelude.{◌≡◌, ℕ, ◌<◌, List, [], length, ℤ, slice_index_or}
use Rattle.std.specs.List.{All}
use Rattle.elk_doc.specs.declared.document.LevelOptions.{LevelOptions}
use Rattle.elk_doc.specs.declared.drawing.Placed.{Placed}
use Rattle.elk_doc.specs.Document.{Document}
use Rattle.elk_doc.specs.Level.{edges_of, IsChild}
use Rattle.elk_doc.specs.Drawing.{box_of}
use Rattle.elk_doc.specs.Sound.{IsSound}
use Rattle.route_lines.specs.Points.{PlainGap}
use Rattle.level_model.specs.Level.{PlainLevel, child_at}
use Rattle.level_model.specs.FromPlan.{LevelDrawing, PlainTrace}
use Rattle.level_draw.specs.Drawing.{IsTight}
use Rattle.working_frame.specs.Rotated.{level_of}
use Rattle.level_io.specs.declared.figure.LevelFigure.{LevelFigure}
use Rattle.level_io.specs.Figure.{figure_in}
use Rattle.level_io.specs.Ranges.{IsLongBox, IsLongSize}
use Rattle.level_io.specs.Written.{IsWritable}

-- a drawing has a place for each child and each port of the level, and a section for each edge
pub record HasPlaces (l : PlainLevel) (v : LevelDrawing) : Type 0 where
  pub box_count : length v.boxes ≡ length l.children
  pub port_lists : length v.ports ≡ length l.children
  pub port_counts : (c : ℕ) → c < length l.children → length (slice_index_or v.ports c []) ≡ length (child_at l c).ports
  pub section_count : length v.sections ≡ length l.edges

-- A drawing of a level that has all places, begins at 0 and has a tight extent can be written where that extent and the boxes
-- of the children are at most 2^59 long, and where its certificate turns edges of the level round.
abbrev pub TightDrawingsAreWritable : Type 0
TightDrawingsAreWritable =
    (d : Document) (p : Placed) (n : ℕ) (o : LevelOptions) (v : LevelFigure) (gaps : List PlainGap) (traces : List PlainTrace)
    (left top : ℤ)
    → IsSound d → HasPlaces (level_of d p n o) (figure_in v gaps traces left top)
    → IsTight (level_of d p n o) (figure_in v gaps traces left top)
    → IsLongSize v.extent → ((c : ℕ) → IsChild d n c → IsLongBox (box_of p c)) → All (λ e. e < length (edges_of d n)) v.certificate.reversed
    → IsWritable d p n v
