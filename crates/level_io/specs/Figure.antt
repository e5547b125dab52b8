-- The drawing of a level, without what it was made from.
use Rattle.std.specs.Prelude.{List, ℤ}
use Rattle.route_lines.specs.Points.{PlainGap}
use Rattle.level_model.specs.FromPlan.{LevelDrawing, PlainTrace}
use Rattle.level_draw.specs.declared.drawing.LevelOut.{LevelOut}
use Rattle.level_io.specs.declared.figure.LevelFigure.{LevelFigure}

-- what is left of a level's drawing without its plan
abbrev pub figure_of : LevelOut → LevelFigure
figure_of v = record { boxes = v.boxes; ports = v.ports; sections = v.sections; certificate = v.certificate; extent = v.extent }

-- the same with gaps, traces and how far it was moved, whatever they are
abbrev pub figure_in : LevelFigure → List PlainGap → List PlainTrace → ℤ → ℤ → LevelDrawing
figure_in v gaps traces left top =
    record {
      gaps = gaps;
      traces = traces;
      boxes = v.boxes;
      ports = v.ports;
      sections = v.sections;
      extent = v.extent;
      left = left;
      top = top;
    }
