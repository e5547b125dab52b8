-- The parts of a drawing before it is moved.
use Rattle.std.specs.Prelude.{◌≡◌, ℕ, List, map, ℤ, pos}
use Rattle.std.specs.List.{All}
use Rattle.drawing_types.specs.declared.shape.Point.{Point}
use Rattle.drawing_types.specs.declared.shape.Size.{Size}
use Rattle.level_model.specs.declared.table.ChildAt.{ChildAt}
use Rattle.level_model.specs.Level.{PlainLevel, PlainPlan, Orders}
use Rattle.level_model.specs.FromPlan.{LevelDrawing, IsDrawnFrom}
use Rattle.level_model.specs.Ready.{IsReady}
use Rattle.working_frame.specs.Reach.{IsNear}
use Rattle.working_frame.specs.Ranges.{IsFarGap, IsFarPoint, IsFarSection, IsFarTrace}
use Rattle.level_nets.specs.Held.{plain_gaps}
use Rattle.level_draw.specs.Traced.{plain_traces}
use Rattle.level_draw.specs.declared.parts.Parts.{Parts}
use Rattle.level_draw.specs.Drawing.{outlines_in}

-- the places of the ports of all children
abbrev pub ports_in : List ChildAt → List (List Point)
ports_in children = map (λ v. v.ports) children

-- the drawing of parts that were moved so far to the left and so far up
abbrev pub drawn_of : Parts → Size → ℤ → ℤ → LevelDrawing
drawn_of v extent left top =
    record {
      gaps = plain_gaps v.gaps.items;
      traces = plain_traces v.traces.items;
      boxes = v.boxes.items;
      ports = v.ports.items;
      sections = v.sections.items;
      extent = extent;
      left = left;
      top = top;
    }

-- the parts can be moved without leaving the range of machine numbers
pub record AreFar (v : Parts) : Type 0 where
  pub gaps : All IsFarGap (plain_gaps v.gaps.items)
  pub traces : All IsFarTrace (plain_traces v.traces.items)
  pub boxes : All IsFarPoint v.boxes.items
  pub sections : All IsFarSection v.sections.items
  pub outlines : All IsNear v.outlines.items

-- Parts of a level's drawing that was not moved.
pub record AreLevelParts (l : PlainLevel) (p : PlainPlan) (v : Parts) : Type 0 where
  pub drawn : (o : Orders) (layers : List ℕ) (extent : Size) → IsReady l p o layers → IsDrawnFrom l p o (drawn_of v extent (pos 0) (pos 0))
  pub outlines : (extent : Size) → v.outlines.items ≡ outlines_in l (drawn_of v extent (pos 0) (pos 0))
  pub far : AreFar v
