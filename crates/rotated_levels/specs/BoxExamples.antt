-- A document that runs up, its drawing, and the drawing of its level in the frame.
use Rattle.std.specs.Prelude.{[], ◌∷◌, Some, None, pos, negsuc}
use Rattle.drawing_types.specs.declared.shape.Point.{Point}
use Rattle.elk_doc.specs.declared.document.Id.TheVariants.{Whole}
use Rattle.elk_doc.specs.declared.document.PortRule.TheVariants.{Free}
use Rattle.elk_doc.specs.declared.document.Direction.TheVariants.{Up}
use Rattle.elk_doc.specs.declared.document.End.TheVariants.{Node as AtNode, Port as AtPort}
use Rattle.elk_doc.specs.declared.drawing.Placed.{Placed}
use Rattle.elk_doc.specs.Document.{Document}
use Rattle.elk_doc.specs.Examples.{point, rect, size, root, leaf, edge, options, two_layers}
use Rattle.level_model.specs.Level.{PlainLevel}
use Rattle.level_model.specs.FromPlan.{LevelDrawing}
use Rattle.working_frame.specs.Rotated.{level_of}
use Rattle.working_frame.specs.Drawing.{IsRotatedDrawing}
use Rattle.rotated_levels.specs.Outlines.{AllApart}
use Rattle.rotated_levels.specs.Framed.{FillsExtent, IsFramed}

-- an edge from a port of the lower leaf to the upper leaf
abbrev pub upward : Document
upward =
    record {
      nodes = root Up ∷ leaf 1 Free (size 31 20) ∷ leaf 2 Free (size 31 20) ∷ [];
      ports = record { id = Whole (pos 3); node = 1; size = size 5 5; place = point (pos 0) (pos 0); side = None; index = pos 0 } ∷ [];
      edges = edge (AtPort 0) (AtNode 2) ∷ [];
    }

-- the port stands above its leaf, and the edge runs straight up from it
abbrev pub upward_drawn : Placed
upward_drawn =
    record {
      boxes = rect 0 0 55 89 ∷ rect 12 57 31 20 ∷ rect 12 12 31 20 ∷ [];
      ports = point (pos 13) (negsuc 4) ∷ [];
      sections = record { start = point (pos 27) (pos 52); bends = []; end = point (pos 27) (pos 32) } ∷ [];
      levels = Some two_layers ∷ None ∷ None ∷ [];
    }

abbrev pub upward_level : PlainLevel
upward_level = level_of upward upward_drawn 0 (options Up)

-- in the frame the edge runs to the right, from a port on the east side
abbrev pub upward_framed : LevelDrawing
upward_framed =
    record {
      gaps = [];
      traces = [];
      boxes = point (pos 0) (pos 0) ∷ point (pos 45) (pos 0) ∷ [];
      ports = (point (pos 20) (pos 13) ∷ []) ∷ [] ∷ [];
      sections = record { start = point (pos 25) (pos 15); bends = []; end = point (pos 45) (pos 15) } ∷ [];
      extent = size 65 31;
      left = pos 0;
      top = pos 0;
    }

-- 77 = 12 + 65 lies below the content, so that it begins below the padding of 12
abbrev pub upward_move : Point
upward_move = point (negsuc 76) (pos 12)

pub record UpwardFits : Type 0 where
  pub rotated : IsRotatedDrawing upward upward_drawn 0 Up upward_framed upward_move
  pub fills : FillsExtent upward_level upward_framed
  pub framed : IsFramed upward upward_drawn 0 (options Up) upward_framed upward_move
  pub apart : AllApart upward upward_drawn 0 (options Up) upward_framed two_layers
