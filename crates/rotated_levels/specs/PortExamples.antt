-- What the level of a document that runs up is drawn from, and the docks of its edge.
use Rattle.std.specs.Prelude.{◌≡◌, ℕ, zero, suc, true, false, [], ◌∷◌, Some, ℤ, pos}
use Rattle.drawing_types.specs.declared.shape.Side.TheVariants.{North, East, South, West}
use Rattle.elk_doc.specs.declared.document.Direction.TheVariants.{Up}
use Rattle.elk_doc.specs.Examples.{dock, options}
use Rattle.elk_doc.specs.Places.{dock_of as document_dock}
use Rattle.elk_layers.specs.declared.units.Unit.{Unit as LayerUnit}
use Rattle.route_lines.specs.Points.{PlainGap}
use Rattle.level_model.specs.Level.{PlainPlan, Orders, end_at, dock_of}
use Rattle.level_model.specs.FromPlan.{LevelDrawing}
use Rattle.rotated_levels.specs.BoxExamples.{upward, upward_drawn, upward_level, upward_framed, upward_move}
use Rattle.rotated_levels.specs.DockLaws.{IsFromLevel, IsAnchored}

-- a child alone in its layer
abbrev pub alone_unit : ℕ → LayerUnit
alone_unit c = record { layer = c; child = Some c; height = pos 31; body_top = pos 0; body_height = pos 31; north = 0; south = 0 }

abbrev pub upward_plan : PlainPlan
upward_plan =
    record {
      layers = 2;
      layered = record {
        layers = 2;
        units = alone_unit 0 ∷ alone_unit 1 ∷ [];
        links = record { edge = 0; tail = 0; head = 1; tail_rank = 0; head_rank = 0; tail_at = pos 15; head_at = pos 15 } ∷ [];
        node_node = pos 20;
        edge_node = pos 10;
        edge_edge = pos 10;
      };
      rows = (0 ∷ []) ∷ (1 ∷ []) ∷ [];
      tops = pos 0 ∷ pos 0 ∷ [];
      reversed = [];
    }

-- the port, and the implicit end, alone on their sides
abbrev pub upward_orders : Orders
upward_orders zero East = 0 ∷ []
upward_orders (suc zero) West = 0 ∷ []
upward_orders _ _ = []

abbrev pub bare_gap : ℤ → ℤ → PlainGap
bare_gap left right = record { left = left; first = left; step = pos 10; right = right; nets = []; count = 0; routes = [] }

-- the drawing with the borders of its gaps
abbrev pub upward_gapped : LevelDrawing
upward_gapped =
    record {
      gaps = bare_gap (pos 0) (pos 0) ∷ bare_gap (pos 25) (pos 45) ∷ bare_gap (pos 65) (pos 65) ∷ [];
      traces = upward_framed.traces;
      boxes = upward_framed.boxes;
      ports = upward_framed.ports;
      sections = upward_framed.sections;
      extent = upward_framed.extent;
      left = upward_framed.left;
      top = upward_framed.top;
    }

-- The edge leaves the port on the north side of the lower leaf, and enters the upper leaf from the south: in the frame they are
-- on the east and the west. Both docks lie 15 along their sides.
pub record UpwardStands : Type 0 where
  pub rotated : IsFromLevel upward upward_drawn 0 (options Up) upward_plan upward_gapped upward_move
  pub anchored : IsAnchored upward_level upward_plan upward_orders upward_gapped
  pub source : document_dock upward upward_drawn 0 true ≡ dock 1 North 15
  pub source_framed : dock_of upward_level upward_plan upward_orders (end_at 0 true) ≡ dock 0 East 15
  pub target : document_dock upward upward_drawn 0 false ≡ dock 2 South 15
  pub target_framed : dock_of upward_level upward_plan upward_orders (end_at 0 false) ≡ dock 1 West 15
