-- A drawing that is moved as a whole: one number is taken from all abscissae, and one from all heights.
use Rattle.std.specs.Prelude.{ℕ, ◌<◌, Bool, length, map, ℤ, ◌+ℤ◌, ◌-ℤ◌}
use Rattle.drawing_types.specs.declared.shape.Point.{Point}
use Rattle.drawing_types.specs.declared.section.Section.{Section}
pub use Rattle.net_routes.specs.Moved.{moved_pin, moved_net, moved_route}
use Rattle.route_lines.specs.declared.Step.{Step}
use Rattle.route_lines.specs.declared.Step.TheVariants.{Lane, Leg}
use Rattle.route_lines.specs.Points.{PlainGap}
use Rattle.level_model.specs.Level.{PlainLevel, PlainPlan, Orders, end_at, spoke}
use Rattle.level_model.specs.Nets.{layer_of_child}
use Rattle.level_model.specs.FromPlan.{LevelDrawing, PlainTrace, IsDrawnFrom}

abbrev pub moved_point : ℤ → ℤ → Point → Point
moved_point x y p = record { x = p.x -ℤ x; y = p.y -ℤ y }

abbrev pub moved_gap : ℤ → ℤ → PlainGap → PlainGap
moved_gap x y g =
    record {
      left = g.left -ℤ x;
      first = g.first -ℤ x;
      step = g.step;
      right = g.right -ℤ x;
      nets = map (moved_net y) g.nets;
      count = g.count;
      routes = map (moved_route y) g.routes;
    }

abbrev pub moved_step : ℤ → Step → Step
moved_step y (Lane h) = Lane (h -ℤ y)
moved_step y (Leg g n from_a) = Leg g n from_a

abbrev pub moved_trace : ℤ → ℤ → PlainTrace → PlainTrace
moved_trace x y t =
    record { start = moved_point x y t.start; steps = map (moved_step y) t.steps; end = moved_point x y t.end }

abbrev pub moved_section : ℤ → ℤ → Section → Section
moved_section x y s =
    record { start = moved_point x y s.start; bends = map (moved_point x y) s.bends; end = moved_point x y s.end }

-- The drawing: its ports are places within their children, so they stay.
abbrev pub moved : ℤ → ℤ → LevelDrawing → LevelDrawing
moved x y d =
    record {
      gaps = map (moved_gap x y) d.gaps;
      traces = map (moved_trace x y) d.traces;
      boxes = map (moved_point x y) d.boxes;
      ports = d.ports;
      sections = map (moved_section x y) d.sections;
      extent = d.extent;
      left = d.left +ℤ x;
      top = d.top +ℤ y;
    }

-- each child's column is one of the level's, and each end is at a child
pub record HasPlaces (l : PlainLevel) (p : PlainPlan) : Type 0 where
  pub layers : (c : ℕ) → c < length l.children → layer_of_child p c < p.layers
  pub ends : (e : ℕ) (at_source : Bool) → e < length l.edges → (spoke l (end_at e at_source)).child < length l.children

-- what is drawn from a plan and moved is drawn from it
abbrev pub DrawingsMove : Type 0
DrawingsMove =
    (l : PlainLevel) (p : PlainPlan) (o : Orders) (d : LevelDrawing) (x y : ℤ) → HasPlaces l p → IsDrawnFrom l p o d
    → IsDrawnFrom l p o (moved x y d)
