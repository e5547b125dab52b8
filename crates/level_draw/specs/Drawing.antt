-- The drawing of a level, as it is answered.
use Rattle.std.specs.Prelude.{◌≡◌, ◌≢◌, ℕ, ◌<◌, ◌^◌, List, map, ℤ, pos, ◌+ℤ◌, ◌<ℤ◌, length}
use Rattle.std.specs.List.{range_with_len}
use Rattle.drawing_types.specs.declared.shape.Rect.{Rect}
use Rattle.elk_doc.specs.declared.drawing.Certificate.{Certificate}
use Rattle.drawing_types.specs.Shapes.{origin}
use Rattle.elk_layers.specs.declared.units.Layered.{Layered}
use Rattle.elk_layers.specs.declared.units.Order.{Order}
use Rattle.elk_layers.specs.declared.units.Lines.{Lines}
use Rattle.elk_layers.specs.Layered.{unit_at}
use Rattle.elk_layers.specs.Lines.{top_of}
use Rattle.level_model.specs.Conditions.{plain_plan}
use Rattle.level_model.specs.Level.{PlainLevel, PlainPlan, Orders}
use Rattle.level_model.specs.FromPlan.{LevelDrawing, IsDrawnFrom}
use Rattle.level_model.specs.Ready.{IsReady}
use Rattle.level_model.specs.Apart.{ChildrenApart, drawn_outline}
use Rattle.level_model.specs.PortsKept.{KeepsPorts}
use Rattle.plan_laws.specs.Routes.{RoutesKept}
use Rattle.working_frame.specs.Reach.{IsReach, reached}
use Rattle.level_nets.specs.Held.{plain_gaps}
use Rattle.level_draw.specs.Traced.{plain_traces}
use Rattle.layer_units.specs.Layering.{AreLayersOf, IsLayerCount}
use Rattle.level_draw.specs.declared.drawing.LevelOut.{LevelOut}

-- the plan of these units, rows and tops, with the edges that a certificate says are reversed
abbrev pub plan_from : Certificate → Layered → Order → Lines → PlainPlan
plan_from certificate layered order lines = plain_plan layered order lines.top.items certificate.reversed

-- What is asked of a level and its plan. The layers that are listed for its children are below 2,048, and each edge, reversed
-- where the plan says so, leads to a greater one. The units are those of the level in these layers, by the orders of its sides,
-- with no layer after the last of them. The tops, which keep the distances, leave each unit above 2^49.
pub record IsDrawable (l : PlainLevel) (p : PlainPlan) (layers : List ℕ) : Type 0 where
  pub orders : Orders
  pub layering : AreLayersOf l p.reversed layers
  pub ready : IsReady l p orders layers
  pub layer_count : IsLayerCount layers p.layers
  pub bottoms : (u : ℕ) → u < length p.layered.units → (top_of p.tops u +ℤ (unit_at p.layered.units u).height) <ℤ pos (2 ^ 49)

-- what was given stays in the answer
pub record IsMadeFrom (certificate : Certificate) (layered : Layered) (start order : Order) (lines : Lines) (v : LevelOut) : Type 0 where
  pub certificate_is : v.certificate ≡ certificate
  pub layered_is : v.plan.layered ≡ layered
  pub start_is : v.plan.start ≡ start
  pub order_is : v.plan.order ≡ order
  pub lines_are : v.plan.lines ≡ lines

-- the drawing of an answer, which was moved so far to the left and so far up
abbrev pub drawn_in : LevelOut → ℤ → ℤ → LevelDrawing
drawn_in v left top =
    record {
      gaps = plain_gaps v.plan.gaps;
      traces = plain_traces v.plan.traces;
      boxes = v.boxes;
      ports = v.ports;
      sections = v.sections;
      extent = v.extent;
      left = left;
      top = top;
    }

-- the outlines of all children
abbrev pub outlines_in : PlainLevel → LevelDrawing → List Rect
outlines_in l d = map (drawn_outline l d) (range_with_len 0 (length l.children))

-- Outlines and routes begin at 0 and end at the extent: their least coordinates are 0, and their greatest are its width and
-- its height.
abbrev pub IsTight : PlainLevel → LevelDrawing → Type 0
IsTight l d =
    IsReach (reached (outlines_in l d) d.sections) (record { low = origin; high = record { x = d.extent.width; y = d.extent.height } })

-- A drawing comes from its plan, and keeps what a good drawing keeps: the distances of children, the constraints of ports,
-- and the rules for routes.
pub record IsDrawing (l : PlainLevel) (p : PlainPlan) (layers : List ℕ) (d : LevelDrawing) : Type 0 where
  pub from_plan : (o : Orders) → IsReady l p o layers → IsDrawnFrom l p o d
  pub apart : (b c : ℕ) → b < length l.children → c < length l.children → b ≢ c → ChildrenApart l d layers b c
  pub ports : (o : Orders) → IsReady l p o layers → (c : ℕ) → c < length l.children → KeepsPorts l p o d c
  pub routes : (o : Orders) → IsReady l p o layers → RoutesKept l p o d
  pub tight : IsTight l d

-- the drawing of an answer, by how far it was moved
pub record IsDrawn (l : PlainLevel) (p : PlainPlan) (layers : List ℕ) (v : LevelOut) : Type 0 where
  pub left : ℤ
  pub top : ℤ
  pub drawing : IsDrawing l p layers (drawn_in v left top)
