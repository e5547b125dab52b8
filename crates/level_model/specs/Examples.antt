-- A small level: two children side by side, joined by two parallel edges.
use Rattle.std.specs.Prelude.{◌≡◌, ℕ, zero, suc, Bool, true, false, List, [], ◌∷◌, ℤ, pos, Option, None, Some}
use Rattle.elk_doc.specs.Defaults.{default_choices}
use Rattle.drawing_types.specs.declared.shape.Point.{Point}
use Rattle.drawing_types.specs.declared.shape.Side.TheVariants.{North, East, West}
use Rattle.elk_doc.specs.declared.document.PortRule.{PortRule}
use Rattle.elk_doc.specs.declared.document.PortRule.TheVariants.{Free, FixedSide}
use Rattle.elk_doc.specs.declared.document.Direction.TheVariants.{Right}
use Rattle.elk_doc.specs.declared.document.Spacing.{Spacing}
use Rattle.elk_layers.specs.declared.units.Unit.{Unit as LayerUnit}
use Rattle.elk_layers.specs.declared.units.Link.{Link}
use Rattle.port_order.specs.declared.children.ChildPort.{ChildPort}
use Rattle.port_order.specs.declared.children.Child.{Child}
use Rattle.net_routes.specs.declared.Pin.{Pin}
use Rattle.net_routes.specs.declared.Net.{Net}
use Rattle.net_routes.specs.declared.NetRoute.TheVariants.{Straight, One}
use Rattle.route_lines.specs.declared.Step.TheVariants.{Lane, Leg}
use Rattle.route_lines.specs.Points.{PlainGap, trace_points, fine_points}
use Rattle.level_model.specs.declared.level.LevelEdge.{LevelEdge}
use Rattle.level_model.specs.Stage.{Stage, dock_lane}
use Rattle.level_model.specs.Level.{PlainLevel, PlainPlan, Orders, dock_of, end_at}
use Rattle.level_model.specs.Lanes.{lanes, body_top, unit_height}
use Rattle.level_model.specs.Nets.{nets_in, column_width, gap_left, gap_width}
use Rattle.level_model.specs.Traces.{steps_of}
use Rattle.level_model.specs.FromPlan.{LevelDrawing}
use Rattle.level_model.specs.Drawing.{stage}
use Rattle.level_model.specs.Law.{IsPart}
use Rattle.route_lines.specs.Tidied.{EachSegment}

abbrev pub spacing : Spacing
spacing =
    record {
      node_node = pos 20;
      edge_node = pos 10;
      edge_edge = pos 10;
      node_layers = pos 20;
      edge_node_layers = pos 10;
      edge_edge_layers = pos 10;
    }

abbrev pub square : List ChildPort → PortRule → Child
square ports rule =
    record { size = record { width = pos 30; height = pos 30 }; compound = false; rule = rule; direction = Right; position = None; ports = ports }

abbrev pub edge : ℕ → Option ℕ → ℕ → LevelEdge
edge a port b = record { source = record { child = a; port = port }; target = record { child = b; port = None }; weight = 1 }

abbrev pub unit : ℕ → ℕ → ℤ → ℤ → ℕ → LayerUnit
unit c layer height top north =
    record {
      layer = layer;
      child = Some c;
      height = height;
      body_top = top;
      body_height = pos 30;
      north = north;
      south = 0;
    }

abbrev pub link : ℕ → ℤ → ℤ → Link
link e a b = record { edge = e; tail = 0; head = 1; tail_rank = 0; head_rank = 0; tail_at = a; head_at = b }

-- two parallel edges
abbrev pub parallel : PlainLevel
parallel =
    record {
      children = square [] Free ∷ square [] Free ∷ [];
      edges = edge 0 None 1 ∷ edge 0 None 1 ∷ [];
      spacing = spacing;
      choices = default_choices;
    }

abbrev pub parallel_plan : PlainPlan
parallel_plan =
    record {
      layers = 2;
      layered = record {
        layers = 2;
        units = unit 0 0 (pos 30) (pos 0) 0 ∷ unit 1 1 (pos 30) (pos 0) 0 ∷ [];
        links = link 0 (pos 10) (pos 10) ∷ link 1 (pos 20) (pos 20) ∷ [];
        node_node = pos 20;
        edge_node = pos 10;
        edge_edge = pos 10;
      };
      rows = (0 ∷ []) ∷ (1 ∷ []) ∷ [];
      tops = pos 0 ∷ pos 0 ∷ [];
      reversed = [];
    }

abbrev pub parallel_orders : Orders
parallel_orders zero East = 0 ∷ 1 ∷ []
parallel_orders (suc c) West = 0 ∷ 1 ∷ []
parallel_orders _ _ = []

abbrev pub pin : Bool → ℕ → Pin
pin on_left h = record { on_left = on_left; height = pos h }

abbrev pub net : Pin → Pin → Net
net a b = record { a = a; b = b }

pub record ParallelEdges : Type 0 where
  pub nets : nets_in parallel parallel_plan parallel_orders (pos 0) 1
      ≡ net (pin true 10) (pin false 10) ∷ net (pin true 20) (pin false 20) ∷ []
  pub first : steps_of parallel parallel_plan parallel_orders (pos 0) 0 ≡ Leg 1 0 true ∷ []
  pub second : steps_of parallel parallel_plan parallel_orders (pos 0) 1 ≡ Leg 1 1 true ∷ []
  pub width : column_width parallel parallel_plan parallel_orders 0 ≡ pos 30
  pub gap : gap_width parallel parallel_plan 1 0 ≡ pos 20
  pub next : gap_left parallel parallel_plan parallel_orders (λ g. 0) 2 ≡ pos 80

-- a port on the west side that an edge leaves: its dock is inverted, has a lane south of the child, and the route comes
-- back to the lane through the gap on the left
abbrev pub west : PlainLevel
west =
    record {
      children =
          square ((record {
            size = record { width = pos 10; height = pos 10 };
            place = record { x = pos 0; y = pos 0 };
            half = pos 5;
            side = Some West;
            index = pos 0;
          }) ∷ []) FixedSide
          ∷ square [] Free ∷ [];
      edges = edge 0 (Some 0) 1 ∷ [];
      spacing = spacing;
      choices = default_choices;
    }

abbrev pub west_plan : PlainPlan
west_plan =
    record {
      layers = 2;
      layered = record {
        layers = 2;
        units = unit 0 0 (pos 40) (pos 10) 1 ∷ unit 1 1 (pos 30) (pos 0) 0 ∷ [];
        links = link 0 (pos 0) (pos 15) ∷ [];
        node_node = pos 20;
        edge_node = pos 10;
        edge_edge = pos 10;
      };
      rows = (0 ∷ []) ∷ (1 ∷ []) ∷ [];
      tops = pos 15 ∷ pos 0 ∷ [];
      reversed = [];
    }

abbrev pub west_orders : Orders
west_orders c West = 0 ∷ []
west_orders c _ = []

abbrev pub gap : ℤ → ℤ → ℤ → List Net → PlainGap
gap left first right nets = record { left = left; first = first; step = pos 10; right = right; nets = nets; count = 1; routes = One 0 ∷ [] }

abbrev pub straight_gap : PlainGap
straight_gap =
    record {
      left = pos 50;
      first = pos 60;
      step = pos 10;
      right = pos 70;
      nets = net (pin true 15) (pin false 15) ∷ [];
      count = 0;
      routes = Straight ∷ [];
    }

abbrev pub last_gap : PlainGap
last_gap = record { left = pos 100; first = pos 110; step = pos 10; right = pos 100; nets = []; count = 0; routes = [] }

abbrev pub west_gaps : List PlainGap
west_gaps = gap (pos 0) (pos 0) (pos 10) (net (pin false 15) (pin false 40) ∷ []) ∷ straight_gap ∷ last_gap ∷ []

abbrev pub at : ℕ → ℕ → Point
at x y = record { x = pos x; y = pos y }

pub record WestPort : Type 0 where
  pub lane : lanes west west_plan west_orders 0 North ≡ dock_lane (dock_of west west_plan west_orders (end_at 0 true)) ∷ []
  pub body : body_top west west_plan west_orders 0 ≡ pos 10
  pub height : unit_height west west_plan west_orders 0 ≡ pos 40
  pub left_nets : nets_in west west_plan west_orders (pos 0) 0 ≡ net (pin false 15) (pin false 40) ∷ []
  pub right_nets : nets_in west west_plan west_orders (pos 0) 1 ≡ net (pin true 15) (pin false 15) ∷ []
  pub steps : steps_of west west_plan west_orders (pos 0) 0 ≡ Leg 0 0 false ∷ Lane (pos 15) ∷ Leg 1 0 true ∷ []
  pub points :
      trace_points west_gaps
      (record { x = pos 10; y = pos 40 }) (Leg 0 0 false ∷ Lane (pos 15) ∷ Leg 1 0 true ∷ []) (record { x = pos 70; y = pos 15 })
      ≡ (record { x = pos 10; y = pos 40 }) ∷ (record { x = pos 0; y = pos 40 }) ∷ (record { x = pos 0; y = pos 15 })
      ∷ (record { x = pos 70; y = pos 15 }) ∷ []
  pub fine :
      fine_points west_gaps (at 10 40) (Leg 0 0 false ∷ Lane (pos 15) ∷ Leg 1 0 true ∷ []) (at 70 15)
      ≡ at 10 40 ∷ at 10 40 ∷ at 0 40 ∷ at 0 15 ∷ at 10 15 ∷ at 50 15 ∷ at 70 15 ∷ at 70 15 ∷ []

-- the drawing of that level, as far as pieces of routes read it
abbrev pub west_drawn : LevelDrawing
west_drawn =
    record {
      gaps = west_gaps;
      traces = [];
      boxes = [];
      ports = [];
      sections = [];
      left = pos 0;
      top = pos 0;
      extent = record { width = pos 100; height = pos 55 };
    }

abbrev pub west_stage : Stage
west_stage = stage west west_plan west_orders west_drawn

-- each piece of its route is of one of the four kinds
abbrev pub WestParts : Type 0
WestParts =
    EachSegment (IsPart west_stage 0) (at 10 40 ∷ at 10 40 ∷ at 0 40 ∷ at 0 15 ∷ at 10 15 ∷ at 50 15 ∷ at 70 15 ∷ at 70 15 ∷ [])
