-- A port on the north side between two edges, and self-loops between all pairs of sides.
use Rattle.std.specs.Prelude.{◌≡◌, ℕ, List, [], ◌∷◌, ℤ, pos, negsuc, None, Some, true, false}
use Rattle.elk_doc.specs.Defaults.{default_choices}
use Rattle.drawing_types.specs.declared.shape.Side.{Side}
use Rattle.drawing_types.specs.declared.shape.Side.TheVariants.{North, East, South, West}
use Rattle.elk_doc.specs.declared.document.PortRule.TheVariants.{Free, FixedSide}
use Rattle.elk_doc.specs.declared.document.Direction.TheVariants.{Right}
use Rattle.elk_layers.specs.declared.units.Link.{Link}
use Rattle.port_order.specs.declared.children.Child.{Child}
use Rattle.port_order.specs.declared.children.ChildPort.{ChildPort}
use Rattle.route_lines.specs.declared.Step.TheVariants.{Lane, Leg}
use Rattle.route_lines.specs.Points.{trace_points}
use Rattle.level_model.specs.Stage.{dock_lane, loop_lane}
use Rattle.level_model.specs.declared.level.LevelEdge.{LevelEdge}
use Rattle.level_model.specs.Level.{PlainLevel, PlainPlan, Orders, dock_of, end_at, outline, port_place}
use Rattle.level_model.specs.Lanes.{lanes, body_top, unit_height}
use Rattle.level_model.specs.Nets.{names_in, nets_in, of_loop}
use Rattle.level_model.specs.Traces.{steps_of}
use Rattle.level_model.specs.Examples.{spacing, square, unit, pin, net, straight_gap, at}

-- a port of 10 by 10 on this side
abbrev pub port_on : Side → ChildPort
port_on side =
    record {
      size = record { width = pos 10; height = pos 10 };
      place = record { x = pos 0; y = pos 0 };
      half = pos 5;
      side = Some side;
      index = pos 0;
    }

-- ---- a port on the north side of the middle one of three children: an edge comes to it from the left, and one leaves it to
-- the right, both along the one lane of their dock

abbrev pub north : PlainLevel
north =
    record {
      children = square [] Free ∷ square (port_on North ∷ []) FixedSide ∷ square [] Free ∷ [];
      edges =
          (record { source = record { child = 0; port = None }; target = record { child = 1; port = Some 0 }; weight = 1 })
          ∷ (record { source = record { child = 1; port = Some 0 }; target = record { child = 2; port = None }; weight = 1 }) ∷ [];
      spacing = spacing;
      choices = default_choices;
    }

abbrev pub north_link : ℕ → ℕ → ℕ → ℤ → ℤ → Link
north_link e t h a b = record { edge = e; tail = t; head = h; tail_rank = 0; head_rank = 0; tail_at = a; head_at = b }

abbrev pub north_plan : PlainPlan
north_plan =
    record {
      layers = 3;
      layered =
          record {
            layers = 3;
            units = unit 0 0 (pos 30) (pos 0) 0 ∷ unit 1 1 (pos 50) (pos 10) 1 ∷ unit 2 2 (pos 30) (pos 0) 0 ∷ [];
            links = north_link 0 0 1 (pos 15) (pos 0) ∷ north_link 1 1 2 (pos 0) (pos 15) ∷ [];
            node_node = pos 20;
            edge_node = pos 10;
            edge_edge = pos 10;
          };
      rows = (0 ∷ []) ∷ (1 ∷ []) ∷ (2 ∷ []) ∷ [];
      tops = pos 0 ∷ pos 15 ∷ pos 0 ∷ [];
      reversed = [];
    }

-- each child has one spread spot on a side
abbrev pub north_orders : Orders
north_orders c side = 0 ∷ []

pub record NorthPort : Type 0 where
  pub outline : outline north north_plan north_orders 1 ≡ record { x = pos 0; y = negsuc 9; width = pos 30; height = pos 40 }
  pub port : port_place north north_plan north_orders 1 0 ≡ record { x = pos 10; y = negsuc 9 }
  pub lane : lanes north north_plan north_orders 1 North ≡ dock_lane (dock_of north north_plan north_orders (end_at 0 false)) ∷ []
  pub height : unit_height north north_plan north_orders 1 ≡ pos 50
  pub left_nets : nets_in north north_plan north_orders (pos 0) 1 ≡ net (pin true 15) (pin false 15) ∷ []
  pub right_nets : nets_in north north_plan north_orders (pos 0) 2 ≡ net (pin true 15) (pin false 15) ∷ []
  pub first : steps_of north north_plan north_orders (pos 0) 0 ≡ Leg 1 0 true ∷ Lane (pos 15) ∷ []
  pub second : steps_of north north_plan north_orders (pos 0) 1 ≡ Lane (pos 15) ∷ Leg 2 0 true ∷ []
  pub first_points :
      trace_points (straight_gap ∷ straight_gap ∷ straight_gap ∷ []) (at 30 15) (Leg 1 0 true ∷ Lane (pos 15) ∷ []) (at 65 25)
      ≡ at 30 15 ∷ at 65 15 ∷ at 65 25 ∷ []
  pub second_points :
      trace_points (straight_gap ∷ straight_gap ∷ straight_gap ∷ []) (at 65 25) (Lane (pos 15) ∷ Leg 2 0 true ∷ []) (at 100 15)
      ≡ at 65 25 ∷ at 65 15 ∷ at 100 15 ∷ []

-- ---- one child with five ports on each side, and a self-loop for each of the ten pairs of sides

abbrev pub five_on : Side → List ChildPort → List ChildPort
five_on side ports = port_on side ∷ port_on side ∷ port_on side ∷ port_on side ∷ port_on side ∷ ports

abbrev pub loop_between : ℕ → ℕ → LevelEdge
loop_between a b = record { source = record { child = 0; port = Some a }; target = record { child = 0; port = Some b }; weight = 1 }

-- the ports 0 to 4 lie north, 5 to 9 east, 10 to 14 south, 15 to 19 west
abbrev pub looped_child : Child
looped_child =
    record {
      size = record { width = pos 100; height = pos 100 };
      compound = false;
      rule = FixedSide;
      direction = Right;
      position = None;
      ports = five_on North (five_on East (five_on South (five_on West [])));
    }

-- north with north, east, south and west; east with east, south and west; south with south and west; west with west
abbrev pub looped : PlainLevel
looped =
    record {
      children = looped_child ∷ [];
      edges =
          loop_between 0 1 ∷ loop_between 2 5 ∷ loop_between 3 10 ∷ loop_between 4 15 ∷ loop_between 6 7 ∷ loop_between 8 11
          ∷ loop_between 9 16 ∷ loop_between 12 13 ∷ loop_between 14 17 ∷ loop_between 18 19 ∷ [];
      spacing = spacing;
      choices = default_choices;
    }

abbrev pub looped_plan : PlainPlan
looped_plan =
    record {
      layers = 1;
      layered = record {
        layers = 1;
        units = unit 0 0 (pos 210) (pos 50) 5 ∷ [];
        links = [];
        node_node = pos 20;
        edge_node = pos 10;
        edge_edge = pos 10;
      };
      rows = (0 ∷ []) ∷ [];
      tops = pos 0 ∷ [];
      reversed = [];
    }

abbrev pub looped_orders : Orders
looped_orders c North = 0 ∷ 1 ∷ 2 ∷ 3 ∷ 4 ∷ []
looped_orders c East = 5 ∷ 6 ∷ 7 ∷ 8 ∷ 9 ∷ []
looped_orders c South = 10 ∷ 11 ∷ 12 ∷ 13 ∷ 14 ∷ []
looped_orders c West = 15 ∷ 16 ∷ 17 ∷ 18 ∷ 19 ∷ []

pub record AllLoops : Type 0 where
  pub north_lanes : lanes looped looped_plan looped_orders 0 North
      ≡ loop_lane 0 North ∷ loop_lane 1 North ∷ loop_lane 2 North ∷ loop_lane 3 North ∷ loop_lane 6 North ∷ []
  pub south_lanes : lanes looped looped_plan looped_orders 0 South
      ≡ loop_lane 2 South ∷ loop_lane 5 South ∷ loop_lane 7 South ∷ loop_lane 8 South ∷ []
  pub body : body_top looped looped_plan looped_orders 0 ≡ pos 50
  pub height : unit_height looped looped_plan looped_orders 0 ≡ pos 210
  pub left_gap : names_in looped looped_plan looped_orders 0 ≡ of_loop 3 West ∷ of_loop 6 West ∷ of_loop 8 West ∷ of_loop 9 West ∷ []
  pub right_gap : names_in looped looped_plan looped_orders 1
      ≡ of_loop 1 East ∷ of_loop 2 East ∷ of_loop 4 East ∷ of_loop 5 East ∷ of_loop 6 East ∷ []
  pub north_north : steps_of looped looped_plan looped_orders (pos 0) 0 ≡ Lane (pos 40) ∷ []
  pub north_east : steps_of looped looped_plan looped_orders (pos 0) 1 ≡ Lane (pos 30) ∷ Leg 1 0 true ∷ []
  pub north_south : steps_of looped looped_plan looped_orders (pos 0) 2 ≡ Lane (pos 20) ∷ Leg 1 1 true ∷ Lane (pos 180) ∷ []
  pub north_west : steps_of looped looped_plan looped_orders (pos 0) 3 ≡ Lane (pos 10) ∷ Leg 0 0 true ∷ []
  pub east_east : steps_of looped looped_plan looped_orders (pos 0) 4 ≡ Leg 1 2 true ∷ []
  pub east_south : steps_of looped looped_plan looped_orders (pos 0) 5 ≡ Leg 1 3 true ∷ Lane (pos 190) ∷ []
  pub east_west : steps_of looped looped_plan looped_orders (pos 0) 6 ≡ Leg 1 4 true ∷ Lane (pos 0) ∷ Leg 0 1 true ∷ []
  pub south_south : steps_of looped looped_plan looped_orders (pos 0) 7 ≡ Lane (pos 200) ∷ []
  pub south_west : steps_of looped looped_plan looped_orders (pos 0) 8 ≡ Lane (pos 210) ∷ Leg 0 2 true ∷ []
  pub west_west : steps_of looped looped_plan looped_orders (pos 0) 9 ≡ Leg 0 3 true ∷ []
