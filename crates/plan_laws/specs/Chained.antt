-- Three children in a row, joined one to the next and the first to the last, and what they are drawn from.
use Rattle.std.specs.Prelude.{ℕ, zero, suc, [], ◌∷◌, pos, None, Some}
use Rattle.elk_doc.specs.Defaults.{default_choices}
use Rattle.drawing_types.specs.declared.shape.Side.TheVariants.{East, West}
use Rattle.elk_doc.specs.declared.document.PortRule.TheVariants.{Free}
use Rattle.elk_layers.specs.declared.units.Unit.{Unit as LayerUnit}
use Rattle.elk_layers.specs.declared.units.Link.{Link}
use Rattle.level_model.specs.Level.{PlainLevel, PlainPlan, Orders}
use Rattle.level_model.specs.Examples.{spacing, square, edge}

abbrev pub chained : PlainLevel
chained =
    record {
      children = square [] Free ∷ square [] Free ∷ square [] Free ∷ [];
      edges = edge 0 None 1 ∷ edge 1 None 2 ∷ edge 0 None 2 ∷ [];
      spacing = spacing;
      choices = default_choices;
    }

-- the unit of a child, and a lane
abbrev pub child_unit : ℕ → LayerUnit
child_unit c = record { layer = c; child = Some c; height = pos 30; body_top = pos 0; body_height = pos 30; north = 0; south = 0 }

abbrev pub lane_unit : ℕ → LayerUnit
lane_unit layer = record { layer = layer; child = None; height = pos 0; body_top = pos 0; body_height = pos 0; north = 0; south = 0 }

abbrev pub joined : ℕ → ℕ → ℕ → ℕ → ℕ → Link
joined e tail head tail_at head_at =
    record {
      edge = e;
      tail = tail;
      head = head;
      tail_rank = 0;
      head_rank = 0;
      tail_at = pos tail_at;
      head_at = pos head_at;
    }

-- the long edge runs on a lane below the second child
abbrev pub chained_plan : PlainPlan
chained_plan =
    record {
      layers = 3;
      layered = record {
        layers = 3;
        units = child_unit 0 ∷ child_unit 1 ∷ child_unit 2 ∷ lane_unit 1 ∷ [];
        links = joined 0 0 1 10 15 ∷ joined 1 1 2 15 10 ∷ joined 2 0 3 20 0 ∷ joined 2 3 2 0 20 ∷ [];
        node_node = pos 20;
        edge_node = pos 10;
        edge_edge = pos 10;
      };
      rows = (0 ∷ []) ∷ (1 ∷ 3 ∷ []) ∷ (2 ∷ []) ∷ [];
      tops = pos 0 ∷ pos 0 ∷ pos 0 ∷ pos 40 ∷ [];
      reversed = [];
    }

abbrev pub chained_orders : Orders
chained_orders zero East = 0 ∷ 1 ∷ []
chained_orders (suc zero) West = 0 ∷ []
chained_orders (suc zero) East = 1 ∷ []
chained_orders (suc (suc c)) West = 0 ∷ 1 ∷ []
chained_orders _ _ = []
