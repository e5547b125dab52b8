-- One unit with two links to two units.
use Rattle.std.specs.Prelude.{ℕ, pos, List, [], ◌∷◌, Some, ℤ}
use Rattle.elk_layers.specs.declared.units.Unit.{Unit as LayerUnit}
use Rattle.elk_layers.specs.declared.units.Link.{Link}
use Rattle.elk_layers.specs.Layered.{Plain}

-- a child 30 high without lanes
abbrev pub box : ℕ → LayerUnit
box layer = record { layer = layer; child = Some 0; height = pos 30; body_top = pos 0; body_height = pos 30; north = 0; south = 0 }

abbrev pub leads : ℕ → ℤ → Link
leads head at = record { edge = 0; tail = 0; head = head; tail_rank = 0; head_rank = 0; tail_at = at; head_at = pos 15 }

abbrev pub forked : Plain
forked =
    record {
      layers = 2;
      units = box 0 ∷ box 1 ∷ box 1 ∷ [];
      links = leads 1 (pos 10) ∷ leads 2 (pos 20) ∷ [];
      node_node = pos 20;
      edge_node = pos 10;
      edge_edge = pos 10;
    }

abbrev pub forked_rows : List (List ℕ)
forked_rows = (0 ∷ []) ∷ (1 ∷ 2 ∷ []) ∷ []
