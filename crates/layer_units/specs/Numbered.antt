-- How the units and links of a level are numbered: children by number, then the lanes of long edges and the links by edge,
-- from the tail on.
use Rattle.std.specs.Prelude.{◌≡◌, ℕ, zero, suc, ◌+◌, ◌-◌, ◌<◌, ◌==◌, cond, Bool, List, Option, None, Some, pos, length}
use Rattle.elk_layers.specs.declared.units.Unit.{Unit as LayerUnit}
use Rattle.elk_layers.specs.declared.units.Link.{Link}
use Rattle.elk_layers.specs.Layered.{Plain, unit_at, link_at}
use Rattle.level_model.specs.Level.{PlainLevel, holds}
use Rattle.layer_units.specs.declared.runs.Run.{Run}
use Rattle.layer_units.specs.Layering.{Layering, tail_child, head_child, layer_in}

-- the units of a child and of a lane, without heights
abbrev pub flat_unit : ℕ → Option ℕ → LayerUnit
flat_unit layer child = record { layer = layer; child = child; height = pos 0; body_top = pos 0; body_height = pos 0; north = 0; south = 0 }

abbrev pub child_unit : ℕ → ℕ → LayerUnit
child_unit layer c = flat_unit layer (Some c)

abbrev pub lane_unit : ℕ → LayerUnit
lane_unit layer = flat_unit layer None

-- the sum of the first n values
unfoldable pub before : (ℕ → ℕ) → ℕ → ℕ
before f zero = 0
before f (suc n) = before f n + f n

-- the gaps between the layers of an edge's ends, and its lanes: one for each layer between them
abbrev pub gaps_at : PlainLevel → List ℕ → Bool → ℕ → ℕ
gaps_at l layers is_reversed e = layer_in layers (head_child l is_reversed e) - layer_in layers (tail_child l is_reversed e)

abbrev pub gaps_of : Layering → ℕ → ℕ
gaps_of s e = gaps_at s.level s.layers (holds s.reversed e) e

abbrev pub lanes_of : Layering → ℕ → ℕ
lanes_of s e = gaps_of s e - 1

-- the numbers of an edge's first lane and of its first link
abbrev pub first_lane : Layering → ℕ → ℕ
first_lane s e = length s.level.children + before (lanes_of s) e

abbrev pub first_link : Layering → ℕ → ℕ
first_link s e = before (gaps_of s) e

-- the run of an edge
abbrev pub run_at : PlainLevel → List ℕ → Bool → ℕ → ℕ → Run
run_at l layers is_reversed e first =
    record {
      edge = e;
      tail = tail_child l is_reversed e;
      head = head_child l is_reversed e;
      layer = layer_in layers (tail_child l is_reversed e);
      gaps = gaps_at l layers is_reversed e;
      first = first;
    }

abbrev pub run_of : Layering → ℕ → Run
run_of s e = run_at s.level s.layers (holds s.reversed e) e (first_lane s e)

-- the unit that a run meets behind so many gaps
abbrev pub stop_of : Run → ℕ → ℕ
stop_of run i = cond (i == 0) run.tail (cond (i == run.gaps) run.head (run.first + (i - 1)))

-- the lane that a run has behind so many others, and its link
abbrev pub lane_on : Run → ℕ → LayerUnit
lane_on run i = lane_unit (run.layer + 1 + i)

abbrev pub link_on : Run → ℕ → Link
link_on run i =
    record {
      edge = run.edge;
      tail = stop_of run i;
      head = stop_of run (i + 1);
      tail_rank = 0;
      head_rank = 0;
      tail_at = pos 0;
      head_at = pos 0;
    }

-- Units and links are numbered so.
pub record AreNumberedUnits (s : Layering) (p : Plain) : Type 0 where
  pub as_many_units : length p.units ≡ first_lane s (length s.level.edges)
  pub as_many_links : length p.links ≡ first_link s (length s.level.edges)
  pub children : (c : ℕ) → c < length s.level.children → unit_at p.units c ≡ child_unit (layer_in s.layers c) c
  pub lanes : (e i : ℕ) → e < length s.level.edges → i < lanes_of s e → unit_at p.units (first_lane s e + i) ≡ lane_on (run_of s e) i
  pub links : (e i : ℕ) → e < length s.level.edges → i < gaps_of s e → link_at p.links (first_link s e + i) ≡ link_on (run_of s e) i
