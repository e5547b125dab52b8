-- The ranks of links' ends, read off a table and off the ranks of children's ports.
use Rattle.std.specs.Prelude.{◌≡◌, ℕ, ◌+◌, ◌*◌, ◌<◌, ◌≤◌, cond, Bool, true, false, not, List, [], Option, None, Some, is_some, length}
use Rattle.std.specs.Prelude.{slice_index, slice_index_or}
use Rattle.port_order.specs.declared.children.Child.{Child}
use Rattle.port_order.specs.Child.{is_pinned}
use Rattle.elk_layers.specs.declared.units.Unit.{Unit as LayerUnit}
use Rattle.elk_layers.specs.declared.units.Link.{Link}
use Rattle.elk_layers.specs.Layered.{link_at, unit_at}
use Rattle.level_model.specs.declared.table.EndAt.{EndAt}
use Rattle.level_model.specs.declared.table.Table.{Table}
use Rattle.level_model.specs.Conditions.{IsLevel}
use Rattle.level_model.specs.Level.{PlainLevel, child_at, end_at, spoke}
use Rattle.level_model.specs.Units.{is_fixed, is_spread_fixed, lane_rank}
use Rattle.dock_table.specs.Bounds.{AreNumbersIn}
use Rattle.level_model.specs.Lanes.{side_by}
use Rattle.level_model.specs.Table.{end_of}
use Rattle.layer_units.specs.Reading.{is_on_lane, mark_at}
use Rattle.layer_units.specs.Ports.{PlainRanks}

-- how many ports are ranked on the side of a link's end
abbrev pub last_in : PlainRanks → Bool → ℕ
last_in v enters = cond enters v.west v.east

-- the rank of a link's end at a port whose anchor has this height: a spread port under fixed positions stands behind those that
-- are ranked, and an end on a lane before or behind all
abbrev pub port_rank : Child → PlainRanks → EndAt → ℕ → Bool → ℕ
port_rank c v end k enters =
    cond (is_spread_fixed c.rule (Some k) (is_pinned c k)) (last_in v enters + 1)
    (cond (is_on_lane end.dock.side enters) (lane_rank (last_in v enters) (side_by c.size.height end.dock.side end.anchor.y))
    (slice_index v.before k + 1))

abbrev pub end_rank : Child → PlainRanks → EndAt → Option ℕ → Bool → ℕ
end_rank c v end None enters = last_in v enters + 1
end_rank c v end (Some k) enters = port_rank c v end k enters

-- the same at any child
unfoldable pub child_rank : Child → PlainRanks → EndAt → Option ℕ → Bool → ℕ
child_rank c v end port enters = cond (is_fixed c.rule) (end_rank c v end port enters) 0

abbrev pub ranks_at : List PlainRanks → ℕ → PlainRanks
ranks_at vs c = slice_index_or vs c (record { before = []; west = 0; east = 0 })

-- the rank of an edge's end, and of a link's end at a unit
unfoldable pub edge_rank : PlainLevel → Table → List PlainRanks → ℕ → Bool → Bool → ℕ
edge_rank l t vs e at_source enters =
    child_rank (child_at l (spoke l (end_at e at_source)).child) (ranks_at vs (spoke l (end_at e at_source)).child)
    (end_of t e at_source) (spoke l (end_at e at_source)).port enters

unfoldable pub unit_rank : PlainLevel → Table → List PlainRanks → LayerUnit → ℕ → Bool → Bool → ℕ
unit_rank l t vs u e at_source enters = cond (is_some u.child) (edge_rank l t vs e at_source enters) 0

-- a link with ranks: it leaves its tail where the oriented edge does, and enters its head where the edge does
unfoldable pub link_with : PlainLevel → Table → List PlainRanks → List LayerUnit → List Bool → Link → Link
link_with l t vs units marks k =
    record {
      edge = k.edge;
      tail = k.tail;
      head = k.head;
      tail_rank = unit_rank l t vs (unit_at units k.tail) k.edge (not (mark_at marks k.edge)) false;
      head_rank = unit_rank l t vs (unit_at units k.head) k.edge (mark_at marks k.edge) true;
      tail_at = k.tail_at;
      head_at = k.head_at;
    }

-- ranks of a child's ports that can be read
pub record HasRanksIn (c : Child) (v : PlainRanks) : Type 0 where
  pub as_many : length v.before ≡ length c.ports
  pub few : (k : ℕ) → slice_index v.before k ≤ 4096
  pub west : v.west ≤ 4096
  pub east : v.east ≤ 4096

-- a table and ranks from which those of links' ends can be read, with a mark for each edge
pub record IsReadable (l : PlainLevel) (t : Table) (vs : List PlainRanks) (marks : List Bool) : Type 0 where
  pub level : IsLevel l
  pub as_many_ends : length t.ends ≡ 2 * length l.edges
  pub as_many_ranks : length vs ≡ length l.children
  pub as_many_marks : length marks ≡ length l.edges
  pub numbers : AreNumbersIn t
  pub ranks : (c : ℕ) → c < length l.children → is_fixed (child_at l c).rule ≡ true → HasRanksIn (child_at l c) (ranks_at vs c)

-- of some links the first n have their ranks, and the others are as they were
pub record AreRankedLinks (l : PlainLevel) (t : Table) (vs : List PlainRanks) (units : List LayerUnit) (marks : List Bool)
    (links : List Link) (n : ℕ) (ranked : List Link) : Type 0 where
  pub as_many : length ranked ≡ length links
  pub each : (k : ℕ) → k < n → link_at ranked k ≡ link_with l t vs units marks (link_at links k)
  pub few : (k : ℕ) → k < n → ((link_at ranked k).tail_rank < 65536) × ((link_at ranked k).head_rank < 65536)
  pub rest : (k : ℕ) → n ≤ k → link_at ranked k ≡ link_at links k
