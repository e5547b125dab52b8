-- A table of what a drawing needs to know of children and ends: the definitions of a level's plan, worked out once.
use Rattle.std.specs.Prelude.{◌≡◌, ℕ, ◌+◌, ◌*◌, ◌<◌, cond, Bool, true, false, List, [], pos, length, slice_index_or, IsTrue}
use Rattle.std.specs.List.{list_any}
use Rattle.drawing_types.specs.declared.shape.Side.TheVariants.{North, East, South}
use Rattle.drawing_types.specs.Shapes.{is_side}
use Rattle.level_model.specs.Stage.{dock_lane, loop_lane}
use Rattle.level_model.specs.declared.table.EndAt.{EndAt}
use Rattle.level_model.specs.declared.table.LoopAt.{LoopAt}
use Rattle.level_model.specs.declared.table.ChildAt.{ChildAt}
use Rattle.level_model.specs.declared.table.Table.{Table}
use Rattle.level_model.specs.Level.{PlainLevel, PlainPlan, Orders, End, end_at, child_at, is_loop, spoke, spot_of, dock_of, anchor_of_spot}
use Rattle.level_model.specs.Level.{port_place, outline}
use Rattle.level_model.specs.Lanes.{lanes, has_lane, loop_sides}
use Rattle.level_model.specs.Nets.{unit_of, below_top}

abbrev pub end_in : List EndAt → ℕ → EndAt
end_in ends i =
    slice_index_or ends i (record {
      dock = record { node = 0; side = East; offset = pos 0 };
      anchor = record { x = pos 0; y = pos 0 };
      lane = pos 0;
    })

-- the number of an end: two for each edge, its source first
abbrev pub end_number : End → ℕ
end_number n = cond n.at_source (2 * n.edge) (2 * n.edge + 1)

-- an end of an edge as a table has it
abbrev pub end_of : Table → ℕ → Bool → EndAt
end_of t e at_source = end_in t.ends (end_number (end_at e at_source))

abbrev pub loop_in : List LoopAt → ℕ → LoopAt
loop_in loops e = slice_index_or loops e (record { north = pos 0; south = pos 0 })

abbrev pub child_in : List ChildAt → ℕ → ChildAt
child_in children c =
    slice_index_or children c
    (record { unit = 0; outline = record { x = pos 0; y = pos 0; width = pos 0; height = pos 0 }; ports = []; north = 0; south = 0 })

-- an end: its dock, its anchor from the corner of its child's box, and the height of its dock's lane, where the dock has one
pub record IsEndAt (l : PlainLevel) (p : PlainPlan) (o : Orders) (n : End) (v : EndAt) : Type 0 where
  pub dock : v.dock ≡ dock_of l p o n
  pub anchor : v.anchor ≡ anchor_of_spot l o (spoke l n).child (spot_of l p n)
  pub lane : IsTrue (has_lane l p o (spoke l n).child (dock_of l p o n)) → v.lane ≡ below_top l p o (dock_lane (dock_of l p o n))

-- a self-loop: the heights of its lanes
pub record IsLoopAt (l : PlainLevel) (p : PlainPlan) (o : Orders) (e : ℕ) (v : LoopAt) : Type 0 where
  pub north : IsTrue (list_any (is_side North) (loop_sides l p o e)) → v.north ≡ below_top l p o (loop_lane e North)
  pub south : IsTrue (list_any (is_side South) (loop_sides l p o e)) → v.south ≡ below_top l p o (loop_lane e South)

-- a child: its unit, its outline and its ports from the corner of its box, and how many lanes it has above and below
pub record IsChildAt (l : PlainLevel) (p : PlainPlan) (o : Orders) (c : ℕ) (v : ChildAt) : Type 0 where
  pub unit : v.unit ≡ unit_of p c
  pub outline_is : v.outline ≡ outline l p o c
  pub as_many : length v.ports ≡ length (child_at l c).ports
  pub ports : (k : ℕ) → k < length (child_at l c).ports → slice_index_or v.ports k (record { x = pos 0; y = pos 0 }) ≡ port_place l p o c k
  pub north : v.north ≡ length (lanes l p o c North)
  pub south : v.south ≡ length (lanes l p o c South)

-- the table holds each child, each edge's source end and target end, and each self-loop
pub record IsTable (l : PlainLevel) (p : PlainPlan) (o : Orders) (t : Table) : Type 0 where
  pub child_count : length t.children ≡ length l.children
  pub end_count : length t.ends ≡ 2 * length l.edges
  pub loop_count : length t.loops ≡ length l.edges
  pub children : (c : ℕ) → c < length l.children → IsChildAt l p o c (child_in t.children c)
  pub sources : (e : ℕ) → e < length l.edges → IsEndAt l p o (end_at e true) (end_in t.ends (2 * e))
  pub targets : (e : ℕ) → e < length l.edges → IsEndAt l p o (end_at e false) (end_in t.ends (2 * e + 1))
  pub loops : (e : ℕ) → e < length l.edges → IsTrue (is_loop l e) → IsLoopAt l p o e (loop_in t.loops e)
