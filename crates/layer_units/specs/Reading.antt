-- Heights and pins, read off a table.
use Rattle.std.specs.Prelude.{◌≡◌, ℕ, ◌*◌, ◌<◌, ◌≤◌, ◌^◌, cond, Bool, false, true, not, ◌||◌, List, ℤ, pos, ◌+ℤ◌, ◌-ℤ◌, Option, None}
use Rattle.std.specs.Prelude.{Some, IfSome, is_some, length, slice_index_or}
use Rattle.elk_doc.specs.declared.document.Spacing.{Spacing}
use Rattle.drawing_types.specs.declared.shape.Side.{Side}
use Rattle.elk_doc.specs.Sound.{IsSoundSpacing}
use Rattle.elk_layers.specs.declared.units.Unit.{Unit as LayerUnit}
use Rattle.elk_layers.specs.declared.units.Link.{Link}
use Rattle.elk_layers.specs.Layered.{link_at, unit_at}
use Rattle.self_loops.specs.Loops.{is_upright}
use Rattle.level_model.specs.declared.table.EndAt.{EndAt}
use Rattle.level_model.specs.declared.table.ChildAt.{ChildAt}
use Rattle.level_model.specs.declared.table.Table.{Table}
use Rattle.level_model.specs.Level.{PlainLevel}
use Rattle.level_model.specs.Nets.{inverts}
use Rattle.level_model.specs.Table.{child_in, end_in, end_of}
use Rattle.dock_table.specs.Bounds.{AreNumbersIn}
use Rattle.level_model.specs.Lanes.{room}

-- a child's unit with room for its outline and its lanes; a lane of a long edge stays as it is
abbrev pub roomy : Spacing → ChildAt → LayerUnit → LayerUnit
roomy s v u =
    record {
      layer = u.layer;
      child = u.child;
      height = room s v.north +ℤ v.outline.height +ℤ room s v.south;
      body_top = room s v.north;
      body_height = v.outline.height;
      north = v.north;
      south = v.south;
    }

abbrev pub unit_for : Spacing → List ChildAt → LayerUnit → Option ℕ → LayerUnit
unit_for s children u None = u
unit_for s children u (Some c) = roomy s (child_in children c) u

unfoldable pub unit_with : Spacing → List ChildAt → LayerUnit → LayerUnit
unit_with s children u = unit_for s children u u.child

-- an end of a link lies on the lane of its dock where the dock lies north or south or is inverted
abbrev pub is_on_lane : Side → Bool → Bool
is_on_lane side enters = is_upright side || inverts side enters

-- the height of an end's anchor below the top of its unit, and that of the end of a link
abbrev pub anchor_below : Spacing → ChildAt → EndAt → ℤ
anchor_below s c v = (room s c.north -ℤ c.outline.y) +ℤ v.anchor.y

unfoldable pub pin_of : Spacing → Table → EndAt → Bool → ℤ
pin_of s t v enters = cond (is_on_lane v.dock.side enters) v.lane (anchor_below s (child_in t.children v.dock.node) v)

-- the same at a unit; at a lane of a long edge it is 0
unfoldable pub pin_at : Spacing → Table → LayerUnit → ℕ → Bool → Bool → ℤ
pin_at s t u e at_source enters = cond (is_some u.child) (pin_of s t (end_of t e at_source) enters) (pos 0)

abbrev pub mark_at : List Bool → ℕ → Bool
mark_at marks e = slice_index_or marks e false

-- a link with pins: it leaves its tail where the oriented edge does, and enters its head where the edge does
unfoldable pub link_with : Spacing → Table → List LayerUnit → List Bool → Link → Link
link_with s t units marks k =
    record {
      edge = k.edge;
      tail = k.tail;
      head = k.head;
      tail_rank = k.tail_rank;
      head_rank = k.head_rank;
      tail_at = pin_at s t (unit_at units k.tail) k.edge (not (mark_at marks k.edge)) false;
      head_at = pin_at s t (unit_at units k.head) k.edge (mark_at marks k.edge) true;
    }

-- a table from which heights and pins can be read, with a mark for each edge
pub record IsReadable (l : PlainLevel) (t : Table) (marks : List Bool) : Type 0 where
  pub spacing : IsSoundSpacing l.spacing
  pub few_edges : length l.edges ≤ 2048
  pub as_many_children : length t.children ≡ length l.children
  pub as_many_ends : length t.ends ≡ 2 * length l.edges
  pub as_many_marks : length marks ≡ length l.edges
  pub numbers : AreNumbersIn t
  pub north : (c : ℕ) → c < length t.children → (child_in t.children c).north ≤ 2 ^ 17
  pub south : (c : ℕ) → c < length t.children → (child_in t.children c).south ≤ 2 ^ 17
  pub docks : (i : ℕ) → i < length t.ends → (end_in t.ends i).dock.node < length t.children

-- a unit of no child or of one that the table has, and a link between units of an edge that the level has
abbrev pub HasChildIn : Table → LayerUnit → Type 0
HasChildIn t u = IfSome u.child (λ c. c < length t.children)

pub record IsLinkIn (l : PlainLevel) (units : List LayerUnit) (k : Link) : Type 0 where
  pub edge : k.edge < length l.edges
  pub tail : k.tail < length units
  pub head : k.head < length units

-- of some units and links the first n have their heights and pins, and the others are as they were
pub record AreFittedUnits (s : Spacing) (children : List ChildAt) (units : List LayerUnit) (n : ℕ) (fitted : List LayerUnit) : Type 0 where
  pub as_many : length fitted ≡ length units
  pub each : (u : ℕ) → u < n → unit_at fitted u ≡ unit_with s children (unit_at units u)
  pub rest : (u : ℕ) → n ≤ u → unit_at fitted u ≡ unit_at units u

pub record AreFittedLinks (s : Spacing) (t : Table) (units : List LayerUnit) (marks : List Bool) (links : List Link) (n : ℕ)
    (fitted : List Link) : Type 0 where
  pub as_many : length fitted ≡ length links
  pub each : (k : ℕ) → k < n → link_at fitted k ≡ link_with s t units marks (link_at links k)
  pub rest : (k : ℕ) → n ≤ k → link_at fitted k ≡ link_at links k
