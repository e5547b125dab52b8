-- What is said of the children and ends of a part is what is said of them in the level.
use Rattle.std.specs.Prelude.{◌≡◌, ℕ, ◌<◌, Bool, List, length}
use Rattle.drawing_types.specs.declared.shape.Dock.{Dock}
use Rattle.drawing_types.specs.declared.shape.Side.{Side}
use Rattle.level_model.specs.Conditions.{IsLevel}
use Rattle.level_model.specs.Level.{PlainLevel, PlainPlan, Orders, anchor_of_spot, child_at, dock_of, end_at, holds, outline, port_place}
use Rattle.level_model.specs.Level.{spoke, spot_of}
use Rattle.level_model.specs.PortsKept.{port_side, spread_count}
use Rattle.level_parts.specs.Divided.{child_number, edge_keys, edge_number, members, part_level}
use Rattle.level_parts.specs.Parts.{AreParts}

-- Two plans, that of part k and that of the level, turn the same edges round, and have the same orders of the sides of each
-- child of the part.
pub record AreAlike (l : PlainLevel) (numbers : List ℕ) (k : ℕ) (part plan : PlainPlan) (inner outer : Orders) : Type 0 where
  pub is_reversed : (j : ℕ) → j < length (members (edge_keys l numbers) k)
      → holds part.reversed j ≡ holds plan.reversed (edge_number l numbers k j)
  pub orders : (i : ℕ) (side : Side) → i < length (members numbers k) → inner i side ≡ outer (child_number numbers k i) side

-- a dock of the part, at the number of its child in the level
abbrev pub numbered_dock : List ℕ → ℕ → Dock → Dock
numbered_dock numbers k d = record { node = child_number numbers k d.node; side = d.side; offset = d.offset }

-- a child of the part is that of the level, with its ports and its outline
pub record IsSameChild (l : PlainLevel) (numbers : List ℕ) (k : ℕ) (part plan : PlainPlan) (inner outer : Orders) (i : ℕ) : Type 0 where
  pub child : child_at (part_level l numbers k) i ≡ child_at l (child_number numbers k i)
  pub side : (q : ℕ) → port_side (part_level l numbers k) part i q ≡ port_side l plan (child_number numbers k i) q
  pub port : (q : ℕ) → port_place (part_level l numbers k) part inner i q ≡ port_place l plan outer (child_number numbers k i) q
  pub outline_is : outline (part_level l numbers k) part inner i ≡ outline l plan outer (child_number numbers k i)
  pub spread : (side : Side) → spread_count (part_level l numbers k) part i side ≡ spread_count l plan (child_number numbers k i) side

-- an end of an edge of the part is that of the level: its child and its port, its dock and its anchor
pub record IsSameEnd (l : PlainLevel) (numbers : List ℕ) (k : ℕ) (part plan : PlainPlan) (inner outer : Orders) (j : ℕ)
    (t : Bool) : Type 0 where
  pub child_in : (spoke (part_level l numbers k) (end_at j t)).child < length (members numbers k)
  pub child : child_number numbers k (spoke (part_level l numbers k) (end_at j t)).child
      ≡ (spoke l (end_at (edge_number l numbers k j) t)).child
  pub port : (spoke (part_level l numbers k) (end_at j t)).port ≡ (spoke l (end_at (edge_number l numbers k j) t)).port
  pub dock : numbered_dock numbers k (dock_of (part_level l numbers k) part inner (end_at j t))
      ≡ dock_of l plan outer (end_at (edge_number l numbers k j) t)
  pub anchor :
      anchor_of_spot (part_level l numbers k) inner (spoke (part_level l numbers k) (end_at j t)).child
      (spot_of (part_level l numbers k) part (end_at j t))
      ≡ anchor_of_spot l outer (spoke l (end_at (edge_number l numbers k j) t)).child
      (spot_of l plan (end_at (edge_number l numbers k j) t))

-- So it is for all children and all ends of the part.
pub record SaysTheSame (l : PlainLevel) (numbers : List ℕ) (k : ℕ) (part plan : PlainPlan) (inner outer : Orders) : Type 0 where
  pub children : (i : ℕ) → i < length (members numbers k) → IsSameChild l numbers k part plan inner outer i
  pub ends : (j : ℕ) (t : Bool) → j < length (members (edge_keys l numbers) k) → IsSameEnd l numbers k part plan inner outer j t

abbrev pub PartsSayTheSame : Type 0
PartsSayTheSame =
    (l : PlainLevel) (numbers : List ℕ) (k : ℕ) (part plan : PlainPlan) (inner outer : Orders)
    → IsLevel l → AreParts l numbers → AreAlike l numbers k part plan inner outer → SaysTheSame l numbers k part plan inner outer

-- and each part is a level
abbrev pub PartsAreLevels : Type 0
PartsAreLevels = (l : PlainLevel) (numbers : List ℕ) (k : ℕ) → IsLevel l → AreParts l numbers → IsLevel (part_level l numbers k)
