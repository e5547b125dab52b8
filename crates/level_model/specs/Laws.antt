-- What stands in the drawing of a level.
use Rattle.std.specs.Prelude.{◌≡◌, ℕ, ◌<◌, Bool, List, length}
use Rattle.level_model.specs.Stage.{InRow, InGap, IsInner, InColumn, ChildStands, EndStands, LinesStand, NetsStand, Stands}
use Rattle.level_model.specs.Level.{PlainLevel, PlainPlan, Orders}
use Rattle.level_model.specs.FromPlan.{LevelDrawing, IsDrawnFrom}
use Rattle.level_model.specs.Drawing.{stage}
use Rattle.level_model.specs.Ready.{IsReady}

-- columns and gaps stand from left to right, and each gap's slots between its columns
pub record HasColumns (l : PlainLevel) (p : PlainPlan) (o : Orders) (d : LevelDrawing) : Type 0 where
  pub row : InRow (stage l p o d)
  pub gap : (g : ℕ) → g < length d.gaps → InGap (stage l p o d) g
  pub inner : (g : ℕ) → g < length d.gaps → IsInner (stage l p o d) g

abbrev pub ColumnsStand : Type 0
ColumnsStand =
    (l : PlainLevel) (p : PlainPlan) (o : Orders) (d : LevelDrawing) (layers : List ℕ) → IsReady l p o layers
    → IsDrawnFrom l p o d → HasColumns l p o d

-- the units of one layer stand one above the other, and no unit is that of two children
pub record HasUnits (l : PlainLevel) (p : PlainPlan) (o : Orders) (d : LevelDrawing) : Type 0 where
  pub column : InColumn (stage l p o d)
  pub one_child : (b c : ℕ) → ChildStands (stage l p o d) b → ChildStands (stage l p o d) c
      → (stage l p o d).unit_of b ≡ (stage l p o d).unit_of c → b ≡ c

abbrev pub UnitsStand : Type 0
UnitsStand = (l : PlainLevel) (p : PlainPlan) (o : Orders) (d : LevelDrawing) (layers : List ℕ) → IsReady l p o layers → HasUnits l p o d

-- all children and all ends of edges stand
pub record HasEnds (l : PlainLevel) (p : PlainPlan) (o : Orders) (d : LevelDrawing) : Type 0 where
  pub children : (c : ℕ) → c < length l.children → ChildStands (stage l p o d) c
  pub ends : (e : ℕ) (t : Bool) → e < length l.edges → EndStands (stage l p o d) e t

abbrev pub EndsStand : Type 0
EndsStand =
    (l : PlainLevel) (p : PlainPlan) (o : Orders) (d : LevelDrawing) (layers : List ℕ) → IsReady l p o layers
    → IsDrawnFrom l p o d → HasEnds l p o d

-- lines lie in their units, clear of outlines, no two at one place
abbrev pub DrawnLinesStand : Type 0
DrawnLinesStand =
    (l : PlainLevel) (p : PlainPlan) (o : Orders) (d : LevelDrawing) (layers : List ℕ) → IsReady l p o layers → LinesStand (stage l p o d)

-- the nets of each gap keep apart, and each pin is the end of a line of the net's edge
abbrev pub DrawnNetsStand : Type 0
DrawnNetsStand =
    (l : PlainLevel) (p : PlainPlan) (o : Orders) (d : LevelDrawing) (layers : List ℕ) → IsReady l p o layers → IsDrawnFrom l p o d
    → (g : ℕ) → g < length d.gaps → NetsStand (stage l p o d) g

-- everything stands where it should
abbrev pub StageStands : Type 0
StageStands =
    (l : PlainLevel) (p : PlainPlan) (o : Orders) (d : LevelDrawing) (layers : List ℕ) → IsReady l p o layers
    → IsDrawnFrom l p o d → Stands (stage l p o d)
