-- What the nets of a level are read off: its children and edges, its units and links, their tops, the edges that are reversed
-- and the table of its docks, anchors and lanes.
use Rattle.std.specs.Prelude.{ℕ, ◌<◌, ◌≤◌, ◌^◌, List, ℤ, pos, ◌+ℤ◌, ◌<ℤ◌, length}
use Rattle.elk_layers.specs.declared.units.Layered.{Layered}
use Rattle.elk_layers.specs.Layered.{Plain, plain, unit_at}
use Rattle.elk_layers.specs.Lines.{top_of}
use Rattle.level_model.specs.declared.level.LevelIn.{LevelIn}
use Rattle.level_model.specs.declared.table.Table.{Table}
use Rattle.level_model.specs.Level.{PlainLevel, PlainPlan, Orders}
use Rattle.level_model.specs.Conditions.{plain_level}
use Rattle.level_model.specs.Table.{IsTable}
use Rattle.level_model.specs.Ready.{IsReady}

pub record Parts : Type 0 where
  pub level : PlainLevel
  pub layered : Plain
  pub tops : List ℤ
  pub reversed : List ℕ
  pub table : Table

abbrev pub parts : LevelIn → Layered → List ℤ → List ℕ → Table → Parts
parts level layered tops reversed table =
    record { level = plain_level level; layered = plain layered; tops = tops; reversed = reversed; table = table }

-- the plan that they belong to, with these rows
abbrev pub plan_of : Parts → List (List ℕ) → PlainPlan
plan_of s rows =
    record { layers = s.layered.layers; layered = s.layered; rows = rows; tops = s.tops; reversed = s.reversed }

-- a drawing can be made from the plan, and the table is that of the level, under the orders of its sides
pub record ArePlanned (s : Parts) (rows : List (List ℕ)) (o : Orders) (layers : List ℕ) : Type 0 where
  pub ready : IsReady s.level (plan_of s rows) o layers
  pub table : IsTable s.level (plan_of s rows) o s.table

-- they are so for some rows, orders and layers
pub record HasPlan (s : Parts) : Type 0 where
  pub rows : List (List ℕ)
  pub orders : Orders
  pub layers : List ℕ
  pub planned : ArePlanned s rows orders layers

-- each unit ends above 2^49
abbrev pub EndAbove : Parts → Type 0
EndAbove s =
    (u : ℕ) → u < length s.layered.units → (top_of s.tops u +ℤ (unit_at s.layered.units u).height) <ℤ pos (2 ^ 49)

-- what is asked of a level whose gaps are wanted
pub record IsGiven (s : Parts) : Type 0 where
  pub few_layers : s.layered.layers ≤ 2048
  pub bottoms : EndAbove s
  pub plan : HasPlan s
