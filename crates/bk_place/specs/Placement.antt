-- The lines of a placement: those of one sweep, or of the first sweep of least height.
use Rattle.std.specs.Prelude.{◌≡◌, ℕ, ◌<◌, ◌≤◌, ℤ, ◌≤ℤ◌, ◌<ℤ◌, List, Option, Some, None}
use Rattle.drawing_types.specs.declared.sweep.Sweep.{Sweep}
use Rattle.drawing_types.specs.declared.sweep.Sweep.TheVariants.{LeftUp, LeftDown, RightUp, RightDown}
use Rattle.elk_layers.specs.Layered.{Plain}
use Rattle.elk_layers.specs.Lines.{AreLeastLines, extent}
use Rattle.unit_blocks.specs.Constraints.{EndsWithinStack}

-- the order in which sweeps of one height are preferred
abbrev pub rank_of : Sweep → ℕ
rank_of LeftUp = 0
rank_of LeftDown = 1
rank_of RightUp = 2
rank_of RightDown = 3

-- the least lines of a sweep, of which no other sweep's are less high, nor any earlier sweep's as low
pub record IsFirstLowest (l : Plain) (rows : List (List ℕ)) (tops : List ℤ) : Type 0 where
  pub sweep : Sweep
  pub are_least : AreLeastLines l rows sweep tops
  pub lowest : (other : Sweep) (others : List ℤ) → AreLeastLines l rows other others → extent l tops ≤ℤ extent l others
  pub earliest : (other : Sweep) (others : List ℤ) → AreLeastLines l rows other others → rank_of other < rank_of sweep
      → extent l tops <ℤ extent l others

-- the lines of the fixed sweep, or of the first sweep of least height
abbrev pub AreLinesOf : Plain → List (List ℕ) → Option Sweep → List ℤ → Type 0
AreLinesOf l rows (Some sweep) tops = AreLeastLines l rows sweep tops
AreLinesOf l rows None tops = IsFirstLowest l rows tops

-- the same among the sweeps of some ranks alone
pub record IsFirstAmong (l : Plain) (rows : List (List ℕ)) (from to : ℕ) (tops : List ℤ) (height : ℤ) : Type 0 where
  pub sweep : Sweep
  pub low : from ≤ rank_of sweep
  pub high : rank_of sweep < to
  pub are_least : AreLeastLines l rows sweep tops
  pub within : EndsWithinStack l tops
  pub height_is : height ≡ extent l tops
  pub lowest : (other : Sweep) (others : List ℤ) → from ≤ rank_of other → rank_of other < to → AreLeastLines l rows other others
      → height ≤ℤ extent l others
  pub earliest : (other : Sweep) (others : List ℤ) → from ≤ rank_of other → AreLeastLines l rows other others
      → rank_of other < rank_of sweep → height <ℤ extent l others
