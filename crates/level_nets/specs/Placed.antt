-- The widths of columns, and the borders and slots of gaps.
use Rattle.std.specs.Prelude.{◌≡◌, ℕ, ◌+◌, ◌-◌, ◌<◌, List, [], ℤ, pos, ◌+ℤ◌, length, slice_index_or}
use Rattle.std.specs.List.{range_with_len}
use Rattle.route_lines.specs.Points.{PlainGap, gap_in}
use Rattle.level_model.specs.FromPlan.{AreSlots}
use Rattle.level_model.specs.Nets.{gap_width, first_slot}
use Rattle.level_nets.specs.Parts.{Parts, plan_of}
use Rattle.level_nets.specs.Read.{widest_of, width_of, left_of}

-- the greatest widths among the last n children
abbrev pub AreWidest : Parts → ℕ → List ℤ → Type 0
AreWidest s n widths =
    (r : ℕ) → r < length widths → slice_index_or widths r (pos 0) ≡ widest_of s r (range_with_len (length s.level.children - n) n)

-- the width of each column, and a last 0 for the gap behind the last column
pub record AreWidths (s : Parts) (widths : List ℤ) : Type 0 where
  pub as_many : length widths ≡ s.layered.layers + 1
  pub each : (r : ℕ) → r < length widths → slice_index_or widths r (pos 0) ≡ width_of s r

abbrev pub counts_of : List PlainGap → ℕ → ℕ
counts_of gaps g = (gap_in gaps g).count

-- a gap's borders and slots, and the routes of its nets in the slots that the level asks for
pub record IsPlaced (s : Parts) (number : ℕ) (left : ℤ) (g : PlainGap) : Type 0 where
  pub left_is : g.left ≡ left
  pub first : g.first ≡ left +ℤ first_slot s.level number
  pub step : g.step ≡ s.level.spacing.edge_edge_layers
  pub right : g.right ≡ left +ℤ gap_width s.level (plan_of s []) number g.count
  pub slots : AreSlots s.level.choices.slots g.nets g.count g.routes

-- the first n gaps are placed
pub record HaveBorders (s : Parts) (n : ℕ) (old new : List PlainGap) : Type 0 where
  pub as_many : length new ≡ length old
  pub nets : (g : ℕ) → g < length old → (gap_in new g).nets ≡ (gap_in old g).nets
  pub each : (g : ℕ) → g < n → IsPlaced s g (left_of s (counts_of new) g) (gap_in new g)
