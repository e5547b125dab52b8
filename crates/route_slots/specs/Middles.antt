-- Heights at which the two segments of a split net meet.
use Rattle.std.specs.Prelude.{◌≡◌, ◌⊎◌, ℕ, ◌+◌, ◌<◌, Bool, true, false, List, ℤ, pos, ◌+ℤ◌, ◌≤ℤ◌, length, slice_index_or}
use Rattle.std.specs.Int.{int_min, int_max}
use Rattle.std.specs.Ordering.{int_cmp}
use Rattle.std.specs.BTreeSet.{BTreeSet, contains}
use Rattle.net_routes.specs.declared.Net.{Net}
use Rattle.route_slots.specs.declared.middles.Height.{Height}
use Rattle.net_routes.specs.Pieces.{net_at}
use Rattle.net_routes.specs.GapFree.{IsAtHeight, IsNearPins}

abbrev pub height_at : List Height → ℕ → Height
height_at hs k = slice_index_or hs k (record { value = pos 0 })

-- each net has a height, that of no pin and of no other net, and near the pins
pub record AreMiddles (nets : List Net) (hs : List Height) : Type 0 where
  pub len : length hs ≡ length nets
  pub no_pin : (j k : ℕ) → j < length nets → k < length nets → IsAtHeight (net_at nets j) (height_at hs k).value → ⊥
  pub alone : (j k : ℕ) → j < length nets → k < length nets → (height_at hs j).value ≡ (height_at hs k).value → j ≡ k
  pub near : (k : ℕ) → k < length nets → IsNearPins nets (height_at hs k).value

-- no height of a pin is above this, and that of some pin is not below it
pub record IsTop (nets : List Net) (top : ℤ) : Type 0 where
  pub above : (k : ℕ) → k < length nets → ((net_at nets k).a.height ≤ℤ top) × ((net_at nets k).b.height ≤ℤ top)
  pub reached : 0 < length nets → (k : ℕ) × (k < length nets) × (top ≤ℤ int_max (net_at nets k).a.height (net_at nets k).b.height)

-- above all pins, another height for each net
abbrev pub above_top : ℤ → ℕ → ℤ
above_top top k = top +ℤ pos (k + 1)

abbrev pub holds : BTreeSet ℤ → ℤ → Bool
holds taken h = contains int_cmp taken h

-- the heights of the first nets' pins are taken
abbrev pub HoldPins : List Net → ℕ → BTreeSet ℤ → Type 0
HoldPins nets n taken = (k : ℕ) → k < n → (holds taken (net_at nets k).a.height ≡ true) × (holds taken (net_at nets k).b.height ≡ true)

-- the height was free, lies between the net's pins, and is taken now
pub record IsTaken (old new : BTreeSet ℤ) (n : Net) (h : ℤ) : Type 0 where
  pub free : holds old h ≡ false
  pub low : int_min n.a.height n.b.height ≤ℤ h
  pub high : h ≤ℤ int_max n.a.height n.b.height
  pub taken : holds new h ≡ true

-- the height of a net is the one above, or between its pins
abbrev pub IsMiddle : BTreeSet ℤ → BTreeSet ℤ → Net → ℤ → ℤ → Type 0
IsMiddle old new n above h = (h ≡ above) ⊎ IsTaken old new n h
