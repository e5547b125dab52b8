-- Depths of nets, each above those of the nets that must stand before it.
use Rattle.std.specs.Prelude.{◌≡◌, ◌↔◌, ◌⊎◌, ℕ, ◌<◌, nat_lt, Bool, true, false, List, ◌||◌, int_lt, length, slice_index_or}
use Rattle.std.specs.Int.{int_min, int_max}
use Rattle.net_routes.specs.declared.Net.{Net}
use Rattle.net_routes.specs.declared.NetRoute.{NetRoute}
use Rattle.net_routes.specs.declared.NetRoute.TheVariants.{One}
use Rattle.route_slots.specs.declared.marks.Mark.{Mark}
use Rattle.net_routes.specs.Pieces.{net_at, route_at}
use Rattle.route_slots.specs.Exchanges.{meets}
use Rattle.route_slots.specs.Marks.{mark_at}
use Rattle.net_routes.specs.GapFree.{IsStraightNet}
use Rattle.net_routes.specs.Uncrossed.{asked, in_order, Precedes}

abbrev pub net_depth : List ℕ → ℕ → ℕ
net_depth depths k = slice_index_or depths k 0

-- a depth for each net, above those of the nets that precede it
pub record AreNetDepths (nets : List Net) (depths : List ℕ) : Type 0 where
  pub len : length depths ≡ length nets
  pub rising : (j k : ℕ) → Precedes nets j k → net_depth depths j < net_depth depths k

-- whether the first net has a pin on the left as high as one of the second's on the right
unfoldable pub conflicts : Net → Net → Bool
conflicts m n = (meets m.a n.a || meets m.a n.b) || (meets m.b n.a || meets m.b n.b)

unfoldable pub stands_first : Net → Net → Bool
stands_first m n = conflicts m n || nat_lt (asked m n) (in_order n m)

-- all of the first net lies at lower heights than all of the second
unfoldable pub is_past : Net → Net → Bool
is_past m n = int_lt (int_max m.a.height m.b.height) (int_min n.a.height n.b.height)

-- the stretches of the two nets have no height in common
abbrev pub KeepApart : Net → Net → Type 0
KeepApart m n = (is_past m n ≡ true) ⊎ (is_past n m ≡ true)

-- the mark of a net that is not split, at this depth
pub record IsDepthMark (n : Net) (depth : ℕ) (m : Mark) : Type 0 where
  pub straight : (m.straight ≡ true) ↔ IsStraightNet n
  pub split : m.split ≡ false
  pub at_a : m.at_a ≡ depth
  pub at_b : m.at_b ≡ depth

pub record AreDepthMarks (nets : List Net) (depths : List ℕ) (ms : List Mark) (n : ℕ) : Type 0 where
  pub len : length ms ≡ n
  pub each : (k : ℕ) → k < n → IsDepthMark (net_at nets k) (net_depth depths k) (mark_at ms k)

-- segments of nets that are not split stand in order of their depths
abbrev pub StandByDepths : List Net → List Mark → List NetRoute → Type 0
StandByDepths nets ms routes =
    (j k s t : ℕ) → j < length nets → k < length nets → route_at routes j ≡ One s → route_at routes k ≡ One t
    → (mark_at ms j).at_a < (mark_at ms k).at_a → s < t
