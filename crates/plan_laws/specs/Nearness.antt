-- Where the points of traces lie, by the numbers of the gaps, the lanes and the ends.
use Rattle.std.specs.Prelude.{◌≡◌, ℕ, ◌<◌, ◌≤◌, ◌^◌, List, ℤ, pos, neg_ℤ, length}
use Rattle.std.specs.List.{All}
use Rattle.drawing_types.specs.declared.shape.Point.{Point}
use Rattle.elk_doc.specs.Sound.{IsDistance}
use Rattle.drawing_types.specs.Ranges.{IsWithin, IsPlaceWithin}
use Rattle.drawing_types.specs.Ranges.{IsNear}
use Rattle.net_routes.specs.declared.NetRoute.TheVariants.{Two}
use Rattle.net_routes.specs.Pieces.{route_at}
use Rattle.net_routes.specs.GapFree.{StandsIn}
use Rattle.route_lines.specs.declared.Step.{Step}
use Rattle.route_lines.specs.declared.Step.TheVariants.{Lane, Leg}
use Rattle.route_lines.specs.Points.{PlainGap, gap_in, IsTrace, trace_points}

-- a height of a lane, or between the two slots of a split net, lies from -2^51 to 2^51
abbrev pub IsNearHeight : ℤ → Type 0
IsNearHeight h = IsWithin (neg_ℤ (pos (2 ^ 51))) (pos (2 ^ 51)) h

-- an end of a trace lies from -2^52 to 2^52 in both coordinates
abbrev pub IsNearEnd : Point → Type 0
IsNearEnd p = IsPlaceWithin (2 ^ 52) p

-- The first slot of a gap stands from 0 to 2^51, the next ones 1 to 2^20 apart, and there are at most 2^16 of them; the
-- routes stand in these slots, and the heights of its split nets are near.
pub record IsNearGap (g : PlainGap) : Type 0 where
  pub first : IsWithin (pos 0) (pos (2 ^ 51)) g.first
  pub step : IsDistance g.step
  pub count : g.count ≤ 2 ^ 16
  pub slots_in : (k s : ℕ) → k < length g.nets → StandsIn (route_at g.routes k) s → s < g.count
  pub heights : (k s : ℕ) (h : ℤ) (t : ℕ) → k < length g.nets → route_at g.routes k ≡ Two s h t → IsNearHeight h

-- each gap is near
abbrev pub AreNearGaps : List PlainGap → Type 0
AreNearGaps gaps = (g : ℕ) → g < length gaps → IsNearGap (gap_in gaps g)

-- a lane's height is near
abbrev pub IsNearStep : Step → Type 0
IsNearStep (Lane h) = IsNearHeight h
IsNearStep (Leg g n from_a) = Unit {0}

-- Where the ends, the gaps and the steps of a trace are near, its points are coordinates of a drawing.
abbrev pub PointsAreNear : Type 0
PointsAreNear =
    (gaps : List PlainGap) (start end : Point) (steps : List Step) → IsTrace gaps steps → AreNearGaps gaps
    → All IsNearStep steps → IsNearEnd start → IsNearEnd end
    → All IsNear (trace_points gaps start steps end)
