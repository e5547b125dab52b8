-- How often the nets of a gap cross where they are drawn.
use Rattle.std.specs.Prelude.{◌≡◌, ℕ, ◌+◌, ◌<◌, ◌&&◌, Bool, true, false, List, [], ◌∷◌, pos, ◌<ℤ◌, length}
use Rattle.drawing_types.specs.declared.shape.Point.{Point}
use Rattle.net_routes.specs.declared.Pin.{Pin}
use Rattle.net_routes.specs.Pieces.{slot, net_at}
use Rattle.net_routes.specs.GapFree.{GapFree, HasPin}
use Rattle.net_routes.specs.Crossings.{is_over, one}
use Rattle.net_routes.specs.Uncrossed.{crossed}
use Rattle.route_lines.specs.Points.{PlainGap, stand, net_points}

-- Of two segments that are parallel to an axis, the upright one from a to b and the horizontal one from c to d cross: each passes
-- strictly between the ends of the other.
unfoldable pub crosses : Point → Point → Point → Point → Bool
crosses a b c d = is_over c.x d.x a.x && is_over a.y b.y c.y

-- a number for each segment of a path, all together
unfoldable pub sum_segments : (Point → Point → ℕ) → List Point → ℕ
sum_segments f [] = 0
sum_segments f (a ∷ []) = 0
sum_segments f (a ∷ b ∷ ps) = f a b + sum_segments f (b ∷ ps)

-- how often upright segments of the first path cross horizontal ones of the second
unfoldable pub uprights_cross : List Point → List Point → ℕ
uprights_cross ps qs = sum_segments (λ a b. sum_segments (λ c d. one (crosses a b c d)) qs) ps

-- how often two paths cross whose segments are parallel to an axis
unfoldable pub paths_cross : List Point → List Point → ℕ
paths_cross ps qs = uprights_cross ps qs + uprights_cross qs ps

-- Each slot stands right of the one before it, and strictly within each border at which a net has a pin.
pub record IsSpread (g : PlainGap) : Type 0 where
  pub step : pos 0 <ℤ g.step
  pub left : (k s : ℕ) (p : Pin) → k < length g.nets → HasPin (net_at g.nets k) p → p.on_left ≡ true → s < g.count
      → g.left <ℤ stand g (slot s)
  pub right : (k s : ℕ) (p : Pin) → k < length g.nets → HasPin (net_at g.nets k) p → p.on_left ≡ false → s < g.count
      → stand g (slot s) <ℤ g.right

-- Two nets of a gap cross, where they are drawn, as often as their routes do by their slots.
abbrev pub NetsCrossAsDrawn : Type 0
NetsCrossAsDrawn =
    (g : PlainGap) (j k : ℕ) (from_a to_b : Bool) → GapFree g.nets g.count g.routes → IsSpread g → j < length g.nets
    → k < length g.nets → paths_cross (net_points g j from_a) (net_points g k to_b) ≡ crossed g.nets g.routes j k
