-- How the reach grows, point by point.
use Rattle.std.specs.Prelude.{List, [], ◌∷◌, Option, Some, None}
use Rattle.std.specs.Int.{int_max, int_min}
use Rattle.drawing_types.specs.declared.shape.Point.{Point}
use Rattle.working_frame.specs.declared.spanning.Reach.{Reach}

-- the reach with one more point
abbrev pub joined : Reach → Point → Reach
joined r p =
    record {
      low = record { x = int_min r.low.x p.x; y = int_min r.low.y p.y };
      high = record { x = int_max r.high.x p.x; y = int_max r.high.y p.y };
    }

-- the reach with more points
unfoldable pub reach_over : Option Reach → List Point → Option Reach
reach_over o [] = o
reach_over None (p ∷ ps) = reach_over (Some (record { low = p; high = p })) ps
reach_over (Some r) (p ∷ ps) = reach_over (Some (joined r p)) ps
