-- How often the nets of a gap cross in the drawing of a level.
use Rattle.std.specs.Prelude.{◌≡◌, ℕ, ◌<◌, Bool, List, length}
use Rattle.route_lines.specs.Points.{gap_in, net_points}
use Rattle.crossing_laws.specs.Crossed.{paths_cross}
use Rattle.net_routes.specs.Uncrossed.{crossed}
use Rattle.level_model.specs.Level.{PlainLevel, PlainPlan, Orders}
use Rattle.level_model.specs.FromPlan.{IsDrawnFrom, LevelDrawing}
use Rattle.level_model.specs.Ready.{IsReady}

-- In what is drawn from a plan, two nets of a gap cross as often as their routes do by their slots.
abbrev pub DrawnNetsCross : Type 0
DrawnNetsCross =
    (l : PlainLevel) (p : PlainPlan) (o : Orders) (d : LevelDrawing) (layers : List ℕ) (g j k : ℕ) (from_a to_b : Bool)
    → IsReady l p o layers → IsDrawnFrom l p o d → g < length d.gaps → j < length (gap_in d.gaps g).nets
    → k < length (gap_in d.gaps g).nets
    → paths_cross (net_points (gap_in d.gaps g) j from_a) (net_points (gap_in d.gaps g) k to_b)
    ≡ crossed (gap_in d.gaps g).nets (gap_in d.gaps g).routes j k
