-- The routes of a drawing are made of the four kinds of pieces.
use Rattle.std.specs.Prelude.{ℕ, ◌<◌, List, length}
use Rattle.drawing_types.specs.declared.shape.Point.{Point}
use Rattle.route_lines.specs.Tidied.{IsSectionOf}
use Rattle.level_model.specs.Stage.{Stands}
use Rattle.level_model.specs.Law.{IsLawful}
use Rattle.level_model.specs.Level.{PlainLevel, PlainPlan, Orders}
use Rattle.level_model.specs.FromPlan.{LevelDrawing, IsDrawnFrom, section_at}
use Rattle.level_model.specs.Drawing.{stage}
use Rattle.level_model.specs.Ready.{IsReady}

-- each section holds the points of a lawful route of its edge
abbrev pub HasLawfulRoutes : PlainLevel → PlainPlan → Orders → LevelDrawing → Type 0
HasLawfulRoutes l p o d =
    (e : ℕ) → e < length l.edges → (points : List Point) × IsSectionOf points (section_at d e) × IsLawful (stage l p o d) e points

-- Where all that is drawn stands as it should, all routes are lawful.
abbrev pub RoutesAreLawful : Type 0
RoutesAreLawful =
    (l : PlainLevel) (p : PlainPlan) (o : Orders) (d : LevelDrawing) (layers : List ℕ) → IsReady l p o layers
    → IsDrawnFrom l p o d → Stands (stage l p o d)
    → HasLawfulRoutes l p o d
