-- The rules for the routes of a level's drawing.
use Rattle.std.specs.Prelude.{◌≢◌, ℕ, ◌<◌, Bool, true, false, List, length}
use Rattle.drawing_types.specs.declared.shape.Point.{Point}
use Rattle.drawing_types.specs.declared.shape.Dock.{Dock}
use Rattle.elk_doc.specs.Drawing.{point_in, points_of}
use Rattle.elk_doc.specs.Route.{IsRoute}
use Rattle.elk_doc.specs.Clear.{IsClear}
use Rattle.elk_doc.specs.Sharing.{DocksShare, PathsShare}
use Rattle.level_model.specs.Level.{PlainLevel, PlainPlan, Orders, end_at, spoke, dock_of}
use Rattle.level_model.specs.FromPlan.{LevelDrawing, IsDrawnFrom, anchor, section_at}
use Rattle.level_model.specs.Apart.{drawn_box, drawn_outline}
use Rattle.level_model.specs.Ready.{IsReady}

-- the points of an edge's route, from its source to its target
abbrev pub route_path : LevelDrawing → ℕ → List Point
route_path d e = points_of (section_at d e)

abbrev pub route_count : LevelDrawing → ℕ → ℕ
route_count d e = length (route_path d e)

abbrev pub route_point : LevelDrawing → ℕ → ℕ → Point
route_point d e i = point_in (route_path d e) i

-- the node of an edge's source or target, and its dock there
abbrev pub end_child : PlainLevel → ℕ → Bool → ℕ
end_child l e at_source = (spoke l (end_at e at_source)).child

abbrev pub end_dock : PlainLevel → PlainPlan → Orders → ℕ → Bool → Dock
end_dock l p o e at_source = dock_of l p o (end_at e at_source)

-- the route of an edge leads from anchor to anchor
abbrev pub KeepsRoute : PlainLevel → PlainPlan → Orders → LevelDrawing → ℕ → Type 0
KeepsRoute l p o d e =
    IsRoute (section_at d e) (anchor l p o d (end_at e true)) (anchor l p o d (end_at e false)) (dock_of l p o (end_at e true))
    (dock_of l p o (end_at e false))

-- the route of an edge keeps clear of a child
abbrev pub KeepsClear : PlainLevel → LevelDrawing → ℕ → ℕ → Type 0
KeepsClear l d e c = IsClear (route_path d e) (end_child l e true) (end_child l e false) c (drawn_outline l d c) (drawn_box l d c)

-- where the routes of two edges share a piece, the edges share a dock
abbrev pub KeepsSharing : PlainLevel → PlainPlan → Orders → LevelDrawing → ℕ → ℕ → Type 0
KeepsSharing l p o d e f = PathsShare (route_path d e) (route_path d f) → DocksShare (end_dock l p o e) (end_dock l p o f)

pub record RoutesKept (l : PlainLevel) (p : PlainPlan) (o : Orders) (d : LevelDrawing) : Type 0 where
  pub routes : (e : ℕ) → e < length l.edges → KeepsRoute l p o d e
  pub clear : (e c : ℕ) → e < length l.edges → c < length l.children → KeepsClear l d e c
  pub sharing : (e f : ℕ) → e < length l.edges → f < length l.edges → e ≢ f → KeepsSharing l p o d e f

-- what is drawn from a plan keeps the rules
abbrev pub RoutesAreKept : Type 0
RoutesAreKept =
    (l : PlainLevel) (p : PlainPlan) (o : Orders) (d : LevelDrawing) (layers : List ℕ) → IsReady l p o layers
    → IsDrawnFrom l p o d → RoutesKept l p o d
