-- Parts that are moved to begin at 0 make the drawing of the plan.
use Rattle.std.proofs.Common.{◌≡◌, ℕ, ◌<◌, Bool, true, false, List, map, length, ℤ, pos, ◌+ℤ◌, ◌-ℤ◌, arith, refl, sym, subst, ap, ◌∙◌}
use Rattle.drawing_types.specs.declared.shape.Point.{Point}
use Rattle.drawing_types.specs.declared.shape.Rect.{Rect}
use Rattle.drawing_types.specs.declared.shape.Size.{Size}
use Rattle.drawing_types.specs.declared.section.Section.{Section}
use Rattle.drawing_types.specs.Shapes.{origin}
use Rattle.drawing_types.proofs.SameShapes.{same_point}
use Rattle.route_lines.specs.Points.{PlainGap}
use Rattle.level_model.specs.Level.{PlainLevel, PlainPlan, Orders, end_at, spoke}
use Rattle.level_model.specs.Nets.{unit_of}
use Rattle.level_model.specs.FromPlan.{LevelDrawing, PlainTrace, IsDrawnFrom}
use Rattle.level_model.specs.Ready.{IsReady}
use Rattle.working_frame.specs.declared.spanning.Reach.{Reach}
use Rattle.working_frame.specs.Reach.{IsReach, reached}
use Rattle.working_frame.specs.Moved.{HasPlaces, moved, moved_point, moved_section}
use Rattle.working_frame.proofs.DrawingMoves.{drawing_moves}
use Rattle.level_draw.specs.declared.parts.Parts.{Parts}
use Rattle.level_draw.specs.Drawing.{IsDrawable, IsTight, outlines_in}
use Rattle.level_draw.specs.Parts.{AreLevelParts, drawn_of}
use Rattle.level_draw.specs.Shifted.{AreShifted}
use Rattle.level_draw.proofs.OutlinesMove.{moved_rect, outlines_move, reach_taken, reached_moves}

-- a drawing of these lists
abbrev drawing : List PlainGap → List PlainTrace → List Point → List (List Point) → List Section → Size → ℤ → ℤ → LevelDrawing
drawing gaps traces boxes ports sections extent left top =
    record { gaps = gaps; traces = traces; boxes = boxes; ports = ports; sections = sections; extent = extent; left = left; top = top }

same_drawing : (gaps gaps' : List PlainGap) (traces traces' : List PlainTrace) (boxes boxes' : List Point) (ports ports' : List (List Point)) (sections sections' : List Section) (extent : Size) (left top : ℤ)
    → gaps ≡ gaps' → traces ≡ traces' → boxes ≡ boxes' → ports ≡ ports' → sections ≡ sections'
    → drawing gaps traces boxes ports sections extent left top ≡ drawing gaps' traces' boxes' ports' sections' extent left top
same_drawing gaps gaps' traces traces' boxes boxes' ports ports' sections sections' extent left top a b c d e = rw (a, b, c, d, e) refl

pub has_places : (l : PlainLevel) (p : PlainPlan) (layers : List ℕ) → IsDrawable l p layers → HasPlaces l p
has_places l p layers drawable =
    record {
      layers = λ c h.
          let unit = (drawable.ready.units.linked.children c h).in_range in
          let layer = drawable.ready.sound.layers_are (unit_of p c) unit in
          let same = drawable.ready.layers_are in
          omega (arith, layer, same);
      ends = λ e t h. end_there e t h;
    }
  where
    end_there : (e : ℕ) (t : Bool) → e < length l.edges → (spoke l (end_at e t)).child < length l.children
    end_there e true h = (drawable.ready.level.edges e h).source.child
    end_there e false h = (drawable.ready.level.edges e h).target.child

module _ (l : PlainLevel) (p : PlainPlan) (layers : List ℕ) (drawable : IsDrawable l p layers) (v w : Parts) (r : Reach) (extent : Size) (parts : AreLevelParts l p v) (reach : IsReach (reached v.outlines.items v.sections.items) r) (shifted : AreShifted r.low.x r.low.y v w)
    (width : extent.width ≡ r.high.x -ℤ r.low.x) (height : extent.height ≡ r.high.y -ℤ r.low.y) where
  abbrev before : LevelDrawing
  before = drawn_of v extent (pos 0) (pos 0)

  abbrev pub after : LevelDrawing
  after = drawn_of w extent (pos 0 +ℤ r.low.x) (pos 0 +ℤ r.low.y)

  same : moved r.low.x r.low.y before ≡ after
  same =
      same_drawing _ _ _ _ _ _ _ _ _ _ extent (pos 0 +ℤ r.low.x) (pos 0 +ℤ r.low.y)
      (sym shifted.gaps) (sym shifted.traces) (sym shifted.boxes) (ap (λ ps. ps.items) (sym shifted.ports)) (sym shifted.sections)

  pub moved_drawn : (o : Orders) (ls : List ℕ) → IsReady l p o ls → IsDrawnFrom l p o after
  moved_drawn o ls ready =
      subst (IsDrawnFrom l p o) same (drawing_moves l p o before r.low.x r.low.y (has_places l p layers drawable) (parts.drawn o ls extent ready))

  moved_points : map (moved_point r.low.x r.low.y) (reached v.outlines.items v.sections.items) ≡ reached (outlines_in l (moved r.low.x r.low.y before)) (moved r.low.x r.low.y before).sections
  moved_points =
      let boxes = (parts.drawn drawable.orders layers extent drawable.ready).box_count in
      sym (reached_moves r.low.x r.low.y v.outlines.items v.sections.items)
      ∙ ap (λ (rs : List Rect). reached (map (moved_rect r.low.x r.low.y) rs) (map (moved_section r.low.x r.low.y) v.sections.items)) (parts.outlines extent)
      ∙ ap (λ (rs : List Rect). reached rs (map (moved_section r.low.x r.low.y) v.sections.items)) (sym (outlines_move l before r.low.x r.low.y boxes))

  pub moved_tight : IsTight l after
  moved_tight =
      subst (λ (d : LevelDrawing). IsReach (reached (outlines_in l d) d.sections) (record { low = origin; high = record { x = extent.width; y = extent.height } })) same
      (subst (λ (q : Point). IsReach (reached (outlines_in l (moved r.low.x r.low.y before)) (moved r.low.x r.low.y before).sections) (record { low = origin; high = q })) (same_point _ _ (sym width) (sym height))
      (subst (λ (ps : List Point). IsReach ps (record { low = origin; high = record { x = r.high.x -ℤ r.low.x; y = r.high.y -ℤ r.low.y } })) moved_points
      (reach_taken r (reached v.outlines.items v.sections.items) reach)))
