-- All rules of a level together.
use Rattle.std.proofs.Common.{arith}
use Rattle.level_model.proofs.SpotLemmas.{spoke_there}
use Rattle.level_model.specs.Level.{Orders, PlainLevel, PlainPlan, end_at, spoke}
use Rattle.level_model.specs.Conditions.{IsLevel}
use Rattle.level_model.specs.FromPlan.{LevelDrawing, IsDrawnFrom}
use Rattle.level_model.specs.PortsKept.{ArePortsPlaced}
use Rattle.plan_laws.specs.Routes.{RoutesKept}
use Rattle.working_frame.specs.Rotated.{level_of}
use Rattle.working_frame.proofs.NumberedLemmas.{levels_are_listed}
use Rattle.rotated_levels.specs.Outlines.{AllApart}
use Rattle.rotated_levels.proofs.FrameLemmas.{framed_boxes_fit}
use Rattle.rotated_levels.proofs.OutlineLemmas.{distances_rotate_back}
use Rattle.rotated_levels.proofs.WholeLemmas.{certificates_rotate_back}
use Rattle.rotated_levels.specs.DockLaws.{IsAnchored}
use Rattle.rotated_levels.proofs.RouteLemmas.{routes_rotate_back}
use Rattle.rotated_levels.proofs.SpreadLemmas.{ports_rotate_back}
use Rattle.rotated_levels.specs.Levels.{LevelsAreDrawn}

-- what is drawn from a plan has its ports where the plan places them
pub ports_placed : (l : PlainLevel) (plan : PlainPlan) (orders : Orders) (v : LevelDrawing) → IsLevel l → IsDrawnFrom l plan orders v → ArePortsPlaced l plan orders v
ports_placed l plan orders v level drawn =
    record {
      ports = λ c k there h. (drawn.children c there).ports k h;
      boxes = λ e t h. (drawn.children (spoke l (end_at e t)).child (spoke_there l e t level h).child).box;
    }

pub anchored : (l : PlainLevel) (plan : PlainPlan) (orders : Orders) (v : LevelDrawing) → ArePortsPlaced l plan orders v → RoutesKept l plan orders v → IsAnchored l plan orders v
anchored l plan orders v placed routes =
    record { placed = placed; from_source = λ i h. (routes.routes i h).from_source; to_target = λ i h. (routes.routes i h).to_target }

pub levels_are_drawn : LevelsAreDrawn
levels_are_drawn d p n o plan orders v by made written h root =
    let sound = h.from_level.sound in
    let rotated = h.from_level.drawn in
    let many = (levels_are_listed d p n o).child_count in
    let placed = ports_placed (level_of d p n o) plan orders v h.ready.level (h.drawing.from_plan orders h.ready) in
    let routes = h.drawing.routes orders h.ready in
    let ends = anchored (level_of d p n o) plan orders v placed routes in
    let apart : AllApart d p n o v written = λ i j less lesser differ. h.drawing.apart i j (omega (arith, many, less)) (omega (arith, many, lesser)) differ in
    let box = framed_boxes_fit d p n o v by sound rotated h.drawing.tight h.framed in
    let routed = routes_rotate_back d p n o plan orders v by h.from_level placed routes in
    let certificate = certificates_rotate_back d p n o made written sound h.certified in
    record {
      drawn = record {
        apart = distances_rotate_back d p n o v by written rotated apart h.whole h.layered;
        inside = box.inside;
        ports_kept = record { children = ports_rotate_back d p n o plan orders v by h.from_level ends (h.drawing.ports orders h.ready); root = root };
        routes = routed.routes;
        clear = routed.clear;
        sharing = routed.sharing;
        reversed = certificate.reversed;
        layering = certificate.layering;
        flow = certificate.flow;
      };
      fitted = record { left = box.left; top = box.top; width = box.width; height = box.height; layers = certificate.begins };
    }
