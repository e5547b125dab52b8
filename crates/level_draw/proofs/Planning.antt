-- What is read off the table is what the plan says.
use Rattle.std.proofs.Common.{◌≡◌, ℕ, ◌<◌, Bool, true, false, cond, List, [], length, pos, arith, refl, ◌∙◌}
use Rattle.drawing_types.specs.declared.shape.Point.{Point}
use Rattle.route_lines.specs.Points.{PlainGap}
use Rattle.level_model.specs.Level.{Orders, end_at, is_loop, holds, dock_of}
use Rattle.level_model.specs.Lanes.{has_one_dock}
use Rattle.level_model.specs.FromPlan.{PlainTrace, point_or, box_place}
use Rattle.level_model.specs.Traces as plan
use Rattle.level_model.proofs.Lists.{Has}
use Rattle.level_model.proofs.LinkLemmas.{chain_are}
use Rattle.level_nets.specs.declared.routing.Routing.{Routing}
use Rattle.level_nets.specs.Parts.{Parts, plan_of, ArePlanned}
use Rattle.level_nets.specs.Read.{dock_at, is_one_dock}
use Rattle.level_nets.specs.Routed.{AreLegs, drawn_with}
use Rattle.level_model.proofs.Lists.{at_has}
use Rattle.level_draw.specs.Read as read
use Rattle.level_draw.specs.Traced.{AreBoxes, AreTraces, ArePlannedRoutes}
use Rattle.level_draw.proofs.StepReading.{edge_steps_are}
use Rattle.level_draw.proofs.LoopReading.{loop_steps_are}
use Rattle.level_draw.proofs.PlaceReading.{box_is, anchor_is}

module _ (s : Parts) (rows : List (List ℕ)) (o : Orders) (layers : List ℕ) (planned : ArePlanned s rows o layers) (r : Routing) (legs : AreLegs s.level (plan_of s rows) o r) where
  links_there : (e k : ℕ) → Has (plan.chain (plan_of s rows) e) k → k < length s.layered.links
  links_there e k h =
      let at = at_has (plan.chain (plan_of s rows) e) 0 k h in
      let is = (chain_are (plan_of s rows) e at.0 at.1).0 in
      let same = at.2 in
      omega (arith, is, same)

  steps_are : (e : ℕ) → e < length s.level.edges → read.steps_of s r e ≡ plan.steps_of s.level (plan_of s rows) o (pos 0) e
  steps_are e h = step (is_loop s.level e) refl
    where
      step : (b : Bool) → is_loop s.level e ≡ b
          → cond b (cond (is_one_dock s e) [] (read.loop_steps s r e (dock_at s (end_at e true)).side (dock_at s (end_at e false)).side))
          (cond (holds s.reversed e) (plan.reversed_steps (read.oriented_steps s r e)) (read.oriented_steps s r e))
          ≡ cond b (cond (has_one_dock s.level (plan_of s rows) o e) [] (plan.loop_steps s.level (plan_of s rows) o (pos 0) e (dock_of s.level (plan_of s rows) o (end_at e true)).side (dock_of s.level (plan_of s rows) o (end_at e false)).side))
          (cond (holds s.reversed e) (plan.reversed_steps (plan.oriented_steps s.level (plan_of s rows) o (pos 0) e)) (plan.oriented_steps s.level (plan_of s rows) o (pos 0) e))
      step true loop = loop_steps_are s rows o layers planned r legs e h loop
      step false loop = edge_steps_are s rows o layers planned r legs e h loop (λ k has. links_there e k has)

  pub routes_planned : (gaps : List PlainGap) (boxes : List Point) (ts : List PlainTrace) → AreBoxes s gaps (length s.level.children) boxes → AreTraces s r boxes (length s.level.edges) ts
      → ArePlannedRoutes s.level (plan_of s rows) o gaps boxes ts
  routes_planned gaps boxes ts are traces =
      let places : (c : ℕ) → c < length s.level.children → point_or boxes c ≡ box_place s.level (plan_of s rows) o (drawn_with gaps (pos 0) (pos 0)) c = λ c h. are.each c h ∙ box_is s rows o layers planned gaps c h in
      record {
        box_count = are.as_many;
        trace_count = traces.as_many;
        places = places;
        starts = λ e h. (traces.each e h).start ∙ anchor_is s rows o layers planned gaps (point_or boxes) places (end_at e true) h;
        steps = λ e h. (traces.each e h).steps ∙ steps_are e h;
        ends = λ e h. (traces.each e h).end ∙ anchor_is s rows o layers planned gaps (point_or boxes) places (end_at e false) h;
      }
