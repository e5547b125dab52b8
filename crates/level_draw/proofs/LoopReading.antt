-- The steps of self-loops that are read off the table are those of the plan.
use Rattle.std.proofs.Common.{◌≡◌, ℕ, ◌<◌, Bool, true, false, cond, List, [], length, pos, refl, ◌∙◌, ap, ap₂, inl, inr}
use Rattle.std.proofs.lemmas.Bool.{and_from}
use Rattle.std.specs.List.{list_any}
use Rattle.drawing_types.specs.declared.shape.Side.{Side}
use Rattle.drawing_types.specs.declared.shape.Side.TheVariants.{North, East, South, West}
use Rattle.drawing_types.specs.declared.shape.Dock.{Dock}
use Rattle.drawing_types.specs.Shapes.{is_side}
use Rattle.port_order.proofs.OrderLemmas.{side_itself}
use Rattle.self_loops.specs.Loops.{way, passes, sides_of_pair, sides_of_lanes, passes_left, passes_right}
use Rattle.route_lines.specs.declared.Step.TheVariants.{Lane, Leg}
use Rattle.level_model.specs.Level.{PlainLevel, PlainPlan, Orders, end_at, is_loop, dock_of}
use Rattle.level_model.specs.Lanes.{has_one_dock, loop_sides}
use Rattle.level_model.specs.Nets.{of_loop}
use Rattle.level_model.specs.Traces as plan
use Rattle.level_model.proofs.Lists.{has_any}
use Rattle.level_model.proofs.LoopSides.{north_lane, south_lane}
use Rattle.level_nets.specs.declared.routing.Routing.{Routing}
use Rattle.level_nets.specs.Parts.{Parts, plan_of, ArePlanned}
use Rattle.level_nets.specs.Read.{dock_at, gap_named, is_one_dock}
use Rattle.level_nets.specs.Routed.{AreLegs}
use Rattle.level_nets.proofs.ListLemmas.{map_same}
use Rattle.level_nets.proofs.Names.{dock_is, gap_is, one_dock_is}
use Rattle.level_nets.proofs.Nets.{top_is}
use Rattle.level_draw.specs.Read as read
use Rattle.level_draw.proofs.StepReading.{lane_sum}

module _ (s : Parts) (rows : List (List ℕ)) (o : Orders) (layers : List ℕ) (planned : ArePlanned s rows o layers) (r : Routing) (legs : AreLegs s.level (plan_of s rows) o r) where
  abbrev l : PlainLevel
  l = s.level

  abbrev p : PlainPlan
  p = plan_of s rows

  abbrev source : ℕ → Dock
  source e = dock_of s.level (plan_of s rows) o (end_at e true)

  abbrev target : ℕ → Dock
  target e = dock_of s.level (plan_of s rows) o (end_at e false)

  module _ (e : ℕ) (h : e < length s.level.edges) (loop : is_loop s.level e ≡ true) (two : has_one_dock s.level (plan_of s rows) o e ≡ false) (from to : Side) (f : (dock_of s.level (plan_of s rows) o (end_at e true)).side ≡ from) (t : (dock_of s.level (plan_of s rows) o (end_at e false)).side ≡ to) where
    sides_are : loop_sides s.level (plan_of s rows) o e ≡ sides_of_pair from to
    sides_are = ap₂ (λ (a b : Side). sides_of_lanes a b (has_one_dock s.level (plan_of s rows) o e)) f t ∙ ap (sides_of_lanes from to) two

    north_is : passes from to North ≡ true → read.loop_step s r e North ≡ plan.loop_step l p o (pos 0) e North
    north_is there =
        ap Lane (lane_sum _ _ _ _ (top_is s rows o layers planned (end_at e true) h)
        ((planned.table.loops e h loop).north (ap (list_any (is_side North)) sides_are ∙ north_lane from to ∙ there)))

    south_is : passes from to South ≡ true → read.loop_step s r e South ≡ plan.loop_step l p o (pos 0) e South
    south_is there =
        ap Lane (lane_sum _ _ _ _ (top_is s rows o layers planned (end_at e true) h)
        ((planned.table.loops e h loop).south (ap (list_any (is_side South)) sides_are ∙ south_lane from to ∙ there)))

    passing_left : passes from to West ≡ true → passes_left (source e).side (target e).side (has_one_dock s.level (plan_of s rows) o e) ≡ true
    passing_left there = ap₂ (λ (a b : Side). passes_left a b (has_one_dock s.level (plan_of s rows) o e)) f t ∙ ap (passes_left from to) two ∙ there

    passing_right : passes from to East ≡ true → passes_right (source e).side (target e).side (has_one_dock s.level (plan_of s rows) o e) ≡ true
    passing_right there = ap₂ (λ (a b : Side). passes_right a b (has_one_dock s.level (plan_of s rows) o e)) f t ∙ ap (passes_right from to) two ∙ there

    west_is : passes from to West ≡ true → read.loop_step s r e West ≡ plan.loop_step l p o (pos 0) e West
    unfolding gap_named
    west_is there =
        let passing = passing_left there in
        ap₂ (λ (g k : ℕ). Leg g k true) (gap_is s rows o layers planned (of_loop e West) (h, loop, inl (refl, passing)))
        (legs.west e h (and_from (is_loop s.level e) _ loop passing))

    east_is : passes from to East ≡ true → read.loop_step s r e East ≡ plan.loop_step l p o (pos 0) e East
    unfolding gap_named
    east_is there =
        let passing = passing_right there in
        ap₂ (λ (g k : ℕ). Leg g k true) (gap_is s rows o layers planned (of_loop e East) (h, loop, inr (refl, passing)))
        (legs.east e h (and_from (is_loop s.level e) _ loop passing))

    step_is : (side : Side) → passes from to side ≡ true → read.loop_step s r e side ≡ plan.loop_step l p o (pos 0) e side
    step_is North there = north_is there
    step_is East there = east_is there
    step_is South there = south_is there
    step_is West there = west_is there

    pub loop_is : read.loop_steps s r e from to ≡ plan.loop_steps l p o (pos 0) e from to
    loop_is =
        map_same (read.loop_step s r e) (plan.loop_step l p o (pos 0) e) (way from to)
        (λ side has. step_is side (has_any (is_side side) (way from to) side has (side_itself side)))

  pub loop_steps_are : (e : ℕ) → e < length s.level.edges → is_loop s.level e ≡ true
      → cond (is_one_dock s e) [] (read.loop_steps s r e (dock_at s (end_at e true)).side (dock_at s (end_at e false)).side)
      ≡ cond (has_one_dock s.level (plan_of s rows) o e) [] (plan.loop_steps l p o (pos 0) e (source e).side (target e).side)
  loop_steps_are e h loop =
      ap (λ b. cond b [] (read.loop_steps s r e (dock_at s (end_at e true)).side (dock_at s (end_at e false)).side)) (one_dock_is s rows o layers planned e h loop)
      ∙ ap₂ (λ (a b : Dock). cond (has_one_dock s.level (plan_of s rows) o e) [] (read.loop_steps s r e a.side b.side)) (dock_is s rows o layers planned (end_at e true) h) (dock_is s rows o layers planned (end_at e false) h)
      ∙ step (has_one_dock s.level (plan_of s rows) o e) refl
    where
      step : (b : Bool) → has_one_dock s.level (plan_of s rows) o e ≡ b
          → cond b [] (read.loop_steps s r e (source e).side (target e).side) ≡ cond b [] (plan.loop_steps l p o (pos 0) e (source e).side (target e).side)
      step true same = refl
      step false apart = loop_is e h loop apart (source e).side (target e).side refl refl
