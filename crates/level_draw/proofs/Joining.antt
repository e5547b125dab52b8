-- The traces of a level can be joined to sections.
use Rattle.std.proofs.Common.{◌≡◌, ℕ, ◌+◌, ◌<◌, ◌≤◌, ◌^◌, true, false, List, length, ℤ, pos, arith, sym, subst}
use Rattle.std.proofs.lemmas.Int.{ints}
use Rattle.std.proofs.lemmas.List.{get_or-map, length-map}
use Rattle.std.specs.List.{All}
use Rattle.elk_layers.specs.Layered.{IsFromZero}
use Rattle.route_lines.specs.Points.{PlainGap, plain_gap, IsInRange, IsTrace}
use Rattle.level_model.specs.Level.{Orders, end_at}
use Rattle.dock_table.specs.Bounds.{AreNumbersIn}
use Rattle.level_nets.specs.declared.routing.Routing.{Routing}
use Rattle.level_nets.specs.Parts.{Parts, ArePlanned, EndAbove, plan_of}
use Rattle.level_nets.specs.Held.{plain_gaps}
use Rattle.level_nets.specs.Routed.{AreGapsIn, AreGapsOf, AreLegsOf}
use Rattle.working_frame.specs.Ranges.{plain_trace}
use Rattle.level_draw.specs.declared.tracing.Routes.{Routes}
use Rattle.level_draw.specs.Traced.{ArePlannedRoutes, AreRoutesOf, plain_traces, trace_in}
use Rattle.plan_laws.specs.Nearness.{IsNearEnd, IsNearStep}
use Rattle.plan_laws.proofs.LegsThere.{traces_join}
use Rattle.plan_laws.proofs.NearPoints.{points_near}
use Rattle.level_draw.specs.Joined.{AreJoinable}
use Rattle.level_draw.proofs.Nearness.{anchor_near, gaps_near, nets_held, steps_near}

first_in_range : (z : ℤ) → IsFromZero z (pos (2 ^ 51)) → IsInRange z
first_in_range z h = let a = h.0 in let b = h.1 in record { above = omega (arith, ints, a); below = omega (arith, ints, b) }

module _ (s : Parts) (rows : List (List ℕ)) (o : Orders) (layers : List ℕ) (planned : ArePlanned s rows o layers) (ends : EndAbove s) (few : s.layered.layers ≤ 2048) (numbers : AreNumbersIn s.table) (r : Routing) (many : length r.gaps ≡ s.layered.layers + 1) (gaps : AreGapsOf s r.gaps) (legs : AreLegsOf s r) (within : AreGapsIn r.gaps) (v : Routes) (routes : AreRoutesOf s r v) where
  -- the traces are those of the plan
  planned_routes : ArePlannedRoutes s.level (plan_of s rows) o (plain_gaps r.gaps) v.boxes.items (plain_traces v.traces.items)
  planned_routes = routes rows o layers planned (legs rows o layers planned)

  edge_there : (e : ℕ) → e < length (plain_traces v.traces.items) → e < length s.level.edges
  edge_there e h = let count = planned_routes.trace_count in omega (arith, h, count)

  trace_there : (e : ℕ) → e < length v.traces.items → e < length (plain_traces v.traces.items)
  trace_there e h = let long = length-map v.traces.items plain_trace in omega (arith, h, long)

  -- their ends and lanes are in range
  pub start_near : (e : ℕ) → e < length (plain_traces v.traces.items) → IsNearEnd (trace_in (plain_traces v.traces.items) e).start
  start_near e h =
      let there = edge_there e h in
      subst IsNearEnd (sym (planned_routes.starts e there)) (anchor_near s rows o layers planned ends numbers r.gaps many gaps within few (end_at e true) there)

  pub end_near : (e : ℕ) → e < length (plain_traces v.traces.items) → IsNearEnd (trace_in (plain_traces v.traces.items) e).end
  end_near e h =
      let there = edge_there e h in
      subst IsNearEnd (sym (planned_routes.ends e there)) (anchor_near s rows o layers planned ends numbers r.gaps many gaps within few (end_at e false) there)

  pub lanes_near : (e : ℕ) → e < length (plain_traces v.traces.items) → All IsNearStep (trace_in (plain_traces v.traces.items) e).steps
  lanes_near e h =
      let there = edge_there e h in
      subst (All IsNearStep) (sym (planned_routes.steps e there)) (steps_near s rows o layers planned ends numbers r (legs rows o layers planned) e there)

  joins : (e : ℕ) → e < length v.traces.items → IsTrace (plain_gaps r.gaps) (trace_in (plain_traces v.traces.items) e).steps
  joins e h =
      let there = edge_there e (trace_there e h) in
      subst (IsTrace (plain_gaps r.gaps)) (sym (planned_routes.steps e there))
      (traces_join s.level (plan_of s rows) o (pos 0) layers (plain_gaps r.gaps) planned.ready (nets_held s rows o layers planned ends numbers r.gaps many gaps within) e there)

  pub joinable : AreJoinable r.gaps v.traces.items
  joinable =
      record {
        gaps_in = λ g d h. subst (λ (p : PlainGap). IsInRange p.first) (get_or-map plain_gap r.gaps g d _ h) (first_in_range _ (within g h).first);
        steps = joins;
        points = λ e h.
            let there = trace_there e h in
            points_near (plain_gaps r.gaps) (trace_in (plain_traces v.traces.items) e).start (trace_in (plain_traces v.traces.items) e).end (trace_in (plain_traces v.traces.items) e).steps
            (joins e h) (gaps_near s rows o layers planned ends numbers r.gaps many gaps within) (lanes_near e there) (start_near e there) (end_near e there);
      }
