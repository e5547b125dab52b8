-- All numbers of a level's parts can be moved.
use Rattle.std.proofs.Common.{◌≡◌, ℕ, ◌+◌, ◌<◌, ◌≤◌, ◌^◌, List, [], ◌∷◌, ◌++◌, length, ℤ, pos, neg_ℤ, arith, refl, sym, subst}
use Rattle.std.proofs.lemmas.Int.{ints}
use Rattle.std.proofs.lemmas.List.{length-map}
use Rattle.std.proofs.lemmas.List.Elements.{All-nil, All-cons, All-from_get_or, All-head, All-tail, All-weaker}
use Rattle.std.specs.List.{All}
use Rattle.drawing_types.specs.declared.shape.Point.{Point}
use Rattle.drawing_types.specs.declared.section.Section.{Section}
use Rattle.drawing_types.specs.Ranges.{IsNear}
use Rattle.drawing_types.specs.Ranges.{IsWithin}
use Rattle.elk_layers.specs.Layered.{IsFromZero}
use Rattle.net_routes.specs.declared.NetRoute.{NetRoute}
use Rattle.net_routes.specs.declared.NetRoute.TheVariants.{Straight, One, Two}
use Rattle.net_routes.specs.Pieces.{route_at}
use Rattle.net_routes.specs.GapFree.{AreHeights, IsHeight}
use Rattle.route_lines.specs.declared.Gap.{Gap}
use Rattle.route_lines.specs.declared.Step.{Step}
use Rattle.route_lines.specs.declared.Step.TheVariants.{Lane, Leg}
use Rattle.route_lines.specs.declared.Trace.{Trace}
use Rattle.route_lines.specs.Points.{plain_gap, gap_in, IsInRange, IsJoinOf}
use Rattle.route_lines.specs.Tidied.{Drops, equal, middle, later, DropsSome, none, more, IsSectionOf, one, many}
use Rattle.level_model.specs.Level.{Orders}
use Rattle.dock_table.specs.Bounds.{AreNumbersIn}
use Rattle.level_nets.specs.declared.routing.Routing.{Routing}
use Rattle.level_nets.specs.Parts.{Parts, ArePlanned, EndAbove}
use Rattle.level_nets.specs.Held.{plain_gaps}
use Rattle.level_nets.specs.Routed.{AreGapsIn, AreGapsOf, AreLegsOf}
use Rattle.working_frame.specs.Ranges.{IsFar, IsFarGap, IsFarNet, IsFarPoint, IsFarRoute, IsFarSection, IsFarStep, IsFarTrace}
use Rattle.level_draw.specs.declared.tracing.Routes.{Routes}
use Rattle.level_draw.specs.Reach.{IsBoxPoint}
use Rattle.level_draw.specs.Traced.{AreRoutesOf, plain_traces, trace_in}
use Rattle.plan_laws.specs.Nearness.{IsNearEnd, IsNearHeight, IsNearStep}
use Rattle.level_draw.specs.Joined.{AreJoinable, AreJoined, section_in}
use Rattle.level_draw.proofs.Nearness.{gaps_near, nets_held, nets_near}
use Rattle.level_draw.proofs.Joining.{end_near, lanes_near, start_near}

-- ---- numbers

far_from_zero : (z : ℤ) → IsFromZero z (pos (2 ^ 51)) → IsFar z
far_from_zero z h = let a = h.0 in let b = h.1 in record { above = omega (arith, ints, a); below = omega (arith, ints, b) }

far_height : (z : ℤ) → IsNearHeight z → IsFar z
far_height z h = let a = h.above in let b = h.below in record { above = omega (arith, ints, a); below = omega (arith, ints, b) }

far_pin : (z : ℤ) → IsHeight z → IsFar z
far_pin z h = let a = h.low in let b = h.high in record { above = omega (arith, ints, a); below = omega (arith, ints, b) }

far_end : (z : ℤ) → IsWithin (neg_ℤ (pos (2 ^ 52))) (pos (2 ^ 52)) z → IsFar z
far_end z h = let a = h.above in let b = h.below in record { above = omega (arith, ints, a); below = omega (arith, ints, b) }

far_coordinate : (z : ℤ) → IsInRange z → IsFar z
far_coordinate z h = let a = h.above in let b = h.below in record { above = omega (arith, ints, a); below = omega (arith, ints, b) }

-- ---- boxes

pub far_boxes : (boxes : List Point) → All IsBoxPoint boxes → All IsFarPoint boxes
far_boxes boxes h = All-weaker IsBoxPoint IsFarPoint (λ p near. record { x = far_end _ near.x; y = far_end _ near.y }) boxes h

-- ---- gaps and traces

far_route : (x : NetRoute) → ((i : ℕ) (z : ℤ) (t : ℕ) → x ≡ Two i z t → IsNearHeight z) → IsFarRoute x
far_route Straight h = tt
far_route (One i) h = tt
far_route (Two i z t) h = far_height z (h i z t refl)

far_step : (x : Step) → IsNearStep x → IsFarStep x
far_step (Lane z) h = far_height z h
far_step (Leg g n from_a) h = tt

far_anchor : (p : Point) → IsNearEnd p → IsFarPoint p
far_anchor p h = record { x = far_end _ h.x; y = far_end _ h.y }

module _ (s : Parts) (rows : List (List ℕ)) (o : Orders) (layers : List ℕ) (planned : ArePlanned s rows o layers) (ends : EndAbove s) (few : s.layered.layers ≤ 2048) (numbers : AreNumbersIn s.table) (r : Routing) (many : length r.gaps ≡ s.layered.layers + 1) (gaps : AreGapsOf s r.gaps) (legs : AreLegsOf s r) (within : AreGapsIn r.gaps) where
  far_gap : (g : ℕ) → g < length (plain_gaps r.gaps) → IsFarGap (gap_in (plain_gaps r.gaps) g)
  far_gap g h =
      let long = length-map r.gaps plain_gap in
      let there : g < length r.gaps = omega (arith, h, long) in
      let near = gaps_near s rows o layers planned ends numbers r.gaps many gaps within g h in
      let held = nets_held s rows o layers planned ends numbers r.gaps many gaps within in
      let nets = nets_near s rows o layers planned ends numbers r.gaps many gaps within g there in
      let as_many = held.routes g h in
      record {
        left = far_from_zero _ (within g there).left;
        first = far_from_zero _ (within g there).first;
        right = far_from_zero _ (within g there).right;
        nets = All-weaker AreHeights IsFarNet (λ n heights. record { a = far_pin _ heights.a; b = far_pin _ heights.b }) (gap_in (plain_gaps r.gaps) g).nets nets.heights;
        routes = All-from_get_or IsFarRoute (gap_in (plain_gaps r.gaps) g).routes _
            (λ k less. far_route (route_at (gap_in (plain_gaps r.gaps) g).routes k) (λ i z t is. near.heights k i z t (omega (arith, less, as_many)) is));
      }

  pub far_gaps : All IsFarGap (plain_gaps r.gaps)
  far_gaps = All-from_get_or IsFarGap (plain_gaps r.gaps) _ far_gap

  pub far_traces : (v : Routes) → AreRoutesOf s r v → All IsFarTrace (plain_traces v.traces.items)
  far_traces v routes =
      All-from_get_or IsFarTrace (plain_traces v.traces.items) _
      (λ e h.
      record {
        start = far_anchor _ (start_near s rows o layers planned ends few numbers r many gaps legs within v routes e h);
        steps = All-weaker IsNearStep IsFarStep far_step (trace_in (plain_traces v.traces.items) e).steps (lanes_near s rows o layers planned ends few numbers r many gaps legs within v routes e h);
        end = far_anchor _ (end_near s rows o layers planned ends few numbers r many gaps legs within v routes e h);
      })

-- ---- sections

far_point : (p : Point) → IsNear p → IsFarPoint p
far_point p h = record { x = far_coordinate _ h.x; y = far_coordinate _ h.y }

-- points that are left when some are dropped
drop_near : (ps qs : List Point) → Drops ps qs → All IsNear ps → All IsNear qs
drop_near _ _ (equal a b ps same) h = All-tail IsNear a (b ∷ ps) h
drop_near _ _ (middle a b c ps between) h =
    All-cons IsNear a (c ∷ ps) (All-head IsNear a (b ∷ c ∷ ps) h) (All-tail IsNear b (c ∷ ps) (All-tail IsNear a (b ∷ c ∷ ps) h))
drop_near _ _ (later a ps qs drops) h = All-cons IsNear a qs (All-head IsNear a ps h) (drop_near ps qs drops (All-tail IsNear a ps h))

drops_near : (ps qs : List Point) → DropsSome ps qs → All IsNear ps → All IsNear qs
drops_near _ _ (none ps) h = h
drops_near _ _ (more ps qs rs drops rest) h = drops_near qs rs rest (drop_near ps qs drops h)

-- the last of some points, and those before it
front_near : (ps : List Point) (q : Point) → All IsNear (ps ++ q ∷ []) → All IsNear ps
front_near [] q h = All-nil IsNear
front_near (p ∷ ps) q h = All-cons IsNear p ps (All-head IsNear p (ps ++ q ∷ []) h) (front_near ps q (All-tail IsNear p (ps ++ q ∷ []) h))

last_near : (ps : List Point) (q : Point) → All IsNear (ps ++ q ∷ []) → IsNear q
last_near [] q h = All-head IsNear q [] h
last_near (p ∷ ps) q h = last_near ps q (All-tail IsNear p (ps ++ q ∷ []) h)

far_section : (ps : List Point) (x : Section) → IsSectionOf ps x → All IsNear ps → IsFarSection x
far_section _ _ (one p x start bends end) h =
    let far = far_point p (All-head IsNear p [] h) in
    record {
      start = subst IsFarPoint (sym start) far;
      bends = subst (All IsFarPoint) (sym bends) (All-nil IsFarPoint);
      end = subst IsFarPoint (sym end) far;
    }
far_section _ _ (many x) h =
    let rest = All-tail IsNear x.start (x.bends ++ x.end ∷ []) h in
    record {
      start = far_point x.start (All-head IsNear x.start (x.bends ++ x.end ∷ []) h);
      bends = All-weaker IsNear IsFarPoint far_point x.bends (front_near x.bends x.end rest);
      end = far_point x.end (last_near x.bends x.end rest);
    }

far_join : (ps : List Point) (x : Section) → IsJoinOf ps x → All IsNear ps → IsFarSection x
far_join ps x join h = far_section join.points x join.section (drops_near ps join.points join.tidied.dropped h)

pub far_sections : (gaps : List Gap) (traces : List Trace) (sections : List Section) → AreJoinable gaps traces → AreJoined gaps traces (length traces) sections → All IsFarSection sections
far_sections gaps traces sections joinable joined =
    let long = joined.as_many in
    All-from_get_or IsFarSection sections _
    (λ e h. let there : e < length traces = omega (arith, h, long) in far_join _ (section_in sections e) (joined.each e there) (joinable.points e there))
