-- A small trace through two gaps and along a lane between them.
use Rattle.std.proofs.Common.{◌≡◌, ◌≤◌, ◌^◌, ℕ, List, [], ◌∷◌, map, true, false, pos, arith, refl, sym, subst}
use Rattle.std.proofs.lemmas.Int.{ints}
use Rattle.std.specs.List.{All}
use Rattle.std.proofs.lemmas.List.Elements.{All-nil, All-cons, All-from_recursion}
use Rattle.drawing_types.specs.Ranges.{IsNear}
use Rattle.net_routes.specs.declared.NetRoute.TheVariants.{One, Two}
use Rattle.route_lines.specs.declared.Gap.{Gap}
use Rattle.route_lines.specs.declared.Step.{Step}
use Rattle.route_lines.specs.declared.Step.TheVariants.{Lane, Leg}
use Rattle.route_lines.specs.Points.{PlainGap, plain_gap, point_at, trace_points, one, leg_lane, lane_leg, IsStepIn, IsTrace, IsInRange, IsGapInRange}

abbrev pub near_gap : PlainGap
near_gap = record { left = pos 10; first = pos 20; step = pos 10; right = pos 60; nets = (record { a = record { on_left = true; height = pos 5 }; b = record { on_left = false; height = pos 40 } }) ∷ []; count = 2; routes = One 0 ∷ [] }

abbrev pub far_gap : PlainGap
far_gap = record { left = pos 100; first = pos 110; step = pos 10; right = pos 140; nets = (record { a = record { on_left = false; height = pos 90 }; b = record { on_left = true; height = pos 40 } }) ∷ []; count = 2; routes = Two 0 (pos 70) 1 ∷ [] }

abbrev pub gaps : List PlainGap
gaps = near_gap ∷ far_gap ∷ []

abbrev pub steps : List Step
steps = Leg 0 0 true ∷ Lane (pos 40) ∷ Leg 1 0 false ∷ []

pub is_trace : IsTrace gaps steps
is_trace = record {
  alternates = leg_lane (pos 40) 0 0 true (Leg 1 0 false ∷ []) (lane_leg (pos 40) 1 0 false [] (one (Leg 1 0 false)));
  in_range = All-from_recursion (IsStepIn gaps) steps ((omega arith, omega arith, refl), (tt, ((omega arith, omega arith, refl), tt)));
}

near : (x y : ℕ) → x ≤ 2 ^ 53 → y ≤ 2 ^ 53 → IsNear (point_at (pos x) (pos y))
near x y h k = record { x = record { above = omega (arith, ints); below = omega (arith, ints, h) }; y = record { above = omega (arith, ints); below = omega (arith, ints, k) } }

points_near : All IsNear (trace_points gaps (point_at (pos 0) (pos 5)) steps (point_at (pos 200) (pos 90)))
points_near =
    All-from_recursion IsNear (trace_points gaps (point_at (pos 0) (pos 5)) steps (point_at (pos 200) (pos 90)))
    (near 0 5 (omega arith) (omega arith), (near 20 5 (omega arith) (omega arith), (near 20 40 (omega arith) (omega arith), (near 120 40 (omega arith) (omega arith), (near 120 70 (omega arith) (omega arith), (near 110 70 (omega arith) (omega arith), (near 110 90 (omega arith) (omega arith), (near 200 90 (omega arith) (omega arith), tt))))))))

gap_in_range : (g : Gap) (p : PlainGap) → plain_gap g ≡ p → IsInRange p.first → IsGapInRange g
gap_in_range g p e h = rw (← e) at h

pub gaps_in_range : (g h : Gap) → plain_gap g ≡ near_gap → plain_gap h ≡ far_gap → All IsGapInRange (g ∷ h ∷ [])
gaps_in_range g h e f =
    All-cons IsGapInRange g (h ∷ []) (gap_in_range g near_gap e (record { above = omega (arith, ints); below = omega (arith, ints) }))
    (All-cons IsGapInRange h [] (gap_in_range h far_gap f (record { above = omega (arith, ints); below = omega (arith, ints) })) (All-nil IsGapInRange))

plain_gaps : (g h : Gap) → plain_gap g ≡ near_gap → plain_gap h ≡ far_gap → map plain_gap (g ∷ h ∷ []) ≡ gaps
plain_gaps g h e f = rw (e, f) refl

pub trace_near : (g h : Gap) (ss : List Step) → plain_gap g ≡ near_gap → plain_gap h ≡ far_gap → ss ≡ steps → All IsNear (trace_points (map plain_gap (g ∷ h ∷ [])) (point_at (pos 0) (pos 5)) ss (point_at (pos 200) (pos 90)))
trace_near g h ss e f d =
    subst (λ gs. All IsNear (trace_points gs (point_at (pos 0) (pos 5)) ss (point_at (pos 200) (pos 90)))) (sym (plain_gaps g h e f))
    (subst (λ xs. All IsNear (trace_points gaps (point_at (pos 0) (pos 5)) xs (point_at (pos 200) (pos 90)))) (sym d) points_near)
