-- The points of a trace are near where its ends, its gaps and its steps are.
use Rattle.std.proofs.Common.{◌≡◌, inl, inr, ℕ, ◌*◌, ◌<◌, ◌≤◌, ◌^◌, Bool, true, false, List, [], ◌∷◌, ◌++◌, ℤ, pos, negsuc, neg_ℤ, ◌+ℤ◌, ◌*ℤ◌, refl, arith}
use Rattle.std.specs.List.{All}
use Rattle.std.proofs.lemmas.Int.{ints}
use Rattle.std.proofs.lemmas.List.Elements.{All-nil, All-cons, All-head, All-tail, All-append}
use Rattle.std.proofs.Math.Nat.{mul-le-mul_left}
use Rattle.drawing_types.specs.declared.shape.Point.{Point}
use Rattle.elk_doc.specs.Sound.{IsDistance}
use Rattle.drawing_types.specs.Ranges.{IsWithin}
use Rattle.drawing_types.specs.Ranges.{IsNear}
use Rattle.net_routes.specs.declared.NetRoute.{NetRoute}
use Rattle.net_routes.specs.declared.NetRoute.TheVariants.{Straight, One, Two}
use Rattle.net_routes.specs.Pieces.{slot, route_at}
use Rattle.net_routes.specs.GapFree.{StandsIn}
use Rattle.route_lines.specs.declared.Step.{Step}
use Rattle.route_lines.specs.declared.Step.TheVariants.{Lane, Leg}
use Rattle.route_lines.specs.Points.{PlainGap, gap_in, stand, point_at, leg_points, net_leg, height_next, last_point, points_on, step_points, trace_points, IsStepIn, IsInRange}
use Rattle.plan_laws.specs.Nearness.{IsNearHeight, IsNearGap, AreNearGaps, IsNearStep, PointsAreNear}

-- ---- numbers

product : (n m : ℕ) → n ≤ 2 ^ 16 → m ≤ 2 ^ 20 → n * m ≤ 2 ^ 36
product n m h k = let a = mul-le-mul_left n k in omega (arith, a, h)

times_within : (n : ℕ) (z : ℤ) → n ≤ 2 ^ 16 → IsDistance z → IsWithin (pos 0) (pos (2 ^ 36)) (pos n *ℤ z)
times_within n (pos m) h w =
    let most = w.below in
    let k : m ≤ 2 ^ 20 = omega (arith, ints, most) in
    let p = product n m h k in
    record { above = omega (arith, ints); below = omega (arith, ints, p) }
times_within n (negsuc m) h w = let least = w.above in absurd (omega (arith, ints, least))

sum_near : (a b : ℤ) → IsWithin (pos 0) (pos (2 ^ 51)) a → IsWithin (pos 0) (pos (2 ^ 36)) b → IsInRange (a +ℤ b)
sum_near a b p q =
    let pa = p.above in
    let pb = p.below in
    let qa = q.above in
    let qb = q.below in
    record { above = omega (arith, ints, pa, qa); below = omega (arith, ints, pb, qb) }

height_near : (h : ℤ) → IsNearHeight h → IsInRange h
height_near h w = let a = w.above in let b = w.below in record { above = omega (arith, ints, a); below = omega (arith, ints, b) }

end_near : (z : ℤ) → IsWithin (neg_ℤ (pos (2 ^ 52))) (pos (2 ^ 52)) z → IsInRange z
end_near z w = let a = w.above in let b = w.below in record { above = omega (arith, ints, a); below = omega (arith, ints, b) }

slot_near : (g : PlainGap) (s : ℕ) → IsNearGap g → s < g.count → IsInRange (stand g (slot s))
slot_near g s near h =
    let most = near.count in
    let k : s ≤ 2 ^ 16 = omega (arith, h, most) in
    sum_near g.first (pos s *ℤ g.step) near.first (times_within s g.step k near.step)

point_near : (x y : ℤ) → IsInRange x → IsInRange y → IsNear (point_at x y)
point_near x y h k = record { x = h; y = k }

-- ---- points

two_near : (p q : Point) → IsNear p → IsNear q → All IsNear (p ∷ q ∷ [])
two_near p q h k = All-cons IsNear p (q ∷ []) h (All-cons IsNear q [] k (All-nil IsNear))

four_near : (p q r s : Point) → IsNear p → IsNear q → IsNear r → IsNear s → All IsNear (p ∷ q ∷ r ∷ s ∷ [])
four_near p q r s a b c d = All-cons IsNear p (q ∷ r ∷ s ∷ []) a (All-cons IsNear q (r ∷ s ∷ []) b (two_near r s c d))

leg_near : (g : PlainGap) (r : NetRoute) (from_a : Bool) (before after : ℤ) → IsInRange before → IsInRange after
    → ((s : ℕ) → StandsIn r s → IsInRange (stand g (slot s)))
    → ((s : ℕ) (h : ℤ) (t : ℕ) → r ≡ Two s h t → IsInRange h)
    → All IsNear (leg_points g r from_a before after)
leg_near g Straight from_a before after b a slots heights = All-nil IsNear
leg_near g (One s) from_a before after b a slots heights =
    let x = slots s refl in
    two_near (point_at (stand g (slot s)) before) (point_at (stand g (slot s)) after) (point_near _ _ x b) (point_near _ _ x a)
leg_near g (Two s h t) true before after b a slots heights =
    let x = slots s (inl refl) in
    let z = slots t (inr refl) in
    let y = heights s h t refl in
    four_near (point_at (stand g (slot s)) before) (point_at (stand g (slot s)) h) (point_at (stand g (slot t)) h) (point_at (stand g (slot t)) after)
    (point_near _ _ x b) (point_near _ _ x y) (point_near _ _ z y) (point_near _ _ z a)
leg_near g (Two s h t) false before after b a slots heights =
    let x = slots s (inl refl) in
    let z = slots t (inr refl) in
    let y = heights s h t refl in
    four_near (point_at (stand g (slot t)) before) (point_at (stand g (slot t)) h) (point_at (stand g (slot s)) h) (point_at (stand g (slot s)) after)
    (point_near _ _ z b) (point_near _ _ z y) (point_near _ _ x y) (point_near _ _ x a)

net_near : (gaps : List PlainGap) (g n : ℕ) (from_a : Bool) (before after : ℤ) → AreNearGaps gaps → IsInRange before → IsInRange after
    → IsStepIn gaps (Leg g n from_a) → All IsNear (net_leg gaps g n from_a before after)
net_near gaps g n from_a before after near b a there =
    let gap = near g there.0 in
    leg_near (gap_in gaps g) (route_at (gap_in gaps g).routes n) from_a before after b a
    (λ s stands. slot_near (gap_in gaps g) s gap (gap.slots_in n s there.1 stands))
    (λ s h t is. height_near h (gap.heights n s h t there.1 is))

-- ---- steps

next_near : (end : Point) (steps : List Step) → IsInRange end.y → All IsNearStep steps → IsInRange (height_next end steps)
next_near end [] y h = y
next_near end (Lane k ∷ steps) y h = height_near k (All-head IsNearStep (Lane k) steps h)
next_near end (Leg g n from_a ∷ steps) y h = y

last_near : (end : Point) (h : ℤ) (steps : List Step) → IsInRange end.x → IsInRange h → All IsNear (last_point end h steps)
last_near end h [] x y = All-cons IsNear (point_at end.x h) [] (point_near _ _ x y) (All-nil IsNear)
last_near end h (s ∷ steps) x y = All-nil IsNear

module _ (gaps : List PlainGap) (near : AreNearGaps gaps) (end : Point) (x : IsInRange end.x) (y : IsInRange end.y) where
  on_near : (before : ℤ) (steps : List Step) → IsInRange before → All (IsStepIn gaps) steps → All IsNearStep steps → All IsNear (points_on gaps end before steps)
  on_near before [] b there h = All-nil IsNear
  on_near before (Lane k ∷ steps) b there h =
      let height = height_near k (All-head IsNearStep (Lane k) steps h) in
      All-append IsNear (last_point end k steps) (points_on gaps end k steps)
      (last_near end k steps x height)
      (on_near k steps height (All-tail (IsStepIn gaps) (Lane k) steps there) (All-tail IsNearStep (Lane k) steps h))
  on_near before (Leg g n from_a ∷ steps) b there h =
      let rest = All-tail IsNearStep (Leg g n from_a) steps h in
      let after = next_near end steps y rest in
      All-append IsNear (net_leg gaps g n from_a before (height_next end steps)) (points_on gaps end (height_next end steps) steps)
      (net_near gaps g n from_a before (height_next end steps) near b after (All-head (IsStepIn gaps) (Leg g n from_a) steps there))
      (on_near (height_next end steps) steps after (All-tail (IsStepIn gaps) (Leg g n from_a) steps there) rest)

  all_near : (start : Point) (steps : List Step) → IsInRange start.x → IsInRange start.y → All (IsStepIn gaps) steps → All IsNearStep steps
      → All IsNear (step_points gaps start steps end)
  all_near start [] sx sy there h = All-nil IsNear
  all_near start (Lane k ∷ steps) sx sy there h =
      let height = height_near k (All-head IsNearStep (Lane k) steps h) in
      All-cons IsNear (point_at start.x k) (points_on gaps end k (Lane k ∷ steps)) (point_near _ _ sx height) (on_near k (Lane k ∷ steps) height there h)
  all_near start (Leg g n from_a ∷ steps) sx sy there h = on_near start.y (Leg g n from_a ∷ steps) sy there h

  whole_near : (start : Point) (steps : List Step) → IsInRange start.x → IsInRange start.y → All (IsStepIn gaps) steps → All IsNearStep steps
      → All IsNear (trace_points gaps start steps end)
  whole_near start steps sx sy there h =
      All-cons IsNear start (step_points gaps start steps end ++ end ∷ []) (record { x = sx; y = sy })
      (All-append IsNear (step_points gaps start steps end) (end ∷ []) (all_near start steps sx sy there h)
      (All-cons IsNear end [] (record { x = x; y = y }) (All-nil IsNear)))

pub points_near : PointsAreNear
points_near gaps start end steps trace near heights s e =
    whole_near gaps near end (end_near end.x e.x) (end_near end.y e.y) start steps (end_near start.x s.x) (end_near start.y s.y) trace.in_range heights
