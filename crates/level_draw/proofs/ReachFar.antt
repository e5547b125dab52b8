-- The least and the greatest of numbers in range are in range.
use Rattle.std.proofs.Common.{◌≡◌, suc, List, [], ◌∷◌, ◌++◌, ℤ, pos, ◌+ℤ◌, Option, None, Some, IfSome, arith, refl, sym, subst}
use Rattle.std.specs.Int.{int_max, int_min}
use Rattle.std.proofs.lemmas.Int.{ints, clamps}
use Rattle.std.specs.List.{All}
use Rattle.drawing_types.specs.declared.shape.Point.{Point}
use Rattle.drawing_types.specs.declared.shape.Rect.{Rect}
use Rattle.drawing_types.specs.declared.section.Section.{Section}
use Rattle.working_frame.specs.declared.spanning.Reach.{Reach}
use Rattle.working_frame.specs.Reach.{IsNear, IsReach, abscissae, corners_of, greatest, heights, least, points_along, points_of, reached}
use Rattle.working_frame.specs.Ranges.{IsFar, IsFarPoint, IsFarSection}
use Rattle.drawing_types.specs.Shapes.{origin}
use Rattle.level_draw.specs.Shifted.{IsFarReach, reach_or}

-- all points of a list are in range
abbrev Each : (Point → Type 0) → List Point → Type 0
Each P [] = Unit {0}
Each P (q ∷ qs) = P q × Each P qs

each_append : (P : Point → Type 0) (ps qs : List Point) → Each P ps → Each P qs → Each P (ps ++ qs)
each_append P [] qs h k = k
each_append P (p ∷ ps) qs h k = (h.0, each_append P ps qs h.1 k)

all_each : (P : Point → Type 0) (ps : List Point) → All P ps → Each P ps
all_each P [] h = tt
all_each P (p ∷ ps) h = (h 0 p (omega arith), all_each P ps (λ i d k. h (suc i) d (omega (arith, k))))

zero_far : IsFar (pos 0)
zero_far = record { above = omega (arith, ints); below = omega (arith, ints) }

min_far : (a b : ℤ) → IsFar a → IsFar b → IsFar (int_min a b)
min_far a b h k =
    let h0 = h.above in let h1 = h.below in let k0 = k.above in let k1 = k.below in
    record { above = omega (arith, ints, clamps, h0, k0); below = omega (arith, ints, clamps, h1, k1) }

max_far : (a b : ℤ) → IsFar a → IsFar b → IsFar (int_max a b)
max_far a b h k =
    let h0 = h.above in let h1 = h.below in let k0 = k.above in let k1 = k.below in
    record { above = omega (arith, ints, clamps, h0, k0); below = omega (arith, ints, clamps, h1, k1) }

least_x : (ps : List Point) → Each IsFarPoint ps → IsFar (least (abscissae ps))
unfolding least
least_x [] h = zero_far
least_x (p ∷ []) h = h.0.x
least_x (p ∷ q ∷ ps) h = min_far p.x _ h.0.x (least_x (q ∷ ps) h.1)

least_y : (ps : List Point) → Each IsFarPoint ps → IsFar (least (heights ps))
unfolding least
least_y [] h = zero_far
least_y (p ∷ []) h = h.0.y
least_y (p ∷ q ∷ ps) h = min_far p.y _ h.0.y (least_y (q ∷ ps) h.1)

greatest_x : (ps : List Point) → Each IsFarPoint ps → IsFar (greatest (abscissae ps))
unfolding greatest
greatest_x [] h = zero_far
greatest_x (p ∷ []) h = h.0.x
greatest_x (p ∷ q ∷ ps) h = max_far p.x _ h.0.x (greatest_x (q ∷ ps) h.1)

greatest_y : (ps : List Point) → Each IsFarPoint ps → IsFar (greatest (heights ps))
unfolding greatest
greatest_y [] h = zero_far
greatest_y (p ∷ []) h = h.0.y
greatest_y (p ∷ q ∷ ps) h = max_far p.y _ h.0.y (greatest_y (q ∷ ps) h.1)

corner_low : (r : Rect) → IsNear r → IsFarPoint (record { x = r.x; y = r.y })
corner_low r h =
    let x0 = h.x.above in let x1 = h.x.below in let y0 = h.y.above in let y1 = h.y.below in
    record { x = record { above = omega (arith, ints, x0); below = omega (arith, ints, x1) }; y = record { above = omega (arith, ints, y0); below = omega (arith, ints, y1) } }

corner_high : (r : Rect) → IsNear r → IsFarPoint (record { x = r.x +ℤ r.width; y = r.y +ℤ r.height })
corner_high r h =
    let x0 = h.x.above in let x1 = h.x.below in let y0 = h.y.above in let y1 = h.y.below in
    let w0 = h.width.above in let w1 = h.width.below in let h0 = h.height.above in let h1 = h.height.below in
    record {
      x = record { above = omega (arith, ints, x0, w0); below = omega (arith, ints, x1, w1) };
      y = record { above = omega (arith, ints, y0, h0); below = omega (arith, ints, y1, h1) };
    }

corners_far : (rs : List Rect) → All IsNear rs → Each IsFarPoint (corners_of rs)
unfolding corners_of
corners_far [] h = tt
corners_far (r ∷ rs) h =
    (corner_low r (h 0 r (omega arith)), (corner_high r (h 0 r (omega arith)), corners_far rs (λ i d k. h (suc i) d (omega (arith, k)))))

along_far : (s : Section) → IsFarSection s → Each IsFarPoint (points_along s)
along_far s h = (h.start, each_append IsFarPoint s.bends (s.end ∷ []) (all_each IsFarPoint s.bends h.bends) (h.end, tt))

points_far : (ss : List Section) → All IsFarSection ss → Each IsFarPoint (points_of ss)
unfolding points_of
points_far [] h = tt
points_far (s ∷ ss) h =
    each_append IsFarPoint (points_along s) (points_of ss) (along_far s (h 0 s (omega arith))) (points_far ss (λ i d k. h (suc i) d (omega (arith, k))))

pub reach_far : (rs : List Rect) (ss : List Section) (r : Reach) → All IsNear rs → All IsFarSection ss → IsReach (reached rs ss) r → IsFarReach r
reach_far rs ss r near far reach =
    let all = each_append IsFarPoint (corners_of rs) (points_of ss) (corners_far rs near) (points_far ss far) in
    record {
      low = record { x = subst IsFar (sym reach.left) (least_x (reached rs ss) all); y = subst IsFar (sym reach.top) (least_y (reached rs ss) all) };
      high = record { x = subst IsFar (sym reach.right) (greatest_x (reached rs ss) all); y = subst IsFar (sym reach.bottom) (greatest_y (reached rs ss) all) };
    }

none_reach : (ps : List Point) → ps ≡ [] → IsReach ps (record { low = origin; high = origin })
unfolding least greatest
none_reach ps e = subst (λ (qs : List Point). IsReach qs (record { low = origin; high = origin })) (sym e) (record { left = refl; top = refl; right = refl; bottom = refl })

-- the reach that is found, or 0 where there are no points
pub reach_of_all : (ps : List Point) (o : Option Reach) → (o ≡ None → ps ≡ []) → IfSome o (IsReach ps) → IsReach ps (reach_or o)
reach_of_all ps None none some = none_reach ps (none refl)
reach_of_all ps (Some r) none some = some
