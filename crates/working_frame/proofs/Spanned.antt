-- The reach that is grown point by point holds the least and the greatest coordinates.
use Rattle.std.proofs.Common.{◌≡◌, ◌↔◌, List, [], ◌∷◌, map, sym, ap, ◌∙◌, refl, subst, ℤ, ◌-ℤ◌, Some, None, IfSome, arith}
use Rattle.std.specs.Int.{int_max, int_min}
use Rattle.std.proofs.lemmas.Int.{ints, clamps}
use Rattle.drawing_types.specs.declared.shape.Point.{Point}
use Rattle.drawing_types.proofs.SameShapes.{same_point}
use Rattle.working_frame.specs.declared.spanning.Reach.{Reach}
use Rattle.working_frame.specs.Reach.{least, greatest, abscissae, heights, IsReach, ReachMovesBy}
use Rattle.working_frame.specs.Walk.{joined, reach_over}
use Rattle.net_routes.proofs.GapMoves.{max_moves, min_moves}
use Rattle.working_frame.proofs.Growing.{same_reach}

least_moves : (x z : ℤ) (zs : List ℤ) → least (map (λ a. a -ℤ x) (z ∷ zs)) ≡ least (z ∷ zs) -ℤ x
unfolding least
least_moves x z [] = refl
least_moves x z (y ∷ zs) = ap (int_min (z -ℤ x)) (least_moves x y zs) ∙ min_moves z (least (y ∷ zs)) x

greatest_moves : (x z : ℤ) (zs : List ℤ) → greatest (map (λ a. a -ℤ x) (z ∷ zs)) ≡ greatest (z ∷ zs) -ℤ x
unfolding greatest
greatest_moves x z [] = refl
greatest_moves x z (y ∷ zs) = ap (int_max (z -ℤ x)) (greatest_moves x y zs) ∙ max_moves z (greatest (y ∷ zs)) x

pub moves : (x z : ℤ) (zs : List ℤ) → ReachMovesBy x (z ∷ zs)
moves x z zs = record { low = least_moves x z zs; high = greatest_moves x z zs }

min_assoc : (a b c : ℤ) → int_min (int_min a b) c ≡ int_min a (int_min b c)
min_assoc a b c = omega (arith, ints, clamps)

max_assoc : (a b c : ℤ) → int_max (int_max a b) c ≡ int_max a (int_max b c)
max_assoc a b c = omega (arith, ints, clamps)

least_joined : (a b : ℤ) (zs : List ℤ) → least (int_min a b ∷ zs) ≡ least (a ∷ b ∷ zs)
unfolding least
least_joined a b [] = refl
least_joined a b (z ∷ zs) = min_assoc a b (least (z ∷ zs))

greatest_joined : (a b : ℤ) (zs : List ℤ) → greatest (int_max a b ∷ zs) ≡ greatest (a ∷ b ∷ zs)
unfolding greatest
greatest_joined a b [] = refl
greatest_joined a b (z ∷ zs) = max_assoc a b (greatest (z ∷ zs))

-- a reach and more points
abbrev spread : Reach → List Point → Reach
spread r ps =
    record {
      low = record { x = least (r.low.x ∷ abscissae ps); y = least (r.low.y ∷ heights ps) };
      high = record { x = greatest (r.high.x ∷ abscissae ps); y = greatest (r.high.y ∷ heights ps) };
    }

spread_joined : (r : Reach) (p : Point) (ps : List Point) → spread (joined r p) ps ≡ spread r (p ∷ ps)
spread_joined r p ps =
    same_reach _ _
    (same_point _ _ (least_joined r.low.x p.x (abscissae ps)) (least_joined r.low.y p.y (heights ps)))
    (same_point _ _ (greatest_joined r.high.x p.x (abscissae ps)) (greatest_joined r.high.y p.y (heights ps)))

over_some : (r : Reach) (ps : List Point) → reach_over (Some r) ps ≡ Some (spread r ps)
unfolding reach_over least greatest
over_some r [] = refl
over_some r (p ∷ ps) = over_some (joined r p) ps ∙ ap Some (spread_joined r p ps)

pub none_reached : (ps : List Point) → reach_over None ps ≡ None ↔ ps ≡ []
unfolding reach_over
none_reached [] = (λ _. refl, λ _. refl)
none_reached (p ∷ ps) =
    let some = over_some (record { low = p; high = p }) ps in
    (λ none. absurd cc, λ empty. absurd cc)

pub some_reached : (ps : List Point) → IfSome (reach_over None ps) (IsReach ps)
unfolding reach_over
some_reached [] = tt
some_reached (p ∷ ps) =
    subst (λ o. IfSome o (IsReach (p ∷ ps))) (sym (over_some (record { low = p; high = p }) ps))
    (record { left = refl; top = refl; right = refl; bottom = refl })
