-- The points of a trace, as they are gathered.
use Rattle.std.proofs.Common.{◌≡◌, List, [], ◌∷◌, ◌++◌, map, sym, ap, ◌∙◌, subst, ℕ, ◌+◌, ◌<◌, length, get_or, drop, Bool, true, false, ℤ, pos, arith}
use Rattle.std.specs.List.{All}
use Rattle.std.proofs.lemmas.List.{get_or-append-add, get_or_append_left, get_or-map, length-append, drop_more}
use Rattle.drawing_types.specs.declared.shape.Point.{Point}
use Rattle.drawing_types.specs.Ranges.{IsNear}
use Rattle.net_routes.specs.declared.NetRoute.{NetRoute}
use Rattle.net_routes.specs.declared.NetRoute.TheVariants.{One, Two}
use Rattle.net_routes.specs.Pieces.{slot}
use Rattle.route_lines.specs.declared.Gap.{Gap}
use Rattle.route_lines.specs.declared.Step.{Step}
use Rattle.route_lines.specs.declared.Step.TheVariants.{Lane, Leg}
use Rattle.route_lines.specs.Tidied.{IsTidied}
use Rattle.route_lines.proofs.PuttingBefore.{one_tidied}
use Rattle.route_lines.specs.Points.{PlainGap, plain_gap, gap_in, stand, leg_points, net_leg, last_point, points_on, height_next, point_at, IsInRange}

pub All_right : (P : Point → Type 0) (xs ys : List Point) → All P (xs ++ ys) → All P ys
All_right P xs ys all = λ k d h. subst P (get_or-append-add xs ys k d) (all (length xs + k) d (omega (arith, length-append xs ys)))

pub All_left : (P : Point → Type 0) (xs ys : List Point) → All P (xs ++ ys) → All P xs
All_left P xs ys all = λ k d h. subst P (get_or_append_left xs ys d k h) (all k d (omega (arith, length-append xs ys)))

pub one_in_range : (g : PlainGap) (r : NetRoute) (f : Bool) (before after : ℤ) (s : ℕ) → r ≡ One s
    → All IsNear (leg_points g r f before after) → IsInRange (stand g (slot s))
one_in_range g r f before after s e all =
    let all' : All IsNear (leg_points g (One s) f before after) = subst (λ z. All IsNear (leg_points g z f before after)) e all in
    (all' 0 (point_at (pos 0) (pos 0)) (omega arith)).x

two_in_range : (g : PlainGap) (f : Bool) (before after : ℤ) (s : ℕ) (h : ℤ) (t : ℕ)
    → All IsNear (leg_points g (Two s h t) f before after) → IsInRange (stand g (slot s)) × IsInRange (stand g (slot t))
two_in_range g true before after s h t all =
    ((all 0 (point_at (pos 0) (pos 0)) (omega arith)).x, (all 2 (point_at (pos 0) (pos 0)) (omega arith)).x)
two_in_range g false before after s h t all =
    ((all 2 (point_at (pos 0) (pos 0)) (omega arith)).x, (all 0 (point_at (pos 0) (pos 0)) (omega arith)).x)

pub both_in_range : (g : PlainGap) (r : NetRoute) (f : Bool) (before after : ℤ) (s : ℕ) (h : ℤ) (t : ℕ) → r ≡ Two s h t
    → All IsNear (leg_points g r f before after) → IsInRange (stand g (slot s)) × IsInRange (stand g (slot t))
both_in_range g r f before after s h t e all =
    two_in_range g f before after s h t (subst (λ z. All IsNear (leg_points g z f before after)) e all)

pub gap_read : (gaps : List Gap) (g : ℕ) (x : Gap) → g < length gaps → x ≡ get_or gaps g x → gap_in (map plain_gap gaps) g ≡ plain_gap x
gap_read gaps g x h e = get_or-map plain_gap gaps g x _ h ∙ ap plain_gap (sym e)

-- no point at the end comes from a lane that is not the last step
pub last_later : (end : Point) (h : ℤ) (steps : List Step) (i : ℕ) → i < length steps → last_point end h (drop i steps) ≡ []
last_later end h steps i l = ap (last_point end h) (drop_more steps i (Lane (pos 0)) l)

-- the points from a leg on
pub from_leg : (gs : List PlainGap) (end : Point) (before : ℤ) (steps : List Step) (i g n : ℕ) (f : Bool) (d : Step) → i < length steps → get_or steps i d ≡ Leg g n f
    → points_on gs end before (drop i steps) ≡ net_leg gs g n f before (height_next end (drop (i + 1) steps)) ++ points_on gs end (height_next end (drop (i + 1) steps)) (drop (i + 1) steps)
from_leg gs end before steps i g n f d l e =
    ap (points_on gs end before) (drop_more steps i d l ∙ ap (λ z. z ∷ drop (i + 1) steps) e)

-- the points that are still to be put before a tidied path
pub record IsTidiedBehind (whole ahead path : List Point) : Type 0 where
  pub rest : List Point
  pub split : whole ≡ ahead ++ rest
  pub tidied : IsTidied rest path

pub all_behind : (whole path : List Point) (ahead : List Point) (p : Point) → whole ≡ ahead ++ p ∷ [] → path ≡ p ∷ [] → IsTidiedBehind whole ahead path
all_behind whole path ahead p e f =
    record { rest = p ∷ []; split = e; tidied = subst (λ z. IsTidied (p ∷ []) z) (sym f) (one_tidied p) }
