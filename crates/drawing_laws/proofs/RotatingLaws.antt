-- The frame of a direction.
use Rattle.std.proofs.Common.{◌≡◌, ⊎_elim, ◌↔◌, ℤ, neg_ℤ, ◌+ℤ◌, inl, inr, refl, ap, arith}
use Rattle.std.proofs.lemmas.Int.{ints, clamps}
use Rattle.drawing_types.specs.declared.shape.Point.{Point}
use Rattle.drawing_types.specs.declared.shape.Rect.{Rect}
use Rattle.drawing_types.specs.declared.shape.Side.{Side}
use Rattle.drawing_types.specs.declared.shape.Side.TheVariants.{North, East, South, West}
use Rattle.elk_doc.specs.declared.document.Direction.{Direction}
use Rattle.elk_doc.specs.declared.document.Direction.TheVariants.{Right, Left, Down, Up}
use Rattle.elk_doc.specs.Shapes.{rotated}
use Rattle.drawing_types.specs.Shapes.{point_rect, Holds}
use Rattle.drawing_types.specs.Segments.{MeetsRect, EntersRect, MeetsSpan, EntersSpan}
use Rattle.elk_doc.specs.Route.{IsStep, IsTurn, LeavesOutward}
use Rattle.drawing_types.proofs.SegmentBounds.{MeetsRect-spans, spans-MeetsRect, EntersRect-spans, spans-EntersRect}
use Rattle.drawing_types.proofs.SameShapes.{same_rect}
use Rattle.drawing_laws.specs.Rotating.{rotated_point, rotated_side, SidesRotate, RoutesRotate, BoxesRotate}

neg_same : (a b : ℤ) → (a ≡ b) ↔ (neg_ℤ a ≡ neg_ℤ b)
neg_same a b = (λ e. ap neg_ℤ e, λ e. omega (arith, ints, e))

outward : (way : Direction) (s : Side) (a b : Point) → LeavesOutward s a b ↔ LeavesOutward (rotated_side way s) (rotated_point way a) (rotated_point way b)
outward Right s a b = (λ h. h, λ h. h)
outward Left North a b = (λ h. (ap neg_ℤ h.0, h.1), λ h. ((neg_same _ _).1 h.0, h.1))
outward Left East a b = (λ h. (h.0, omega (arith, ints)), λ h. (h.0, omega (arith, ints)))
outward Left South a b = (λ h. (ap neg_ℤ h.0, h.1), λ h. ((neg_same _ _).1 h.0, h.1))
outward Left West a b = (λ h. (h.0, omega (arith, ints)), λ h. (h.0, omega (arith, ints)))
outward Down North a b = (λ h. h, λ h. h)
outward Down East a b = (λ h. h, λ h. h)
outward Down South a b = (λ h. h, λ h. h)
outward Down West a b = (λ h. h, λ h. h)
outward Up North a b = (λ h. (h.0, omega (arith, ints)), λ h. (h.0, omega (arith, ints)))
outward Up East a b = (λ h. (ap neg_ℤ h.0, h.1), λ h. ((neg_same _ _).1 h.0, h.1))
outward Up South a b = (λ h. (h.0, omega (arith, ints)), λ h. (h.0, omega (arith, ints)))
outward Up West a b = (λ h. (ap neg_ℤ h.0, h.1), λ h. ((neg_same _ _).1 h.0, h.1))

pub sides : SidesRotate
sides = record { ahead = ahead_is; behind = behind_is; outward = outward }
  where
    ahead_is : (way : Direction) → rotated_side way (Rattle.elk_doc.specs.Sides.ahead way) ≡ East
    ahead_is Right = refl
    ahead_is Left = refl
    ahead_is Down = refl
    ahead_is Up = refl

    behind_is : (way : Direction) → rotated_side way (Rattle.elk_doc.specs.Sides.behind way) ≡ West
    behind_is Right = refl
    behind_is Left = refl
    behind_is Down = refl
    behind_is Up = refl

step : (way : Direction) (a b : Point) → IsStep a b ↔ IsStep (rotated_point way a) (rotated_point way b)
step Right a b = (λ h. h, λ h. h)
step Left a b = (
  λ h. ⊎_elim (λ q. inl (ap neg_ℤ q.0, q.1)) (λ q. inr ((λ e. q.0 ((neg_same _ _).1 e)), q.1)) h,
  λ h. ⊎_elim (λ q. inl ((neg_same _ _).1 q.0, q.1)) (λ q. inr ((λ e. q.0 (ap neg_ℤ e)), q.1)) h,
)
step Down a b = (
  λ h. ⊎_elim (λ q. inr (q.1, q.0)) (λ q. inl (q.1, q.0)) h,
  λ h. ⊎_elim (λ q. inr (q.1, q.0)) (λ q. inl (q.1, q.0)) h,
)
step Up a b = (
  λ h. ⊎_elim (λ q. inr ((λ e. q.1 ((neg_same _ _).1 e)), q.0)) (λ q. inl (ap neg_ℤ q.1, q.0)) h,
  λ h. ⊎_elim (λ q. inr (q.1, (neg_same _ _).1 q.0)) (λ q. inl (q.1, (λ e. q.0 (ap neg_ℤ e)))) h,
)

rotate : (way : Direction) (a b c : Point) → IsTurn a b c ↔ IsTurn (rotated_point way a) (rotated_point way b) (rotated_point way c)
rotate Right a b c = (λ h. h, λ h. h)
rotate Left a b c = (
  λ h. record { from_upright = λ e. h.from_upright ((neg_same _ _).1 e); from_level = λ e. ap neg_ℤ (h.from_level e) },
  λ h. record { from_upright = λ e. h.from_upright (ap neg_ℤ e); from_level = λ e. (neg_same _ _).1 (h.from_level e) },
)
rotate Down a b c = (
  λ h. record { from_upright = λ e. h.from_level e; from_level = λ e. h.from_upright e },
  λ h. record { from_upright = λ e. h.from_level e; from_level = λ e. h.from_upright e },
)
rotate Up a b c = (
  λ h. record { from_upright = λ e. h.from_level ((neg_same _ _).1 e); from_level = λ e. ap neg_ℤ (h.from_upright e) },
  λ h. record { from_upright = λ e. (neg_same _ _).1 (h.from_level e); from_level = λ e. h.from_upright (ap neg_ℤ e) },
)

meets_back : (a b low size : ℤ) → MeetsSpan a b low size → MeetsSpan (neg_ℤ a) (neg_ℤ b) (neg_ℤ (low +ℤ size)) size
meets_back a b low size h = omega (arith, ints, clamps)

meets_forth : (a b low size : ℤ) → MeetsSpan (neg_ℤ a) (neg_ℤ b) (neg_ℤ (low +ℤ size)) size → MeetsSpan a b low size
meets_forth a b low size h = omega (arith, ints, clamps)

enters_back : (a b low size : ℤ) → EntersSpan a b low size → EntersSpan (neg_ℤ a) (neg_ℤ b) (neg_ℤ (low +ℤ size)) size
enters_back a b low size h = omega (arith, ints, clamps)

enters_forth : (a b low size : ℤ) → EntersSpan (neg_ℤ a) (neg_ℤ b) (neg_ℤ (low +ℤ size)) size → EntersSpan a b low size
enters_forth a b low size h = omega (arith, ints, clamps)

meets : (way : Direction) (a b : Point) (r : Rect) → MeetsRect a b r ↔ MeetsRect (rotated_point way a) (rotated_point way b) (rotated way r)
meets Right a b r = (λ h. h, λ h. h)
meets Left a b r = (
  λ h. let s = MeetsRect-spans a b r h in spans-MeetsRect (rotated_point Left a) (rotated_point Left b) (rotated Left r) (meets_back _ _ _ _ s.0) s.1,
  λ h. let s = MeetsRect-spans (rotated_point Left a) (rotated_point Left b) (rotated Left r) h in spans-MeetsRect a b r (meets_forth _ _ _ _ s.0) s.1,
)
meets Down a b r = (
  λ h. let s = MeetsRect-spans a b r h in spans-MeetsRect (rotated_point Down a) (rotated_point Down b) (rotated Down r) s.1 s.0,
  λ h. let s = MeetsRect-spans (rotated_point Down a) (rotated_point Down b) (rotated Down r) h in spans-MeetsRect a b r s.1 s.0,
)
meets Up a b r = (
  λ h. let s = MeetsRect-spans a b r h in spans-MeetsRect (rotated_point Up a) (rotated_point Up b) (rotated Up r) (meets_back _ _ _ _ s.1) s.0,
  λ h. let s = MeetsRect-spans (rotated_point Up a) (rotated_point Up b) (rotated Up r) h in spans-MeetsRect a b r s.1 (meets_forth _ _ _ _ s.0),
)

enters : (way : Direction) (a b : Point) (r : Rect) → EntersRect a b r ↔ EntersRect (rotated_point way a) (rotated_point way b) (rotated way r)
enters Right a b r = (λ h. h, λ h. h)
enters Left a b r = (
  λ h. let s = EntersRect-spans a b r h in spans-EntersRect (rotated_point Left a) (rotated_point Left b) (rotated Left r) (enters_back _ _ _ _ s.0) s.1,
  λ h. let s = EntersRect-spans (rotated_point Left a) (rotated_point Left b) (rotated Left r) h in spans-EntersRect a b r (enters_forth _ _ _ _ s.0) s.1,
)
enters Down a b r = (
  λ h. let s = EntersRect-spans a b r h in spans-EntersRect (rotated_point Down a) (rotated_point Down b) (rotated Down r) s.1 s.0,
  λ h. let s = EntersRect-spans (rotated_point Down a) (rotated_point Down b) (rotated Down r) h in spans-EntersRect a b r s.1 s.0,
)
enters Up a b r = (
  λ h. let s = EntersRect-spans a b r h in spans-EntersRect (rotated_point Up a) (rotated_point Up b) (rotated Up r) (enters_back _ _ _ _ s.1) s.0,
  λ h. let s = EntersRect-spans (rotated_point Up a) (rotated_point Up b) (rotated Up r) h in spans-EntersRect a b r s.1 (enters_forth _ _ _ _ s.0),
)

holds : (way : Direction) (r s : Rect) → Holds r s ↔ Holds (rotated way r) (rotated way s)
holds Right r s = (λ h. h, λ h. h)
holds Left r s = (λ h. omega (arith, ints), λ h. omega (arith, ints))
holds Down r s = (λ h. omega (arith, ints), λ h. omega (arith, ints))
holds Up r s = (λ h. omega (arith, ints), λ h. omega (arith, ints))

point_rotates : (way : Direction) (p : Point) → rotated way (point_rect p) ≡ point_rect (rotated_point way p)
point_rotates Right p = refl
point_rotates Left p = same_rect _ _ (omega (arith, ints)) refl refl refl
point_rotates Down p = refl
point_rotates Up p = same_rect _ _ (omega (arith, ints)) refl refl refl

pub boxes : BoxesRotate
boxes = record { point = point_rotates; holds = holds; meets = meets; enters = enters }

pub routes : RoutesRotate
routes = record { step = step; rotate = rotate }
