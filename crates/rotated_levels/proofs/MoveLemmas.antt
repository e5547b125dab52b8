-- Paths that are orthogonal, keep clear and share pieces, where everything is moved by a point.
use Rattle.std.proofs.Common.{◌≡◌, ◌≢◌, inl, inr, ⊎_elim, ℕ, ◌≤◌, List, map, length, ℤ, ◌+ℤ◌, ◌-ℤ◌, ap, arith}
use Rattle.std.proofs.lemmas.Int.{ints, clamps}
use Rattle.drawing_types.specs.declared.shape.Point.{Point}
use Rattle.drawing_types.specs.declared.shape.Rect.{Rect}
use Rattle.drawing_types.specs.declared.shape.Side.{Side}
use Rattle.drawing_types.specs.declared.shape.Side.TheVariants.{North, East, South, West}
use Rattle.drawing_types.specs.Segments.{IsBetween, IsOnSegment, MeetsRect, EntersRect, MeetsSpan, EntersSpan, Share}
use Rattle.elk_doc.specs.Route.{IsStep, IsTurn, LeavesOutward, IsOrthogonal}
use Rattle.elk_doc.specs.Clear.{IsClear}
use Rattle.elk_doc.specs.Sharing.{PathsShare}
use Rattle.drawing_types.proofs.SameShapes.{same_point}
use Rattle.elk_doc.proofs.PathLemmas.{orthogonal_there, clear_there, share_back}
use Rattle.drawing_types.proofs.SegmentBounds.{MeetsRect-spans, spans-MeetsRect, EntersRect-spans, spans-EntersRect}
use Rattle.working_frame.specs.Drawing.{plus}
use Rattle.rotated_levels.specs.Outlines.{shifted}

same_moved : (z a b : ℤ) → a ≡ b → (z +ℤ a) ≡ (z +ℤ b)
same_moved z a b e = ap (λ k. z +ℤ k) e

same_back : (z a b : ℤ) → (z +ℤ a) ≡ (z +ℤ b) → a ≡ b
same_back z a b e = omega (arith, ints, e)

step_moved : (by a b : Point) → IsStep a b → IsStep (plus by a) (plus by b)
step_moved by a b h =
    ⊎_elim
    (λ (u : (a.x ≡ b.x) × (a.y ≢ b.y)). inl (same_moved by.x a.x b.x u.0, λ e. u.1 (same_back by.y a.y b.y e)))
    (λ (u : (a.x ≢ b.x) × (a.y ≡ b.y)). inr (λ e. u.0 (same_back by.x a.x b.x e), same_moved by.y a.y b.y u.1))
    h

rotate_moved : (by a b c : Point) → IsTurn a b c → IsTurn (plus by a) (plus by b) (plus by c)
rotate_moved by a b c h =
    record {
      from_upright = λ e. same_moved by.y b.y c.y (h.from_upright (same_back by.x a.x b.x e));
      from_level = λ e. same_moved by.x b.x c.x (h.from_level (same_back by.y a.y b.y e));
    }

outward_moved : (by : Point) (s : Side) (a b : Point) → LeavesOutward s a b → LeavesOutward s (plus by a) (plus by b)
outward_moved by North a b h = omega (arith, ints, h)
outward_moved by East a b h = omega (arith, ints, h)
outward_moved by South a b h = omega (arith, ints, h)
outward_moved by West a b h = omega (arith, ints, h)

meets_span : (z a b low size : ℤ) → MeetsSpan (z +ℤ a) (z +ℤ b) (z +ℤ low) size → MeetsSpan a b low size
meets_span z a b low size h = omega (arith, ints, clamps)

enters_span : (z a b low size : ℤ) → EntersSpan (z +ℤ a) (z +ℤ b) (z +ℤ low) size → EntersSpan a b low size
enters_span z a b low size h = omega (arith, ints, clamps)

meets_back : (by a b : Point) (r : Rect) → MeetsRect (plus by a) (plus by b) (shifted by r) → MeetsRect a b r
meets_back by a b r h =
    let s = MeetsRect-spans (plus by a) (plus by b) (shifted by r) h in
    spans-MeetsRect a b r (meets_span by.x a.x b.x r.x r.width s.0) (meets_span by.y a.y b.y r.y r.height s.1)

enters_back : (by a b : Point) (r : Rect) → EntersRect (plus by a) (plus by b) (shifted by r) → EntersRect a b r
enters_back by a b r h =
    let s = EntersRect-spans (plus by a) (plus by b) (shifted by r) h in
    spans-EntersRect a b r (enters_span by.x a.x b.x r.x r.width s.0) (enters_span by.y a.y b.y r.y r.height s.1)

-- a point that is moved back
abbrev minus : Point → Point → Point
minus by q = record { x = q.x -ℤ by.x; y = q.y -ℤ by.y }

between_back : (z a b q : ℤ) → IsBetween (z +ℤ a) (z +ℤ b) q → IsBetween a b (q -ℤ z)
between_back z a b q h = omega (arith, ints, clamps)

segment_back : (by a b q : Point) → IsOnSegment (plus by a) (plus by b) q → IsOnSegment a b (minus by q)
segment_back by a b q h = record { across = between_back by.x a.x b.x q.x h.across; along = between_back by.y a.y b.y q.y h.along }

less_same : (z a b : ℤ) → (a -ℤ z) ≡ (b -ℤ z) → a ≡ b
less_same z a b e = omega (arith, ints, e)

share_unmoved : (by a b c e : Point) → Share (plus by a) (plus by b) (plus by c) (plus by e) → Share a b c e
share_unmoved by a b c e s =
    record {
      one = minus by s.one;
      other = minus by s.other;
      differ = λ q. s.differ (same_point s.one s.other (less_same by.x s.one.x s.other.x (ap (λ (k : Point). k.x) q)) (less_same by.y s.one.y s.other.y (ap (λ (k : Point). k.y) q)));
      one_on_first = segment_back by a b s.one s.one_on_first;
      one_on_second = segment_back by c e s.one s.one_on_second;
      other_on_first = segment_back by a b s.other s.other_on_first;
      other_on_second = segment_back by c e s.other s.other_on_second;
    }

-- ---- paths

pub orthogonal_moved : (by : Point) (path : List Point) (s t : Side) → 2 ≤ length path → IsOrthogonal path s t → IsOrthogonal (map (plus by) path) s t
orthogonal_moved by path s t some = orthogonal_there (plus by) path s t s t (step_moved by) (rotate_moved by) (outward_moved by s) (outward_moved by t) some

pub clear_moved : (by : Point) (path : List Point) (s t c : ℕ) (outline box : Rect) → IsClear path s t c outline box → IsClear (map (plus by) path) s t c (shifted by outline) (shifted by box)
clear_moved by path s t c outline box = clear_there (plus by) path (shifted by) s t c outline box (meets_back by) (enters_back by)

pub sharing_unmoved : (by : Point) (path other : List Point) → PathsShare (map (plus by) path) (map (plus by) other) → PathsShare path other
sharing_unmoved by path other = share_back (plus by) path other (share_unmoved by)
