-- What is moved, and what stands clear.
use Rattle.std.proofs.Common.{◌≡◌, ◌⊎◌, ⊎_elim, [], ◌∷◌, map, ℤ, pos, ◌+ℤ◌, ◌≤ℤ◌, sym, ap, arith}
use Rattle.std.specs.Int.{int_min, int_max}
use Rattle.std.proofs.lemmas.Int.{ints, clamps}
use Rattle.std.proofs.lemmas.List.{map-append}
use Rattle.drawing_types.specs.declared.shape.Point.{Point}
use Rattle.drawing_types.specs.declared.shape.Rect.{Rect}
use Rattle.drawing_types.specs.declared.shape.Side.{Side}
use Rattle.drawing_types.specs.declared.shape.Side.TheVariants.{North, East, South, West}
use Rattle.drawing_types.specs.declared.section.Section.{Section}
use Rattle.drawing_types.specs.Clearance.{StandsClear}
use Rattle.elk_doc.specs.Drawing.{points_of}
use Rattle.drawing_types.specs.Clearance.{IsAboveBy, IsLeftBy}
use Rattle.elk_doc.specs.Places.{offset_on}
use Rattle.elk_doc.specs.PortsKept.{IsOnSide}
use Rattle.drawing_types.specs.Segments.{EntersRect, EntersSpan, MeetsRect, MeetsSpan, Share}
use Rattle.drawing_types.specs.Shapes.{Holds, moved_by, point_rect, right_of, bottom_of}
use Rattle.drawing_types.proofs.SegmentBounds.{EntersRect-spans, MeetsRect-spans}
use Rattle.drawing_types.proofs.SameShapes.{same_point}
use Rattle.rotated_levels.specs.Outlines.{shifted}
use Rattle.working_frame.specs.Drawing.{plus}
use Rattle.rotated_levels.specs.Joined.{moved_section}

joined : (a b c : ℤ) → (a +ℤ b) +ℤ c ≡ a +ℤ (b +ℤ c)
joined a b c = omega (arith, ints)

pub anchor_moved : (by b a : Point) → moved_by (point_rect (plus by b)) a ≡ plus by (moved_by (point_rect b) a)
anchor_moved by b a = same_point _ _ (joined by.x b.x a.x) (joined by.y b.y a.y)

pub side_moved : (s : Side) (by : Point) (r : Rect) (q : Point) → IsOnSide s r q → IsOnSide s (shifted by r) (plus by q)
side_moved North by r q h = omega (arith, ints, h)
side_moved East by r q h = omega (arith, ints, h)
side_moved South by r q h = omega (arith, ints, h)
side_moved West by r q h = omega (arith, ints, h)

pub offset_moved : (s : Side) (by : Point) (r : Rect) (q : Point) → offset_on s (shifted by r) (plus by q) ≡ offset_on s r q
offset_moved North by r q = omega (arith, ints)
offset_moved East by r q = omega (arith, ints)
offset_moved South by r q = omega (arith, ints)
offset_moved West by r q = omega (arith, ints)

pub left_moved : (gap : ℤ) (by : Point) (r s : Rect) → IsLeftBy gap r s → IsLeftBy gap (shifted by r) (shifted by s)
left_moved gap by r s h = omega (arith, ints, h)

pub above_moved : (gap : ℤ) (by : Point) (r s : Rect) → IsAboveBy gap r s → IsAboveBy gap (shifted by r) (shifted by s)
above_moved gap by r s h = omega (arith, ints, h)

pub points_moved : (by : Point) (s : Section) → points_of (moved_section by s) ≡ map (plus by) (points_of s)
points_moved by s = ap (λ ps. plus by s.start ∷ ps) (sym (map-append (plus by) s.bends (s.end ∷ [])))

-- ---- two rectangles that stand clear of one another, and what lies in them

meet_before : (gap hi low a b s t : ℤ) → pos 1 ≤ℤ gap → (hi +ℤ gap) ≤ℤ low → (a +ℤ pos 0) ≤ℤ hi → (b +ℤ pos 0) ≤ℤ hi → low ≤ℤ s → MeetsSpan a b s t → ⊥
meet_before gap hi low a b s t g clear ha hb hs m = let e = m.starts in omega (arith, ints, clamps, g, clear, ha, hb, hs, e)

meet_behind : (gap hi low a b s t : ℤ) → pos 1 ≤ℤ gap → (hi +ℤ gap) ≤ℤ low → low ≤ℤ a → low ≤ℤ b → (s +ℤ t) ≤ℤ hi → MeetsSpan a b s t → ⊥
meet_behind gap hi low a b s t g clear ha hb hs m = let e = m.ends in omega (arith, ints, clamps, g, clear, ha, hb, hs, e)

-- a segment in the one, and a rectangle in the other
pub clear_meets : (gap : ℤ) (p q : Rect) (a b : Point) (s : Rect) → pos 1 ≤ℤ gap → StandsClear gap p q ⊎ StandsClear gap q p → Holds p (point_rect a) → Holds p (point_rect b) → Holds q s → MeetsRect a b s → ⊥
clear_meets gap p q a b s g clear ha hb hs meets =
    let spans = MeetsRect-spans a b s meets in
    ⊎_elim
    (λ first. ⊎_elim
    (λ (left : IsLeftBy gap p q). meet_before gap (right_of p) q.x a.x b.x s.x s.width g left ha.right hb.right hs.left spans.0)
    (λ (above : IsAboveBy gap p q). meet_before gap (bottom_of p) q.y a.y b.y s.y s.height g above ha.bottom hb.bottom hs.top spans.1)
    first)
    (λ second. ⊎_elim
    (λ (left : IsLeftBy gap q p). meet_behind gap (right_of q) p.x a.x b.x s.x s.width g left ha.left hb.left hs.right spans.0)
    (λ (above : IsAboveBy gap q p). meet_behind gap (bottom_of q) p.y a.y b.y s.y s.height g above ha.top hb.top hs.bottom spans.1)
    second)
    clear

met : (a b low size : ℤ) → EntersSpan a b low size → MeetsSpan a b low size
met a b low size e =
    let real = e.real in
    let starts = e.starts in
    let ends = e.ends in
    record { real = omega (arith, ints, real); starts = omega (arith, ints, clamps, starts); ends = omega (arith, ints, clamps, ends) }

pub clear_enters : (gap : ℤ) (p q : Rect) (a b : Point) (s : Rect) → pos 1 ≤ℤ gap → StandsClear gap p q ⊎ StandsClear gap q p → Holds p (point_rect a) → Holds p (point_rect b) → Holds q s → EntersRect a b s → ⊥
clear_enters gap p q a b s g clear ha hb hs enters =
    let spans = EntersRect-spans a b s enters in
    let x = met a.x b.x s.x s.width spans.0 in
    let y = met a.y b.y s.y s.height spans.1 in
    ⊎_elim
    (λ first. ⊎_elim
    (λ (left : IsLeftBy gap p q). meet_before gap (right_of p) q.x a.x b.x s.x s.width g left ha.right hb.right hs.left x)
    (λ (above : IsAboveBy gap p q). meet_before gap (bottom_of p) q.y a.y b.y s.y s.height g above ha.bottom hb.bottom hs.top y)
    first)
    (λ second. ⊎_elim
    (λ (left : IsLeftBy gap q p). meet_behind gap (right_of q) p.x a.x b.x s.x s.width g left ha.left hb.left hs.right x)
    (λ (above : IsAboveBy gap q p). meet_behind gap (bottom_of q) p.y a.y b.y s.y s.height g above ha.top hb.top hs.bottom y)
    second)
    clear

below_both : (a b z hi : ℤ) → (a +ℤ pos 0) ≤ℤ hi → (b +ℤ pos 0) ≤ℤ hi → z ≤ℤ int_max a b → z ≤ℤ hi
below_both a b z hi ha hb h = omega (arith, ints, clamps, ha, hb, h)

above_both : (a b z low : ℤ) → low ≤ℤ a → low ≤ℤ b → int_min a b ≤ℤ z → low ≤ℤ z
above_both a b z low ha hb h = omega (arith, ints, clamps, ha, hb, h)

no_room : (gap hi low z : ℤ) → pos 1 ≤ℤ gap → (hi +ℤ gap) ≤ℤ low → z ≤ℤ hi → low ≤ℤ z → ⊥
no_room gap hi low z g clear h k = omega (arith, ints, g, clear, h, k)

-- a segment in each
pub clear_shares : (gap : ℤ) (p q : Rect) (a b c e : Point) → pos 1 ≤ℤ gap → StandsClear gap p q ⊎ StandsClear gap q p → Holds p (point_rect a) → Holds p (point_rect b) → Holds q (point_rect c) → Holds q (point_rect e)
    → Share a b c e → ⊥
clear_shares gap p q a b c e g clear ha hb hc he share =
    let z = share.one in
    let one = share.one_on_first in
    let two = share.one_on_second in
    ⊎_elim
    (λ first. ⊎_elim
    (λ (left : IsLeftBy gap p q). no_room gap (right_of p) q.x z.x g left (below_both a.x b.x z.x (right_of p) ha.right hb.right one.across.1) (above_both c.x e.x z.x q.x hc.left he.left two.across.0))
    (λ (above : IsAboveBy gap p q). no_room gap (bottom_of p) q.y z.y g above (below_both a.y b.y z.y (bottom_of p) ha.bottom hb.bottom one.along.1) (above_both c.y e.y z.y q.y hc.top he.top two.along.0))
    first)
    (λ second. ⊎_elim
    (λ (left : IsLeftBy gap q p). no_room gap (right_of q) p.x z.x g left (below_both c.x e.x z.x (right_of q) hc.right he.right two.across.1) (above_both a.x b.x z.x p.x ha.left hb.left one.across.0))
    (λ (above : IsAboveBy gap q p). no_room gap (bottom_of q) p.y z.y g above (below_both c.y e.y z.y (bottom_of q) hc.bottom he.bottom two.along.1) (above_both a.y b.y z.y p.y ha.top hb.top one.along.0))
    second)
    clear
