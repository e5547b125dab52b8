-- A frame round a drawing: what it holds, and that the drawing is no larger.
use Rattle.std.proofs.Common.{◌≡◌, inl, inr, ℕ, suc, ◌<◌, List, [], ◌∷◌, ◌++◌, map, length, ℤ, pos, ◌-ℤ◌, ◌≤ℤ◌, refl, sym, subst, ◌∙◌, arith}
use Rattle.std.proofs.lemmas.Int.{clamps, ints}
use Rattle.std.specs.Prelude.{slice_index_or}
use Rattle.std.specs.Int.{int_max, int_min}
use Rattle.drawing_types.specs.declared.shape.Point.{Point}
use Rattle.drawing_types.specs.declared.shape.Rect.{Rect}
use Rattle.drawing_types.specs.declared.section.Section.{Section}
use Rattle.drawing_types.specs.Shapes.{bottom_of, right_of}
use Rattle.drawing_types.specs.Ranges.{IsWithin}
use Rattle.drawing_types.specs.Segments.{IsBetween}
use Rattle.route_lines.specs.Tidied.{Drops, equal, middle, later, DropsSome, none, more, IsSectionOf, one, many}
use Rattle.working_frame.specs.declared.spanning.Reach.{Reach}
use Rattle.level_model.proofs.Lists.{Has}
use Rattle.working_frame.specs.Reach.{IsReach, abscissae, corners_of, greatest, heights, least, points_along, points_of, reached}

-- a rectangle by its sides, with its border
pub record Frame : Type 0 where
  pub left : ℤ
  pub right : ℤ
  pub top : ℤ
  pub bottom : ℤ

pub record Holds (f : Frame) (p : Point) : Type 0 where
  pub x : IsWithin f.left f.right p.x
  pub y : IsWithin f.top f.bottom p.y

pub between : (low high a b z : ℤ) → IsWithin low high a → IsWithin low high b → IsBetween a b z → IsWithin low high z
between low high a b z wa wb h =
    let a0 = wa.above in
    let a1 = wa.below in
    let b0 = wb.above in
    let b1 = wb.below in
    let h0 = h.0 in
    let h1 = h.1 in
    record { above = omega (arith, ints, clamps, a0, b0, h0); below = omega (arith, ints, clamps, a1, b1, h1) }

-- ---- lists of points

abbrev pub Each : (Point → Type 0) → List Point → Type 0
Each P [] = Unit {0}
Each P (q ∷ qs) = P q × Each P qs

each_append : (P : Point → Type 0) (ps qs : List Point) → Each P ps → Each P qs → Each P (ps ++ qs)
each_append P [] qs h k = k
each_append P (p ∷ ps) qs h k = (h.0, each_append P ps qs h.1 k)

-- points that are left when some are dropped
drop_each : (P : Point → Type 0) (ps qs : List Point) → Drops ps qs → Each P ps → Each P qs
drop_each P _ _ (equal a b ps same) h = h.1
drop_each P _ _ (middle a b c ps between) h = (h.0, h.1.1)
drop_each P _ _ (later a ps qs drops) h = (h.0, drop_each P ps qs drops h.1)

pub drops_each : (P : Point → Type 0) (ps qs : List Point) → DropsSome ps qs → Each P ps → Each P qs
drops_each P _ _ (none ps) h = h
drops_each P _ _ (more ps qs rs drops rest) h = drops_each P qs rs rest (drop_each P ps qs drops h)

pub section_each : (P : Point → Type 0) (ps : List Point) (s : Section) → IsSectionOf ps s → Each P ps → Each P (points_along s)
section_each P _ _ (one p s start bends end) h =
    (subst P (sym start) h.0, subst (λ (qs : List Point). Each P (qs ++ s.end ∷ [])) (sym bends) (subst P (sym end) h.0, tt))
section_each P _ _ (many s) h = h

-- ---- the reach of points

sides_within : (low high w l g : ℤ) → pos 0 ≡ l → w ≡ g → IsWithin low high l → IsWithin low high g → w ≤ℤ (high -ℤ low)
sides_within low high w l g e k wl wg = let a = wl.above in let b = wg.below in omega (arith, ints, e, k, a, b)

min_within : (low high a b : ℤ) → IsWithin low high a → IsWithin low high b → IsWithin low high (int_min a b)
min_within low high a b h k =
    let h0 = h.above in let h1 = h.below in let k0 = k.above in let k1 = k.below in
    record { above = omega (arith, ints, clamps, h0, k0); below = omega (arith, ints, clamps, h1, k1) }

max_within : (low high a b : ℤ) → IsWithin low high a → IsWithin low high b → IsWithin low high (int_max a b)
max_within low high a b h k =
    let h0 = h.above in let h1 = h.below in let k0 = k.above in let k1 = k.below in
    record { above = omega (arith, ints, clamps, h0, k0); below = omega (arith, ints, clamps, h1, k1) }

module _ (f : Frame) where
  least_x : (p : Point) (ps : List Point) → Each (Holds f) (p ∷ ps) → IsWithin f.left f.right (least (abscissae (p ∷ ps)))
  unfolding least
  least_x p [] h = h.0.x
  least_x p (q ∷ ps) h = min_within f.left f.right p.x _ h.0.x (least_x q ps h.1)

  greatest_x : (p : Point) (ps : List Point) → Each (Holds f) (p ∷ ps) → IsWithin f.left f.right (greatest (abscissae (p ∷ ps)))
  unfolding greatest
  greatest_x p [] h = h.0.x
  greatest_x p (q ∷ ps) h = max_within f.left f.right p.x _ h.0.x (greatest_x q ps h.1)

  least_y : (p : Point) (ps : List Point) → Each (Holds f) (p ∷ ps) → IsWithin f.top f.bottom (least (heights (p ∷ ps)))
  unfolding least
  least_y p [] h = h.0.y
  least_y p (q ∷ ps) h = min_within f.top f.bottom p.y _ h.0.y (least_y q ps h.1)

  greatest_y : (p : Point) (ps : List Point) → Each (Holds f) (p ∷ ps) → IsWithin f.top f.bottom (greatest (heights (p ∷ ps)))
  unfolding greatest
  greatest_y p [] h = h.0.y
  greatest_y p (q ∷ ps) h = max_within f.top f.bottom p.y _ h.0.y (greatest_y q ps h.1)

  empty_side : (low high w : ℤ) → low ≤ℤ high → w ≡ pos 0 → w ≤ℤ (high -ℤ low)
  empty_side low high w h e = omega (arith, ints, h, e)

  -- points that a frame holds reach no further than it is wide and high
  pub reach_width : (ps : List Point) (r : Reach) → f.left ≤ℤ f.right → r.low.x ≡ pos 0 → IsReach ps r → Each (Holds f) ps → r.high.x ≤ℤ (f.right -ℤ f.left)
  unfolding least greatest
  reach_width [] r wide at_zero reach h = empty_side f.left f.right r.high.x wide reach.right
  reach_width (p ∷ ps) r wide at_zero reach h =
      sides_within f.left f.right r.high.x (least (abscissae (p ∷ ps))) (greatest (abscissae (p ∷ ps))) (sym at_zero ∙ reach.left) reach.right (least_x p ps h) (greatest_x p ps h)

  pub reach_height : (ps : List Point) (r : Reach) → f.top ≤ℤ f.bottom → r.low.y ≡ pos 0 → IsReach ps r → Each (Holds f) ps → r.high.y ≤ℤ (f.bottom -ℤ f.top)
  unfolding least greatest
  reach_height [] r high at_zero reach h = empty_side f.top f.bottom r.high.y high reach.bottom
  reach_height (p ∷ ps) r high at_zero reach h =
      sides_within f.top f.bottom r.high.y (least (heights (p ∷ ps))) (greatest (heights (p ∷ ps))) (sym at_zero ∙ reach.top) reach.bottom (least_y p ps h) (greatest_y p ps h)

-- ---- outlines and sections

pub corners_each : (P : Point → Type 0) (g : ℕ → Rect) (cs : List ℕ) → ((c : ℕ) → Has cs c → P (record { x = (g c).x; y = (g c).y }) × P (record { x = right_of (g c); y = bottom_of (g c) }))
    → Each P (corners_of (map g cs))
unfolding corners_of
corners_each P g [] h = tt
corners_each P g (c ∷ cs) h = let here = h c (inl refl) in (here.0, (here.1, corners_each P g cs (λ b k. h b (inr k))))

pub sections_each : (P : Point → Type 0) (ss : List Section) (d : Section) → ((e : ℕ) → e < length ss → Each P (points_along (slice_index_or ss e d))) → Each P (points_of ss)
unfolding points_of
sections_each P [] d h = tt
sections_each P (s ∷ ss) d h =
    each_append P (points_along s) (points_of ss) (h 0 (omega arith)) (sections_each P ss d (λ e less. h (suc e) (omega (arith, less))))

pub reached_each : (P : Point → Type 0) (rs : List Rect) (ss : List Section) → Each P (corners_of rs) → Each P (points_of ss) → Each P (reached rs ss)
reached_each P rs ss h k = each_append P (corners_of rs) (points_of ss) h k
