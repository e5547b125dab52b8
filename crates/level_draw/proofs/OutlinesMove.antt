-- Outlines and sections that are moved, and how far they reach then.
use Rattle.std.proofs.Common.{◌≡◌, ℕ, zero, suc, ◌+◌, ◌<◌, List, [], ◌∷◌, ◌++◌, map, length, ℤ, pos, ◌+ℤ◌, ◌-ℤ◌, arith, refl, sym, ◌∙◌, ap, ap₂}
use Rattle.std.proofs.lemmas.Int.{ints, clamps}
use Rattle.std.proofs.lemmas.List.{get_or-map, map-append}
use Rattle.std.specs.Int.{int_min, int_max}
use Rattle.std.specs.List.{range_with_len}
use Rattle.drawing_types.specs.declared.shape.Point.{Point}
use Rattle.drawing_types.specs.declared.shape.Rect.{Rect}
use Rattle.drawing_types.specs.declared.shape.Size.{Size}
use Rattle.drawing_types.specs.declared.section.Section.{Section}
use Rattle.drawing_types.specs.Shapes.{origin}
use Rattle.drawing_types.specs.Shapes.{hull, moved_by, rect_at}
use Rattle.drawing_types.proofs.SameShapes.{same_point, same_rect}
use Rattle.port_order.specs.Child.{port_at}
use Rattle.level_model.specs.Level.{PlainLevel, child_at}
use Rattle.level_model.specs.FromPlan.{LevelDrawing}
use Rattle.level_model.specs.Apart.{drawn_box, drawn_port, drawn_outline, drawn_outline_from}
use Rattle.working_frame.specs.declared.spanning.Reach.{Reach}
use Rattle.working_frame.specs.Reach.{IsReach, abscissae, corners_of, greatest, heights, least, points_along, points_of, reached}
use Rattle.working_frame.proofs.Spanned.{moves}
use Rattle.working_frame.specs.Moved.{moved, moved_point, moved_section}
use Rattle.level_draw.specs.Drawing.{outlines_in}

-- a rectangle, moved to the left and up
abbrev pub moved_rect : ℤ → ℤ → Rect → Rect
moved_rect x y r = record { x = r.x -ℤ x; y = r.y -ℤ y; width = r.width; height = r.height }

low_moves : (a b x : ℤ) → int_min (a -ℤ x) (b -ℤ x) ≡ int_min a b -ℤ x
low_moves a b x = omega (arith, ints, clamps)

span_moves : (a k b m x : ℤ) → (int_max ((a -ℤ x) +ℤ k) ((b -ℤ x) +ℤ m) -ℤ int_min (a -ℤ x) (b -ℤ x)) ≡ (int_max (a +ℤ k) (b +ℤ m) -ℤ int_min a b)
span_moves a k b m x = omega (arith, ints, clamps)

hull_moves : (x y : ℤ) (r s : Rect) → hull (moved_rect x y r) (moved_rect x y s) ≡ moved_rect x y (hull r s)
hull_moves x y r s =
    same_rect _ _ (low_moves r.x s.x x) (low_moves r.y s.y y) (span_moves r.x r.width s.x s.width x) (span_moves r.y r.height s.y s.height y)

swapped : (a b x : ℤ) → (a -ℤ x) +ℤ b ≡ (a +ℤ b) -ℤ x
swapped a b x = omega (arith, ints)

port_moves : (x y : ℤ) (r : Rect) (q : Point) (s : Size) → rect_at (moved_by (moved_rect x y r) q) s ≡ moved_rect x y (rect_at (moved_by r q) s)
port_moves x y r q s = same_rect _ _ (swapped r.x q.x x) (swapped r.y q.y y) refl refl

module _ (l : PlainLevel) (d : LevelDrawing) (x y : ℤ) (c : ℕ) (there : c < length d.boxes) where
  box_moves : drawn_box l (moved x y d) c ≡ moved_rect x y (drawn_box l d c)
  box_moves = ap (λ (q : Point). rect_at q (child_at l c).size) (get_or-map (moved_point x y) d.boxes c _ _ there)

  from_moves : (ks : List ℕ) → drawn_outline_from l (moved x y d) c ks ≡ moved_rect x y (drawn_outline_from l d c ks)
  from_moves [] = box_moves
  from_moves (k ∷ ks) =
      ap₂ hull (from_moves ks)
      (ap (λ (r : Rect). rect_at (moved_by r (drawn_port d c k)) (port_at (child_at l c) k).size) box_moves ∙ port_moves x y (drawn_box l d c) (drawn_port d c k) (port_at (child_at l c) k).size)
      ∙ hull_moves x y (drawn_outline_from l d c ks) (rect_at (moved_by (drawn_box l d c) (drawn_port d c k)) (port_at (child_at l c) k).size)

  outline_moves : drawn_outline l (moved x y d) c ≡ moved_rect x y (drawn_outline l d c)
  outline_moves = from_moves (range_with_len 0 (length (child_at l c).ports))

-- ---- all outlines

some_move : (l : PlainLevel) (d : LevelDrawing) (x y : ℤ) (a n : ℕ) → ((c : ℕ) → c < n → a + c < length d.boxes)
    → map (drawn_outline l (moved x y d)) (range_with_len a n) ≡ map (moved_rect x y) (map (drawn_outline l d) (range_with_len a n))
some_move l d x y a zero there = refl
some_move l d x y a (suc n) there = ap₂ (λ (r : Rect) (rs : List Rect). r ∷ rs) (outline_moves l d x y a first) (some_move l d x y (a + 1) n (λ c h. later c h))
  where
    first : a < length d.boxes
    first = let h = there 0 (omega arith) in omega (arith, h)

    later : (c : ℕ) → c < n → a + 1 + c < length d.boxes
    later c h = let k = there (suc c) (omega (arith, h)) in omega (arith, k)

pub outlines_move : (l : PlainLevel) (d : LevelDrawing) (x y : ℤ) → length d.boxes ≡ length l.children → outlines_in l (moved x y d) ≡ map (moved_rect x y) (outlines_in l d)
outlines_move l d x y many = some_move l d x y 0 (length l.children) (λ c h. omega (arith, h, many))

corners_move : (x y : ℤ) (rs : List Rect) → corners_of (map (moved_rect x y) rs) ≡ map (moved_point x y) (corners_of rs)
unfolding corners_of
corners_move x y [] = refl
corners_move x y (r ∷ rs) =
    ap₂ (λ (q : Point) (ps : List Point). record { x = r.x -ℤ x; y = r.y -ℤ y } ∷ (q ∷ ps))
    (same_point _ _ (swapped r.x r.width x) (swapped r.y r.height y)) (corners_move x y rs)

along_moves : (x y : ℤ) (s : Section) → points_along (moved_section x y s) ≡ map (moved_point x y) (points_along s)
along_moves x y s = ap (λ (ps : List Point). moved_point x y s.start ∷ ps) (sym (map-append (moved_point x y) s.bends (s.end ∷ [])))

points_move : (x y : ℤ) (ss : List Section) → points_of (map (moved_section x y) ss) ≡ map (moved_point x y) (points_of ss)
unfolding points_of
points_move x y [] = refl
points_move x y (s ∷ ss) =
    ap₂ (λ (ps qs : List Point). ps ++ qs) (along_moves x y s) (points_move x y ss) ∙ sym (map-append (moved_point x y) (points_along s) (points_of ss))

pub reached_moves : (x y : ℤ) (rs : List Rect) (ss : List Section) → reached (map (moved_rect x y) rs) (map (moved_section x y) ss) ≡ map (moved_point x y) (reached rs ss)
reached_moves x y rs ss =
    ap₂ (λ (ps qs : List Point). ps ++ qs) (corners_move x y rs) (points_move x y ss) ∙ sym (map-append (moved_point x y) (corners_of rs) (points_of ss))

-- ---- the reach

abscissae_move : (x y : ℤ) (ps : List Point) → abscissae (map (moved_point x y) ps) ≡ map (λ z. z -ℤ x) (abscissae ps)
abscissae_move x y [] = refl
abscissae_move x y (p ∷ ps) = ap (λ (zs : List ℤ). (p.x -ℤ x) ∷ zs) (abscissae_move x y ps)

heights_move : (x y : ℤ) (ps : List Point) → heights (map (moved_point x y) ps) ≡ map (λ z. z -ℤ y) (heights ps)
heights_move x y [] = refl
heights_move x y (p ∷ ps) = ap (λ (zs : List ℤ). (p.y -ℤ y) ∷ zs) (heights_move x y ps)

none_left : (a : ℤ) → a ≡ pos 0 → pos 0 ≡ pos 0 -ℤ a
none_left a e = omega (arith, ints, e)

-- numbers from which their least is taken begin at 0, and end at how far they reached
least_taken : (a : ℤ) (zs : List ℤ) → a ≡ least zs → pos 0 ≡ least (map (λ z. z -ℤ a) zs)
unfolding least
least_taken a [] e = refl
least_taken a (z ∷ zs) e = taken a (least (z ∷ zs)) e ∙ sym (moves a z zs).low
  where
    taken : (a b : ℤ) → a ≡ b → pos 0 ≡ b -ℤ a
    taken a b e = omega (arith, ints, e)

greatest_taken : (a b : ℤ) (zs : List ℤ) → a ≡ least zs → b ≡ greatest zs → (b -ℤ a) ≡ greatest (map (λ z. z -ℤ a) zs)
unfolding least greatest
greatest_taken a b [] e f = omega (arith, ints, e, f)
greatest_taken a b (z ∷ zs) e f = ap (λ k. k -ℤ a) f ∙ sym (moves a z zs).high

pub reach_taken : (r : Reach) (ps : List Point) → IsReach ps r
    → IsReach (map (moved_point r.low.x r.low.y) ps) (record { low = origin; high = record { x = r.high.x -ℤ r.low.x; y = r.high.y -ℤ r.low.y } })
reach_taken r ps reach =
    record {
      left = least_taken r.low.x (abscissae ps) reach.left ∙ ap least (sym (abscissae_move r.low.x r.low.y ps));
      top = least_taken r.low.y (heights ps) reach.top ∙ ap least (sym (heights_move r.low.x r.low.y ps));
      right = greatest_taken r.low.x r.high.x (abscissae ps) reach.left reach.right ∙ ap greatest (sym (abscissae_move r.low.x r.low.y ps));
      bottom = greatest_taken r.low.y r.high.y (heights ps) reach.top reach.bottom ∙ ap greatest (sym (heights_move r.low.x r.low.y ps));
    }
