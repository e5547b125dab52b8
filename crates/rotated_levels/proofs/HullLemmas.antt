-- Hulls of rectangles in any order, rotated and moved.
use Rattle.std.proofs.Common.{◌≡◌, ℕ, suc, ◌+◌, ◌<◌, List, [], ◌∷◌, ◌++◌, length, get_or, ℤ, ◌+ℤ◌, ◌-ℤ◌, neg_ℤ, refl, ap, ◌∙◌, arith}
use Rattle.std.specs.List.{range_with_len}
use Rattle.std.specs.Int.{int_min, int_max}
use Rattle.std.proofs.lemmas.Int.{ints, clamps}
use Rattle.drawing_types.specs.declared.shape.Point.{Point}
use Rattle.drawing_types.specs.declared.shape.Size.{Size}
use Rattle.drawing_types.specs.declared.shape.Rect.{Rect}
use Rattle.elk_doc.specs.declared.document.Direction.{Direction}
use Rattle.elk_doc.specs.declared.document.Direction.TheVariants.{Right, Left, Down, Up}
use Rattle.elk_doc.specs.Shapes.{rotated}
use Rattle.drawing_types.specs.Shapes.{hull, hull_size, rect_at, moved_by}
use Rattle.drawing_types.proofs.SameShapes.{same_rect}
use Rattle.working_frame.specs.Rotated.{rotated_size, rotated_place}
use Rattle.rotated_levels.specs.Outlines.{shifted}

-- the least rectangle that holds one and those of some numbers
unfoldable pub hulls : Rect → (ℕ → Rect) → List ℕ → Rect
hulls r f [] = r
hulls r f (k ∷ ks) = hull (hulls r f ks) (f k)

-- ---- hulls in any order

low_swap : (a b c : ℤ) → int_min (int_min a b) c ≡ int_min (int_min a c) b
low_swap a b c = omega (arith, ints, clamps)

high_swap : (a b c : ℤ) → int_max (int_max a b) c ≡ int_max (int_max a c) b
high_swap a b c = omega (arith, ints, clamps)

-- the far end of a hull's stretch
far : (a s b t : ℤ) → int_min a b +ℤ hull_size a s b t ≡ int_max (a +ℤ s) (b +ℤ t)
far a s b t = back (int_min a b) (int_max (a +ℤ s) (b +ℤ t))
  where
    back : (x y : ℤ) → x +ℤ (y -ℤ x) ≡ y
    back x y = omega (arith, ints)

size_swap : (a s b t c u : ℤ) → hull_size (int_min a b) (hull_size a s b t) c u ≡ hull_size (int_min a c) (hull_size a s c u) b t
size_swap a s b t c u =
    rw (far a s b t, far a s c u, high_swap (a +ℤ s) (b +ℤ t) (c +ℤ u), low_swap a b c) refl

hull_swap : (r s t : Rect) → hull (hull r s) t ≡ hull (hull r t) s
hull_swap r s t =
    same_rect _ _ (low_swap r.x s.x t.x) (low_swap r.y s.y t.y) (size_swap r.x r.width s.x s.width t.x t.width) (size_swap r.y r.height s.y s.height t.y t.height)

pub hulls_push : (r : Rect) (f : ℕ → Rect) (ks : List ℕ) (k : ℕ) → hulls r f (ks ++ k ∷ []) ≡ hull (hulls r f ks) (f k)
unfolding hulls
hulls_push r f [] k = refl
hulls_push r f (j ∷ ks) k = ap (λ z. hull z (f j)) (hulls_push r f ks k) ∙ hull_swap (hulls r f ks) (f k) (f j)

-- ---- hulls that are rotated and moved

rotated_far : (a s b t : ℤ) → neg_ℤ (int_min a b +ℤ hull_size a s b t) ≡ int_min (neg_ℤ (a +ℤ s)) (neg_ℤ (b +ℤ t))
rotated_far a s b t = rw (far a s b t) (flip (a +ℤ s) (b +ℤ t))
  where
    flip : (x y : ℤ) → neg_ℤ (int_max x y) ≡ int_min (neg_ℤ x) (neg_ℤ y)
    flip x y = omega (arith, ints, clamps)

rotated_size_of : (a s b t : ℤ) → hull_size a s b t ≡ hull_size (neg_ℤ (a +ℤ s)) s (neg_ℤ (b +ℤ t)) t
rotated_size_of a s b t = flip a (a +ℤ s) b (b +ℤ t) s t refl refl
  where
    flip : (a p b q s t : ℤ) → p ≡ a +ℤ s → q ≡ b +ℤ t → int_max p q -ℤ int_min a b ≡ int_max (neg_ℤ p +ℤ s) (neg_ℤ q +ℤ t) -ℤ int_min (neg_ℤ p) (neg_ℤ q)
    flip a p b q s t e f = omega (arith, ints, clamps)

pub hull_rotated : (way : Direction) (r s : Rect) → rotated way (hull r s) ≡ hull (rotated way r) (rotated way s)
hull_rotated Right r s = refl
hull_rotated Left r s = same_rect _ _ (rotated_far r.x r.width s.x s.width) refl (rotated_size_of r.x r.width s.x s.width) refl
hull_rotated Down r s = refl
hull_rotated Up r s = same_rect _ _ (rotated_far r.y r.height s.y s.height) refl (rotated_size_of r.y r.height s.y s.height) refl

low_moved : (m a b : ℤ) → m +ℤ int_min a b ≡ int_min (m +ℤ a) (m +ℤ b)
low_moved m a b = omega (arith, ints, clamps)

size_moved : (m a s b t : ℤ) → hull_size a s b t ≡ hull_size (m +ℤ a) s (m +ℤ b) t
size_moved m a s b t = flip m (a +ℤ s) (b +ℤ t) a b s t refl refl
  where
    flip : (m p q a b s t : ℤ) → p ≡ a +ℤ s → q ≡ b +ℤ t → int_max p q -ℤ int_min a b ≡ int_max ((m +ℤ a) +ℤ s) ((m +ℤ b) +ℤ t) -ℤ int_min (m +ℤ a) (m +ℤ b)
    flip m p q a b s t e f = omega (arith, ints, clamps)

pub hull_moved : (by : Point) (r s : Rect) → shifted by (hull r s) ≡ hull (shifted by r) (shifted by s)
hull_moved by r s = same_rect _ _ (low_moved by.x r.x s.x) (low_moved by.y r.y s.y) (size_moved by.x r.x r.width s.x s.width) (size_moved by.y r.y r.height s.y s.height)

pub hulls_rotated : (way : Direction) (r : Rect) (f : ℕ → Rect) (ks : List ℕ) → rotated way (hulls r f ks) ≡ hulls (rotated way r) (λ k. rotated way (f k)) ks
unfolding hulls
hulls_rotated way r f [] = refl
hulls_rotated way r f (k ∷ ks) = hull_rotated way (hulls r f ks) (f k) ∙ ap (λ z. hull z (rotated way (f k))) (hulls_rotated way r f ks)

pub hulls_moved : (by : Point) (r : Rect) (f : ℕ → Rect) (ks : List ℕ) → shifted by (hulls r f ks) ≡ hulls (shifted by r) (λ k. shifted by (f k)) ks
unfolding hulls
hulls_moved by r f [] = refl
hulls_moved by r f (k ∷ ks) = hull_moved by (hulls r f ks) (f k) ∙ ap (λ z. hull z (shifted by (f k))) (hulls_moved by r f ks)

-- the rectangles of a list's numbers are those of a range
pub hulls_range : (r : Rect) (f g : ℕ → Rect) (xs : List ℕ) (a : ℕ) → ((j : ℕ) → j < length xs → f (get_or xs j 0) ≡ g (a + j))
    → hulls r f xs ≡ hulls r g (range_with_len a (length xs))
unfolding hulls
hulls_range r f g [] a same = refl
hulls_range r f g (x ∷ xs) a same =
    let first : f x ≡ g a = same 0 (omega arith) ∙ ap g (omega arith) in
    let rest = hulls_range r f g xs (a + 1) (λ j h. same (suc j) (omega (arith, h)) ∙ ap g (omega arith)) in
    ap (λ z. hull z (f x)) rest ∙ ap (hull (hulls r g (range_with_len (a + 1) (length xs)))) first

-- ---- a port's box

-- something of this size at a place in a box, in the frame
pub place_rotated : (way : Direction) (b : Rect) (q : Point) (s : Size)
    → rotated way (rect_at (moved_by b q) s) ≡ rect_at (moved_by (rotated way b) (rotated_place way (record { width = b.width; height = b.height }) s q)) (rotated_size way s)
place_rotated Right b q s = refl
place_rotated Left b q s = same_rect _ _ (mirrored b.x b.width q.x s.width) refl refl refl
  where
    mirrored : (x w q s : ℤ) → neg_ℤ ((x +ℤ q) +ℤ s) ≡ neg_ℤ (x +ℤ w) +ℤ (w -ℤ (q +ℤ s))
    mirrored x w q s = omega (arith, ints)
place_rotated Down b q s = refl
place_rotated Up b q s = same_rect _ _ (mirrored b.y b.height q.y s.height) refl refl refl
  where
    mirrored : (x w q s : ℤ) → neg_ℤ ((x +ℤ q) +ℤ s) ≡ neg_ℤ (x +ℤ w) +ℤ (w -ℤ (q +ℤ s))
    mirrored x w q s = omega (arith, ints)

pub place_moved : (by : Point) (b : Rect) (q : Point) (s : Size) → rect_at (moved_by (shifted by b) q) s ≡ shifted by (rect_at (moved_by b q) s)
place_moved by b q s = same_rect _ _ (assoc by.x b.x q.x) (assoc by.y b.y q.y) refl refl
  where
    assoc : (a b c : ℤ) → (a +ℤ b) +ℤ c ≡ a +ℤ (b +ℤ c)
    assoc a b c = omega (arith, ints)
