-- What outlines and routes have as their least and greatest coordinates.
use Rattle.std.proofs.Common.{◌≡◌, ◌⊎◌, inl, inr, ⊎_elim, List, [], ◌∷◌, ℤ, pos, ◌+ℤ◌, ◌≤ℤ◌, refl, sym, ap, ◌∙◌, subst, arith}
use Rattle.std.specs.Int.{int_min, int_max}
use Rattle.std.proofs.lemmas.Int.{ints, clamps}
use Rattle.drawing_types.specs.declared.shape.Point.{Point}
use Rattle.drawing_types.specs.declared.shape.Rect.{Rect}
use Rattle.drawing_types.specs.declared.section.Section.{Section}
use Rattle.drawing_types.specs.Shapes.{right_of, bottom_of, point_rect}
use Rattle.drawing_types.proofs.SameShapes.{same_point}
use Rattle.working_frame.specs.Reach.{corners_of, points_of, reached, least, greatest, abscissae, heights, IsReach}
use Rattle.level_model.proofs.Lists.{Has, has_map, map_has, has_left, has_right, append_has}

-- ---- least and greatest numbers

low_first : (z y : ℤ) → int_min z y ≤ℤ z
low_first z y = omega (arith, ints, clamps)

low_second : (z y : ℤ) → int_min z y ≤ℤ y
low_second z y = omega (arith, ints, clamps)

high_first : (z y : ℤ) → z ≤ℤ int_max z y
high_first z y = omega (arith, ints, clamps)

high_second : (z y : ℤ) → y ≤ℤ int_max z y
high_second z y = omega (arith, ints, clamps)

low_case : (z y : ℤ) → (int_min z y ≡ z) ⊎ (int_min z y ≡ y)
low_case z y = grind (arith, ints, clamps)

high_case : (z y : ℤ) → (int_max z y ≡ z) ⊎ (int_max z y ≡ y)
high_case z y = grind (arith, ints, clamps)

same_up : (a b : ℤ) → a ≡ b → a ≤ℤ b
same_up a b e = omega (arith, ints, e)

below : (a b c : ℤ) → a ≤ℤ b → b ≤ℤ c → a ≤ℤ c
below a b c h k = omega (arith, ints, h, k)

pub least_low : (zs : List ℤ) (z : ℤ) → Has zs z → least zs ≤ℤ z
unfolding least
least_low [] z h = absurd h
least_low (y ∷ []) z h = ⊎_elim (λ e. same_up y z e) (λ none. absurd none) h
least_low (y ∷ x ∷ zs) z h =
    ⊎_elim
    (λ e. below _ y z (low_first y (least (x ∷ zs))) (same_up y z e))
    (λ rest. below _ (least (x ∷ zs)) z (low_second y (least (x ∷ zs))) (least_low (x ∷ zs) z rest))
    h

pub greatest_high : (zs : List ℤ) (z : ℤ) → Has zs z → z ≤ℤ greatest zs
unfolding greatest
greatest_high [] z h = absurd h
greatest_high (y ∷ []) z h = ⊎_elim (λ e. same_up z y (sym e)) (λ none. absurd none) h
greatest_high (y ∷ x ∷ zs) z h =
    ⊎_elim
    (λ e. below z y _ (same_up z y (sym e)) (high_first y (greatest (x ∷ zs))))
    (λ rest. below z (greatest (x ∷ zs)) _ (greatest_high (x ∷ zs) z rest) (high_second y (greatest (x ∷ zs))))
    h

least_has : (z : ℤ) (zs : List ℤ) → Has (z ∷ zs) (least (z ∷ zs))
unfolding least
least_has z [] = inl refl
least_has z (y ∷ zs) =
    ⊎_elim
    (λ e. inl (sym e))
    (λ e. inr (subst (λ x. Has (y ∷ zs) x) (sym e) (least_has y zs)))
    (low_case z (least (y ∷ zs)))

greatest_has : (z : ℤ) (zs : List ℤ) → Has (z ∷ zs) (greatest (z ∷ zs))
unfolding greatest
greatest_has z [] = inl refl
greatest_has z (y ∷ zs) =
    ⊎_elim
    (λ e. inl (sym e))
    (λ e. inr (subst (λ x. Has (y ∷ zs) x) (sym e) (greatest_has y zs)))
    (high_case z (greatest (y ∷ zs)))

-- a list that has an element has its least and its greatest one
pub least_in : (zs : List ℤ) (z : ℤ) → Has zs z → Has zs (least zs)
least_in [] z h = absurd h
least_in (y ∷ ys) z h = least_has y ys

pub greatest_in : (zs : List ℤ) (z : ℤ) → Has zs z → Has zs (greatest zs)
greatest_in [] z h = absurd h
greatest_in (y ∷ ys) z h = greatest_has y ys

-- ---- the points that are reached

abbrev upper : Rect → Point
upper r = record { x = r.x; y = r.y }

abbrev lower : Rect → Point
lower r = record { x = right_of r; y = bottom_of r }

pub corners_has : (rs : List Rect) (r : Rect) → Has rs r → Has (corners_of rs) (upper r) × Has (corners_of rs) (lower r)
unfolding corners_of
corners_has [] r h = absurd h
corners_has (s ∷ rs) r h =
    ⊎_elim
    (λ e. (inl (ap upper e), inr (inl (ap lower e))))
    (λ rest. let k = corners_has rs r rest in (inr (inr k.0), inr (inr k.1)))
    h

pub has_corners : (rs : List Rect) (q : Point) → Has (corners_of rs) q → (r : Rect) × Has rs r × ((upper r ≡ q) ⊎ (lower r ≡ q))
unfolding corners_of
has_corners [] q h = absurd h
has_corners (s ∷ rs) q h =
    ⊎_elim
    (λ e. (s, inl refl, inl e))
    (λ other. ⊎_elim (λ e. (s, inl refl, inr e)) (λ rest. let k = has_corners rs q rest in (k.0, inr k.1, k.2)) other)
    h

-- a shape of a drawing of these outlines and sections: an outline, or a point of a route
abbrev pub IsShape : List Rect → List Section → Rect → Type 0
IsShape rs ss s = Has rs s ⊎ ((q : Point) × Has (points_of ss) q × (s ≡ point_rect q))

-- the two corners of a shape are reached
shape_reached : (rs : List Rect) (ss : List Section) (s : Rect) → IsShape rs ss s → (pos 0 ≤ℤ s.width) × (pos 0 ≤ℤ s.height) → Has (reached rs ss) (upper s) × Has (reached rs ss) (lower s)
shape_reached rs ss s (inl h) solid =
    let k = corners_has rs s h in (has_left (corners_of rs) (points_of ss) (upper s) k.0, has_left (corners_of rs) (points_of ss) (lower s) k.1)
shape_reached rs ss s (inr (q, h, e)) solid =
    let up : q ≡ upper s = same_point q (upper s) (sym (ap (λ r. r.x) e)) (sym (ap (λ r. r.y) e)) in
    let low : q ≡ lower s = same_point q (lower s) (no_width q.x ∙ sym (ap right_of e)) (no_width q.y ∙ sym (ap bottom_of e)) in (
      has_right (corners_of rs) (points_of ss) (upper s) (subst (λ x. Has (points_of ss) x) up h),
      has_right (corners_of rs) (points_of ss) (lower s) (subst (λ x. Has (points_of ss) x) low h),
    )
  where
    no_width : (z : ℤ) → z ≡ z +ℤ pos 0
    no_width z = omega (arith, ints)

-- each point that is reached is a corner of a shape
reached_shape : (rs : List Rect) (ss : List Section) (q : Point) → Has (reached rs ss) q → (s : Rect) × IsShape rs ss s × ((upper s ≡ q) ⊎ (lower s ≡ q))
reached_shape rs ss q h =
    ⊎_elim
    (λ k. let c = has_corners rs q k in (c.0, inl c.1, c.2))
    (λ k. (point_rect q, inr (q, k, refl), inl refl))
    (append_has (corners_of rs) (points_of ss) q h)

-- shapes lie between 0 and an extent
pub record Lies (w h : ℤ) (s : Rect) : Type 0 where
  pub left : pos 0 ≤ℤ s.x
  pub right : right_of s ≤ℤ w
  pub top : pos 0 ≤ℤ s.y
  pub bottom : bottom_of s ≤ℤ h

-- some shapes reach each border of the extent
pub record Touches (Is : Rect → Type 0) (w h : ℤ) : Type 0 where
  pub left : (s : Rect) × Is s × (s.x ≡ pos 0)
  pub right : (s : Rect) × Is s × (right_of s ≡ w)
  pub top : (s : Rect) × Is s × (s.y ≡ pos 0)
  pub bottom : (s : Rect) × Is s × (bottom_of s ≡ h)

module _ (rs : List Rect) (ss : List Section) (w h : ℤ)
    (tight : IsReach (reached rs ss) (record { low = record { x = pos 0; y = pos 0 }; high = record { x = w; y = h } }))
    (solid : (s : Rect) → IsShape rs ss s → (pos 0 ≤ℤ s.width) × (pos 0 ≤ℤ s.height)) where
  abbrev all : List Point
  all = reached rs ss

  pub lies : (s : Rect) → IsShape rs ss s → Lies w h s
  lies s k =
      let c = shape_reached rs ss s k (solid s k) in
      record {
        left = subst (λ z. z ≤ℤ s.x) (sym tight.left) (least_low (abscissae all) s.x (has_map (λ (q : Point). q.x) all (upper s) c.0));
        right = subst (λ z. right_of s ≤ℤ z) (sym tight.right) (greatest_high (abscissae all) (right_of s) (has_map (λ (q : Point). q.x) all (lower s) c.1));
        top = subst (λ z. z ≤ℤ s.y) (sym tight.top) (least_low (heights all) s.y (has_map (λ (q : Point). q.y) all (upper s) c.0));
        bottom = subst (λ z. bottom_of s ≤ℤ z) (sym tight.bottom) (greatest_high (heights all) (bottom_of s) (has_map (λ (q : Point). q.y) all (lower s) c.1));
      }

  -- a shape with a corner at a bound, which no shape passes
  low_touch : (a b z : ℤ) → pos 0 ≤ℤ b → z ≤ℤ a → a +ℤ b ≡ z → a ≡ z
  low_touch a b z k l e = omega (arith, ints, k, l, e)

  high_touch : (a b z : ℤ) → pos 0 ≤ℤ b → (a +ℤ b) ≤ℤ z → a ≡ z → a +ℤ b ≡ z
  high_touch a b z k l e = omega (arith, ints, k, l, e)

  pub touches : (s : Rect) → IsShape rs ss s → Touches (IsShape rs ss) w h
  touches s k =
      let c = shape_reached rs ss s k (solid s k) in
      let x_low = map_has (λ (q : Point). q.x) all (least (abscissae all)) (least_in (abscissae all) s.x (has_map (λ (q : Point). q.x) all (upper s) c.0)) in
      let x_high = map_has (λ (q : Point). q.x) all (greatest (abscissae all)) (greatest_in (abscissae all) s.x (has_map (λ (q : Point). q.x) all (upper s) c.0)) in
      let y_low = map_has (λ (q : Point). q.y) all (least (heights all)) (least_in (heights all) s.y (has_map (λ (q : Point). q.y) all (upper s) c.0)) in
      let y_high = map_has (λ (q : Point). q.y) all (greatest (heights all)) (greatest_in (heights all) s.y (has_map (λ (q : Point). q.y) all (upper s) c.0)) in
      let a = reached_shape rs ss x_low.0 x_low.1 in
      let b = reached_shape rs ss x_high.0 x_high.1 in
      let e = reached_shape rs ss y_low.0 y_low.1 in
      let f = reached_shape rs ss y_high.0 y_high.1 in
      record {
        left = (
          a.0,
          a.1,
          ⊎_elim
              (λ at. ap (λ (q : Point). q.x) at ∙ x_low.2 ∙ sym tight.left)
              (λ at. low_touch a.0.x a.0.width (pos 0) (solid a.0 a.1).0 (lies a.0 a.1).left (ap (λ (q : Point). q.x) at ∙ x_low.2 ∙ sym tight.left))
              a.2,
        );
        right = (
          b.0,
          b.1,
          ⊎_elim
              (λ at. high_touch b.0.x b.0.width w (solid b.0 b.1).0 (lies b.0 b.1).right (ap (λ (q : Point). q.x) at ∙ x_high.2 ∙ sym tight.right))
              (λ at. ap (λ (q : Point). q.x) at ∙ x_high.2 ∙ sym tight.right)
              b.2,
        );
        top = (
          e.0,
          e.1,
          ⊎_elim
              (λ at. ap (λ (q : Point). q.y) at ∙ y_low.2 ∙ sym tight.top)
              (λ at. low_touch e.0.y e.0.height (pos 0) (solid e.0 e.1).1 (lies e.0 e.1).top (ap (λ (q : Point). q.y) at ∙ y_low.2 ∙ sym tight.top))
              e.2,
        );
        bottom = (
          f.0,
          f.1,
          ⊎_elim
              (λ at. high_touch f.0.y f.0.height h (solid f.0 f.1).1 (lies f.0 f.1).bottom (ap (λ (q : Point). q.y) at ∙ y_high.2 ∙ sym tight.bottom))
              (λ at. ap (λ (q : Point). q.y) at ∙ y_high.2 ∙ sym tight.bottom)
              f.2,
        );
      }

-- where nothing is drawn the extent is 0
pub nothing_reached : (w h : ℤ) → IsReach (reached [] []) (record { low = record { x = pos 0; y = pos 0 }; high = record { x = w; y = h } }) → (w ≡ pos 0) × (h ≡ pos 0)
unfolding corners_of points_of greatest
nothing_reached w h tight = (tight.right, tight.bottom)
