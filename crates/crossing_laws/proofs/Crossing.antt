-- Two nets of a gap cross where they are drawn as often as by their slots.
use Rattle.std.proofs.Common.{◌≡◌, ◌≢◌, ◌∙◌, ⊎_elim, inl, inr, ℕ, suc, ◌+◌, ◌*◌, ◌<◌, ◌≤◌, Bool, true, false, ◌&&◌, nat_lt, List, [], ◌∷◌, reverse, length, ℤ, pos, negsuc, ◌+ℤ◌, ◌*ℤ◌, ◌≤ℤ◌, ◌<ℤ◌, refl, sym, ap, ap₂, subst, arith, if◌then◌else◌}
use Rattle.std.specs.Prelude.{int_lt}
use Rattle.std.specs.Int.{int_min, int_max}
use Rattle.std.proofs.lemmas.Bool.{cases_lt, lt-ltb, le-ltb}
use Rattle.std.proofs.lemmas.Int.{ints, clamps, by_lt_z}
use Rattle.std.proofs.Math.Nat.{mul-le-mul_left}
use Rattle.std.proofs.Math.Bool.{and-true}
use Rattle.drawing_types.specs.declared.shape.Point.{Point}
use Rattle.net_routes.specs.declared.Pin.{Pin}
use Rattle.net_routes.specs.declared.Net.{Net}
use Rattle.net_routes.specs.declared.NetRoute.{NetRoute}
use Rattle.net_routes.specs.declared.NetRoute.TheVariants.{Straight, One, Two}
use Rattle.net_routes.specs.Pieces.{slot, border_of, corners, net_at, route_at}
use Rattle.net_routes.specs.GapFree.{GapFree, HasPin, IsStraightNet, StandsIn}
use Rattle.net_routes.specs.Crossings.{is_over, passes, is_between, one, pin_cut, bar_cut, cuts, cut, cut_at, upright}
use Rattle.net_routes.proofs.Turns.{lt_true, lt_false}
use Rattle.route_lines.specs.Points.{PlainGap, stand, point_at, corner_points, net_points}
use Rattle.crossing_laws.specs.Crossed.{crosses, sum_segments, uprights_cross, paths_cross, IsSpread, NetsCrossAsDrawn}

-- ---- places between two others

-- which of the two comes first doesn't matter
over_flipped : (x y z : ℤ) → is_over x y z ≡ is_over y x z
unfolding is_over
over_flipped x y z = ap₂ (λ (u v : ℤ). int_lt u z && int_lt z v) (omega (arith, ints, clamps)) (omega (arith, ints, clamps))

and_false : (b c : Bool) → c ≡ false → (b && c) ≡ false
and_false true c e = e
and_false false c e = refl

-- nothing lies between a place and itself, and no end between the two
none_over : (x z : ℤ) → is_over x x z ≡ false
unfolding is_over
none_over x z =
    by_lt_z x z
    (λ l. and_false (int_lt (int_min x x) z) _ (lt_false z (int_max x x) (omega (arith, ints, clamps))))
    (λ m. ap (λ (u : Bool). u && int_lt z (int_max x x)) (lt_false (int_min x x) z (omega (arith, ints, clamps))))

none_at : (x y : ℤ) → is_over x y x ≡ false
unfolding is_over
none_at x y =
    by_lt_z x y
    (λ l. ap (λ (u : Bool). u && int_lt x (int_max x y)) (lt_false (int_min x y) x (omega (arith, ints, clamps))))
    (λ m. and_false (int_lt (int_min x y) x) _ (lt_false x (int_max x y) (omega (arith, ints, clamps))))

-- from the left, and from the right
over_right : (x y z : ℤ) → x <ℤ z → is_over x y z ≡ int_lt z y
unfolding is_over
over_right x y z l =
    by_lt_z z y
    (λ m. ap₂ (λ (u v : Bool). u && v) (lt_true (int_min x y) z (omega (arith, ints, clamps))) (lt_true z (int_max x y) (omega (arith, ints, clamps))) ∙ sym (lt_true z y m))
    (λ m. ap₂ (λ (u v : Bool). u && v) (lt_true (int_min x y) z (omega (arith, ints, clamps))) (lt_false z (int_max x y) (omega (arith, ints, clamps))) ∙ sym (lt_false z y m))

over_left : (x y z : ℤ) → z <ℤ x → is_over x y z ≡ int_lt y z
unfolding is_over
over_left x y z l =
    by_lt_z y z
    (λ m. ap₂ (λ (u v : Bool). u && v) (lt_true (int_min x y) z (omega (arith, ints, clamps))) (lt_true z (int_max x y) (omega (arith, ints, clamps))) ∙ sym (lt_true y z m))
    (λ m. ap₂ (λ (u v : Bool). u && v) (lt_false (int_min x y) z (omega (arith, ints, clamps))) (lt_true z (int_max x y) (omega (arith, ints, clamps))) ∙ sym (lt_false y z m))

-- ---- places of slots

slot_less : (f z : ℤ) (s t : ℕ) → pos 0 <ℤ z → s < t → (f +ℤ (pos s *ℤ z)) <ℤ (f +ℤ (pos t *ℤ z))
slot_less f (pos n) s t k h = let more : n * suc s ≤ n * t = mul-le-mul_left n h in omega (arith, ints, more, k)
slot_less f (negsuc n) s t k h = absurd (omega (arith, ints, k))

slot_most : (f z : ℤ) (s t : ℕ) → pos 0 <ℤ z → s ≤ t → (f +ℤ (pos s *ℤ z)) ≤ℤ (f +ℤ (pos t *ℤ z))
slot_most f (pos n) s t k h = let more : n * s ≤ n * t = mul-le-mul_left n h in omega (arith, ints, more, k)
slot_most f (negsuc n) s t k h = absurd (omega (arith, ints, k))

-- on this side of a border: right of the left one, left of the right one
abbrev pub Within : Bool → ℤ → ℤ → Type 0
Within true x y = x <ℤ y
Within false x y = y <ℤ x

module _ (g : PlainGap) (step : pos 0 <ℤ g.step) where
  abbrev at : ℕ → ℤ
  at s = stand g (slot s)

  abbrev edge : Bool → ℤ
  edge b = stand g (border_of b)

  by_number : (s t : ℕ) → int_lt (at s) (at t) ≡ nat_lt s t
  by_number s t =
      ⊎_elim
      (λ (h : s < t). lt_true (at s) (at t) (slot_less g.first g.step s t step h) ∙ sym (lt-ltb s t h))
      (λ (h : t ≤ s). lt_false (at s) (at t) (slot_most g.first g.step t s step h) ∙ sym (le-ltb s t h))
      (cases_lt s t)

  pub pin_over : (b : Bool) (t u : ℕ) → Within b (edge b) (at u) → is_over (edge b) (at t) (at u) ≡ passes b t u
  unfolding passes
  pin_over true t u l = over_right g.left (at t) (at u) l ∙ by_number u t
  pin_over false t u l = over_left g.right (at t) (at u) l ∙ by_number t u

  pub bar_over : (s t u : ℕ) → is_over (at s) (at t) (at u) ≡ is_between s t u
  unfolding is_between
  bar_over s t u =
      ⊎_elim
      (λ (h : s < u). over_right (at s) (at t) (at u) (slot_less g.first g.step s u step h) ∙ by_number u t
      ∙ sym (ap (λ (b : Bool). if b then nat_lt u t else (nat_lt t u && nat_lt u s)) (lt-ltb s u h)))
      (λ (h : u ≤ s). behind h ∙ sym (ap (λ (b : Bool). if b then nat_lt u t else (nat_lt t u && nat_lt u s)) (le-ltb s u h)))
      (cases_lt s u)
    where
      behind : u ≤ s → is_over (at s) (at t) (at u) ≡ (nat_lt t u && nat_lt u s)
      behind h =
          ⊎_elim
          (λ (l : u < s). over_left (at s) (at t) (at u) (slot_less g.first g.step u s step l) ∙ by_number t u
          ∙ sym (ap (λ (b : Bool). nat_lt t u && b) (lt-ltb u s l) ∙ and-true (nat_lt t u)))
          (λ (m : s ≤ u). let e : s ≡ u = omega arith in
          subst (λ v. is_over (at s) (at t) (at v) ≡ false) e (none_at (at s) (at t)) ∙ sym (and_false (nat_lt t u) (nat_lt u s) (le-ltb u s m)))
          (cases_lt u s)

  pub across : (b c : Bool) (u : ℕ) → b ≢ c → Within b (edge b) (at u) → Within c (edge c) (at u) → is_over (edge b) (edge c) (at u) ≡ true
  across true true u n l m = absurd (n refl)
  across true false u n l m = over_right g.left g.right (at u) l ∙ lt_true (at u) g.right m
  across false true u n l m = over_left g.right g.left (at u) l ∙ lt_true g.left (at u) m
  across false false u n l m = absurd (n refl)

-- ---- segments

one_and : (b c : Bool) → one (b && c) ≡ (if b then one c else 0)
unfolding one
one_and true c = refl
one_and false c = refl

one_none : (b c : Bool) → c ≡ false → one (b && c) ≡ 0
unfolding one
one_none b c e = ap (λ (z : Bool). one z) (and_false b c e)

-- a level segment crosses nothing as an upright one
flat : (a b c d : Point) → a.y ≡ b.y → one (crosses a b c d) ≡ 0
unfolding crosses
flat a b c d e = one_none (is_over c.x d.x a.x) (is_over a.y b.y c.y) (ap (λ (y : ℤ). is_over y b.y c.y) e ∙ none_over b.y c.y)

horizontal_none : (a b : Point) (qs : List Point) → a.y ≡ b.y → sum_segments (λ c d. one (crosses a b c d)) qs ≡ 0
unfolding sum_segments
horizontal_none a b [] e = refl
horizontal_none a b (c ∷ []) e = refl
horizontal_none a b (c ∷ d ∷ qs) e = ap₂ (λ (m n : ℕ). m + n) (flat a b c d e) (horizontal_none a b (d ∷ qs) e)

-- and an upright one crosses nothing as a horizontal one
stub : (a b c d : Point) → c.x ≡ d.x → one (crosses a b c d) ≡ 0
unfolding crosses one
stub a b c d e = ap (λ (u : Bool). one (u && is_over a.y b.y c.y)) (ap (λ (x : ℤ). is_over x d.x a.x) e ∙ none_over d.x a.x)

-- an upright segment from its other end
flip : (x y z : ℤ) (qs : List Point)
    → sum_segments (λ c d. one (crosses (point_at x y) (point_at x z) c d)) qs ≡ sum_segments (λ c d. one (crosses (point_at x z) (point_at x y) c d)) qs
unfolding sum_segments crosses
flip x y z [] = refl
flip x y z (c ∷ []) = refl
flip x y z (c ∷ d ∷ qs) = ap₂ (λ (m n : ℕ). m + n) (ap (λ (u : Bool). one (is_over c.x d.x x && u)) (over_flipped y z c.y)) (flip x y z (d ∷ qs))

sum_two : (f : Point → Point → ℕ) (a b : Point) → sum_segments f (a ∷ b ∷ []) ≡ f a b
unfolding sum_segments
sum_two f a b = omega arith

sum_four : (f : Point → Point → ℕ) (a b c d : Point) → sum_segments f (a ∷ b ∷ c ∷ d ∷ []) ≡ f a b + f b c + f c d
unfolding sum_segments
sum_four f a b c d = omega arith

sum_six : (f : Point → Point → ℕ) (a b c d p q : Point) → sum_segments f (a ∷ b ∷ c ∷ d ∷ p ∷ q ∷ []) ≡ f a b + f b c + f c d + f d p + f p q
unfolding sum_segments
sum_six f a b c d p q = omega arith

outer_two : (i j k x y : ℕ) → i ≡ x → j ≡ 0 → k ≡ y → i + j + k ≡ x + y
outer_two i j k x y d e f = omega (arith, d, e, f)

outer_back : (i j k x y : ℕ) → i ≡ y → j ≡ 0 → k ≡ x → i + j + k ≡ x + y
outer_back i j k x y d e f = omega (arith, d, e, f)

outer_three : (i j k l m x y z : ℕ) → i ≡ x → j ≡ 0 → k ≡ z → l ≡ 0 → m ≡ y → i + j + k + l + m ≡ x + y + z
outer_three i j k l m x y z d e f p q = omega (arith, d, e, f, p, q)

three_back : (i j k l m x y z : ℕ) → i ≡ y → j ≡ 0 → k ≡ z → l ≡ 0 → m ≡ x → i + j + k + l + m ≡ x + y + z
three_back i j k l m x y z d e f p q = omega (arith, d, e, f, p, q)

inner_one : (i j k x : ℕ) → i ≡ 0 → j ≡ x → k ≡ 0 → i + j + k ≡ x
inner_one i j k x d e f = omega (arith, d, e, f)

inner_two : (i j k l m x y : ℕ) → i ≡ 0 → j ≡ x → k ≡ 0 → l ≡ y → m ≡ 0 → i + j + k + l + m ≡ x + y
inner_two i j k l m x y d e f p q = omega (arith, d, e, f, p, q)

two_back : (i j k l m x y : ℕ) → i ≡ 0 → j ≡ y → k ≡ 0 → l ≡ x → m ≡ 0 → i + j + k + l + m ≡ x + y
two_back i j k l m x y d e f p q = omega (arith, d, e, f, p, q)

-- ---- the level segments of a net at an upright segment

module _ (g : PlainGap) (step : pos 0 <ℤ g.step) (n : Net) (u : ℕ) (y z : ℤ)
    (a_in : Within n.a.on_left (stand g (border_of n.a.on_left)) (stand g (slot u)))
    (b_in : Within n.b.on_left (stand g (border_of n.b.on_left)) (stand g (slot u))) where
  abbrev here : Point → Point → ℕ
  here c d = one (crosses (point_at (stand g (slot u)) y) (point_at (stand g (slot u)) z) c d)

  abbrev pin_at : Pin → Point
  pin_at p = point_at (stand g (border_of p.on_left)) p.height

  abbrev slot_at : ℕ → ℤ → Point
  slot_at t h = point_at (stand g (slot t)) h

  pin_piece : (p : Pin) (t : ℕ) → Within p.on_left (stand g (border_of p.on_left)) (stand g (slot u)) → here (pin_at p) (slot_at t p.height) ≡ pin_cut p t (upright u y z)
  unfolding crosses pin_cut
  pin_piece p t l =
      one_and (is_over (stand g (border_of p.on_left)) (stand g (slot t)) (stand g (slot u))) (is_over y z p.height)
      ∙ ap (λ (b : Bool). if b then one (is_over y z p.height) else 0) (pin_over g step p.on_left t u l)

  pin_back : (p : Pin) (t : ℕ) → Within p.on_left (stand g (border_of p.on_left)) (stand g (slot u)) → here (slot_at t p.height) (pin_at p) ≡ pin_cut p t (upright u y z)
  unfolding crosses
  pin_back p t l =
      ap (λ (b : Bool). one (b && is_over y z p.height)) (over_flipped (stand g (slot t)) (stand g (border_of p.on_left)) (stand g (slot u)))
      ∙ pin_piece p t l

  bar_piece : (s : ℕ) (h : ℤ) (t : ℕ) → here (slot_at s h) (slot_at t h) ≡ bar_cut s h t (upright u y z)
  unfolding crosses bar_cut
  bar_piece s h t =
      one_and (is_over (stand g (slot s)) (stand g (slot t)) (stand g (slot u))) (is_over y z h)
      ∙ ap (λ (b : Bool). if b then one (is_over y z h) else 0) (bar_over g step s t u)

  bar_back : (s : ℕ) (h : ℤ) (t : ℕ) → here (slot_at t h) (slot_at s h) ≡ bar_cut s h t (upright u y z)
  unfolding crosses
  bar_back s h t =
      ap (λ (b : Bool). one (b && is_over y z h)) (over_flipped (stand g (slot t)) (stand g (slot s)) (stand g (slot u))) ∙ bar_piece s h t

  stub_here : (t : ℕ) (h k : ℤ) → here (slot_at t h) (slot_at t k) ≡ 0
  stub_here t h k = stub (point_at (stand g (slot u)) y) (point_at (stand g (slot u)) z) (slot_at t h) (slot_at t k) refl

  whole : IsStraightNet n → here (pin_at n.a) (pin_at n.b) ≡ one (is_over y z n.a.height)
  unfolding crosses
  whole level =
      one_and (is_over (stand g (border_of n.a.on_left)) (stand g (border_of n.b.on_left)) (stand g (slot u))) (is_over y z n.a.height)
      ∙ ap (λ (b : Bool). if b then one (is_over y z n.a.height) else 0) (across g step n.a.on_left n.b.on_left u level.0 a_in b_in)

  whole_back : IsStraightNet n → here (pin_at n.b) (pin_at n.a) ≡ one (is_over y z n.a.height)
  unfolding crosses
  whole_back level =
      ap₂ (λ (b c : Bool). one (b && c)) (over_flipped (stand g (border_of n.b.on_left)) (stand g (border_of n.a.on_left)) (stand g (slot u)))
      (ap (λ (h : ℤ). is_over y z h) (sym level.1))
      ∙ whole level

  pub cuts_there : (q : NetRoute) → (q ≡ Straight → IsStraightNet n) → sum_segments here (corner_points g (corners n q)) ≡ cuts n q (upright u y z)
  unfolding cuts
  cuts_there Straight level = sum_two here (pin_at n.a) (pin_at n.b) ∙ whole (level refl)
  cuts_there (One t) level =
      sum_four here (pin_at n.a) (slot_at t n.a.height) (slot_at t n.b.height) (pin_at n.b)
      ∙ outer_two _ _ _ _ _ (pin_piece n.a t a_in) (stub_here t n.a.height n.b.height) (pin_back n.b t b_in)
  cuts_there (Two s h t) level =
      sum_six here (pin_at n.a) (slot_at s n.a.height) (slot_at s h) (slot_at t h) (slot_at t n.b.height) (pin_at n.b)
      ∙ outer_three _ _ _ _ _ _ _ _ (pin_piece n.a s a_in) (stub_here s n.a.height h) (bar_piece s h t) (stub_here t h n.b.height) (pin_back n.b t b_in)

  pub cuts_back : (q : NetRoute) → (q ≡ Straight → IsStraightNet n) → sum_segments here (reverse (corner_points g (corners n q))) ≡ cuts n q (upright u y z)
  unfolding cuts
  cuts_back Straight level = sum_two here (pin_at n.b) (pin_at n.a) ∙ whole_back (level refl)
  cuts_back (One t) level =
      sum_four here (pin_at n.b) (slot_at t n.b.height) (slot_at t n.a.height) (pin_at n.a)
      ∙ outer_back _ _ _ _ _ (pin_piece n.b t b_in) (stub_here t n.b.height n.a.height) (pin_back n.a t a_in)
  cuts_back (Two s h t) level =
      sum_six here (pin_at n.b) (slot_at t n.b.height) (slot_at t h) (slot_at s h) (slot_at s n.a.height) (pin_at n.a)
      ∙ three_back _ _ _ _ _ _ _ _ (pin_piece n.b t b_in) (stub_here t n.b.height h) (bar_back s h t) (stub_here s h n.a.height) (pin_back n.a s a_in)

-- ---- the upright segments of a net

module _ (g : PlainGap) (qs : List Point) (n : Net) (q : NetRoute)
    (each : (u : ℕ) (y z : ℤ) → u < g.count
    → sum_segments (λ c d. one (crosses (point_at (stand g (slot u)) y) (point_at (stand g (slot u)) z) c d)) qs ≡ cuts n q (upright u y z)) where
  abbrev along : Point → Point → ℕ
  along a b = sum_segments (λ c d. one (crosses a b c d)) qs

  abbrev pin_of : Pin → Point
  pin_of p = point_at (stand g (border_of p.on_left)) p.height

  abbrev slot_of : ℕ → ℤ → Point
  slot_of t h = point_at (stand g (slot t)) h

  flipped : (u : ℕ) (y z : ℤ) → u < g.count → along (slot_of u z) (slot_of u y) ≡ cuts n q (upright u y z)
  flipped u y z l = flip (stand g (slot u)) z y qs ∙ each u y z l

  pub cut_there : (m : Net) (r : NetRoute) → (r ≡ Straight → IsStraightNet m) → ((s : ℕ) → StandsIn r s → s < g.count)
      → sum_segments along (corner_points g (corners m r)) ≡ cut m r n q
  unfolding cut
  cut_there m Straight level inside = sum_two along (pin_of m.a) (pin_of m.b) ∙ horizontal_none (pin_of m.a) (pin_of m.b) qs (level refl).1
  cut_there m (One s) level inside =
      sum_four along (pin_of m.a) (slot_of s m.a.height) (slot_of s m.b.height) (pin_of m.b)
      ∙ inner_one _ _ _ _ (horizontal_none (pin_of m.a) (slot_of s m.a.height) qs refl) (each s m.a.height m.b.height (inside s refl)) (horizontal_none (slot_of s m.b.height) (pin_of m.b) qs refl)
  cut_there m (Two s h t) level inside =
      sum_six along (pin_of m.a) (slot_of s m.a.height) (slot_of s h) (slot_of t h) (slot_of t m.b.height) (pin_of m.b)
      ∙ inner_two _ _ _ _ _ _ _ (horizontal_none (pin_of m.a) (slot_of s m.a.height) qs refl) (each s m.a.height h (inside s (inl refl)))
      (horizontal_none (slot_of s h) (slot_of t h) qs refl) (each t h m.b.height (inside t (inr refl))) (horizontal_none (slot_of t m.b.height) (pin_of m.b) qs refl)

  pub cut_back : (m : Net) (r : NetRoute) → (r ≡ Straight → IsStraightNet m) → ((s : ℕ) → StandsIn r s → s < g.count)
      → sum_segments along (reverse (corner_points g (corners m r))) ≡ cut m r n q
  unfolding cut
  cut_back m Straight level inside = sum_two along (pin_of m.b) (pin_of m.a) ∙ horizontal_none (pin_of m.b) (pin_of m.a) qs (sym (level refl).1)
  cut_back m (One s) level inside =
      sum_four along (pin_of m.b) (slot_of s m.b.height) (slot_of s m.a.height) (pin_of m.a)
      ∙ inner_one _ _ _ _ (horizontal_none (pin_of m.b) (slot_of s m.b.height) qs refl) (flipped s m.a.height m.b.height (inside s refl)) (horizontal_none (slot_of s m.a.height) (pin_of m.a) qs refl)
  cut_back m (Two s h t) level inside =
      sum_six along (pin_of m.b) (slot_of t m.b.height) (slot_of t h) (slot_of s h) (slot_of s m.a.height) (pin_of m.a)
      ∙ two_back _ _ _ _ _ _ _ (horizontal_none (pin_of m.b) (slot_of t m.b.height) qs refl) (flipped t h m.b.height (inside t (inr refl)))
      (horizontal_none (slot_of t h) (slot_of s h) qs refl) (flipped s m.a.height h (inside s (inl refl))) (horizontal_none (slot_of s m.a.height) (pin_of m.a) qs refl)

-- ---- the law

module _ (g : PlainGap) (free : GapFree g.nets g.count g.routes) (spread : IsSpread g) where
  within : (k u : ℕ) (p : Pin) → k < length g.nets → HasPin (net_at g.nets k) p → u < g.count → Within p.on_left (stand g (border_of p.on_left)) (stand g (slot u))
  within k u p l has h = by p.on_left refl
    where
      by : (b : Bool) → p.on_left ≡ b → Within b (stand g (border_of b)) (stand g (slot u))
      by true e = spread.left k u p l has e h
      by false e = spread.right k u p l has e h

  straight_if : (k : ℕ) → k < length g.nets → route_at g.routes k ≡ Straight → IsStraightNet (net_at g.nets k)
  straight_if k l e = (free.straight k l).0 e

  cuts_of : (k : ℕ) (to_b : Bool) → k < length g.nets → (u : ℕ) (y z : ℤ) → u < g.count
      → sum_segments (λ c d. one (crosses (point_at (stand g (slot u)) y) (point_at (stand g (slot u)) z) c d)) (net_points g k to_b) ≡ cuts (net_at g.nets k) (route_at g.routes k) (upright u y z)
  cuts_of k true l u y z h =
      cuts_there g spread.step (net_at g.nets k) u y z (within k u (net_at g.nets k).a l (inl refl) h) (within k u (net_at g.nets k).b l (inr refl) h) (route_at g.routes k) (straight_if k l)
  cuts_of k false l u y z h =
      cuts_back g spread.step (net_at g.nets k) u y z (within k u (net_at g.nets k).a l (inl refl) h) (within k u (net_at g.nets k).b l (inr refl) h) (route_at g.routes k) (straight_if k l)

  cut_of : (j k : ℕ) (from_a to_b : Bool) → j < length g.nets → k < length g.nets
      → uprights_cross (net_points g j from_a) (net_points g k to_b) ≡ cut_at g.nets g.routes j k
  unfolding uprights_cross
  cut_of j k true to_b jl kl =
      cut_there g (net_points g k to_b) (net_at g.nets k) (route_at g.routes k) (cuts_of k to_b kl) (net_at g.nets j) (route_at g.routes j) (straight_if j jl) (λ s h. free.slots_in j s jl h)
  cut_of j k false to_b jl kl =
      cut_back g (net_points g k to_b) (net_at g.nets k) (route_at g.routes k) (cuts_of k to_b kl) (net_at g.nets j) (route_at g.routes j) (straight_if j jl) (λ s h. free.slots_in j s jl h)

pub nets_cross_as_drawn : NetsCrossAsDrawn
unfolding paths_cross
nets_cross_as_drawn g j k from_a to_b free spread jl kl =
    ap₂ (λ (m n : ℕ). m + n) (cut_of g free spread j k from_a to_b jl kl) (cut_of g free spread k j to_b from_a kl jl)
