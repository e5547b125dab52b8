-- Where a segment meets or enters a rectangle, and where two share a piece, told by bounds alone.
use Rattle.std.proofs.Common.{◌≡◌, ◌≢◌, ◌⊎◌, inl, inr, ⊎_elim, ℕ, ◌<◌, ◌≤◌, ◌*◌, suc, ℤ, pos, negsuc, ◌+ℤ◌, ◌*ℤ◌, ◌≤ℤ◌, ◌<ℤ◌, arith, ap}
use Rattle.std.proofs.lemmas.Int.{ints, clamps, by_lt_z}
use Rattle.std.proofs.Math.Nat.{mul-le-mul_left}
use Rattle.std.specs.Int.{int_min, int_max}
use Rattle.std.specs.Int.Signed.{≤ℤ_refl}
use Rattle.drawing_types.specs.declared.shape.Point.{Point}
use Rattle.drawing_types.specs.declared.shape.Rect.{Rect}
use Rattle.drawing_types.proofs.SameShapes.{same_point}
use Rattle.drawing_types.specs.Segments.{IsBetween, MeetsRect, EntersRect, Share, MeetsSpan, EntersSpan, IsPiece}

-- a larger number stays larger when both are taken k times
pub scale_lt : (k : ℕ) (a b : ℤ) → 0 < k → a <ℤ b → (pos k *ℤ a) <ℤ (pos k *ℤ b)
scale_lt k (pos m) (pos n) p h =
    let below : suc m ≤ n = omega (arith, ints) in
    let scaled : k * suc m ≤ k * n = mul-le-mul_left k below in
    omega (arith, ints)
scale_lt k (pos m) (negsuc n) p h = absurd (omega (arith, ints))
scale_lt k (negsuc m) (pos n) p h =
    let scaled : k * 1 ≤ k * suc m = mul-le-mul_left k (omega arith) in
    omega (arith, ints)
scale_lt k (negsuc m) (negsuc n) p h =
    let below : suc (suc n) ≤ suc m = omega (arith, ints) in
    let scaled : k * suc (suc n) ≤ k * suc m = mul-le-mul_left k below in
    omega (arith, ints)

pub scale_le : (k : ℕ) (a b : ℤ) → 0 < k → a ≤ℤ b → (pos k *ℤ a) ≤ℤ (pos k *ℤ b)
scale_le k a b p h =
    by_lt_z a b
    (λ x. let u = scale_lt k a b p x in omega (arith, ints))
    (λ x. let same : a ≡ b = omega (arith, ints) in rw same (≤ℤ_refl (pos k *ℤ b)))

-- a bound on the greater of two numbers, seen in the plane that was enlarged k times
pub below_greater : (k : ℕ) (a b low z : ℤ) → 0 < k → (pos k *ℤ low) ≤ℤ z → z ≤ℤ int_max (pos k *ℤ a) (pos k *ℤ b) → low ≤ℤ int_max a b
below_greater k a b low z p h top =
    by_lt_z a low
    (λ x. by_lt_z b low
    (λ y. let u = scale_lt k a low p x in let v = scale_lt k b low p y in absurd (omega (arith, ints, clamps)))
    (λ y. omega (arith, ints, clamps)))
    (λ x. omega (arith, ints, clamps))

pub above_lesser : (k : ℕ) (a b high z : ℤ) → 0 < k → z ≤ℤ (pos k *ℤ high) → int_min (pos k *ℤ a) (pos k *ℤ b) ≤ℤ z → int_min a b ≤ℤ high
above_lesser k a b high z p h top =
    by_lt_z high a
    (λ x. by_lt_z high b
    (λ y. let u = scale_lt k high a p x in let v = scale_lt k high b p y in absurd (omega (arith, ints, clamps)))
    (λ y. omega (arith, ints, clamps)))
    (λ x. omega (arith, ints, clamps))

-- a number within a stretch whose ends were taken k times, when that stretch is not empty
pub span_of_meet : (k : ℕ) (a b low size z : ℤ) → 0 < k → IsBetween (pos k *ℤ a) (pos k *ℤ b) z → (pos k *ℤ low) ≤ℤ z → z ≤ℤ (pos k *ℤ (low +ℤ size)) → MeetsSpan a b low size
span_of_meet k a b low size z p h from to =
    record {
      real =
          by_lt_z (low +ℤ size) low
          (λ x. let u = scale_lt k (low +ℤ size) low p x in absurd (omega (arith, ints)))
          (λ x. omega (arith, ints));
      starts = below_greater k a b low z p from h.1;
      ends = above_lesser k a b (low +ℤ size) z p to h.0;
    }

-- the same strictly inside
pub span_of_enter : (k : ℕ) (a b low size z : ℤ) → 0 < k → IsBetween (pos k *ℤ a) (pos k *ℤ b) z → (pos k *ℤ low) <ℤ z → z <ℤ (pos k *ℤ (low +ℤ size)) → EntersSpan a b low size
span_of_enter k a b low size z p h from to =
    record {
      real =
          by_lt_z low (low +ℤ size)
          (λ x. omega (arith, ints))
          (λ x. let u = scale_le k (low +ℤ size) low p x in absurd (omega (arith, ints)));
      starts =
          by_lt_z low (int_max a b)
          (λ x. x)
          (λ x. let u = scale_le k a low p (omega (arith, ints, clamps)) in
          let v = scale_le k b low p (omega (arith, ints, clamps)) in
          let top = h.1 in
          absurd (omega (arith, ints, clamps)));
      ends =
          by_lt_z (int_min a b) (low +ℤ size)
          (λ x. x)
          (λ x. let u = scale_le k (low +ℤ size) a p (omega (arith, ints, clamps)) in
          let v = scale_le k (low +ℤ size) b p (omega (arith, ints, clamps)) in
          let bottom = h.0 in
          absurd (omega (arith, ints, clamps)));
    }

pub scale_one : (z : ℤ) → pos 1 *ℤ z ≡ z
scale_one (pos n) = ap pos (omega arith)
scale_one (negsuc n) = omega (arith, ints)

scale_two : (z : ℤ) → pos 2 *ℤ z ≡ z +ℤ z
scale_two (pos n) = ap pos (omega arith)
scale_two (negsuc n) = omega (arith, ints)

-- a number in both stretches
point_of_meet : (a b low size : ℤ) → MeetsSpan a b low size → (z : ℤ) × IsBetween (pos 1 *ℤ a) (pos 1 *ℤ b) z × ((pos 1 *ℤ low) ≤ℤ z) × (z ≤ℤ (pos 1 *ℤ (low +ℤ size)))
point_of_meet a b low size m =
    simp scale_one (int_max (int_min a b) low, (omega (arith, ints, clamps), omega (arith, ints, clamps)), omega (arith, ints, clamps), omega (arith, ints, clamps))

-- in the plane that was enlarged twice, a whole number within both stretches
point_of_enter : (a b low size : ℤ) → EntersSpan a b low size → (z : ℤ) × IsBetween (pos 2 *ℤ a) (pos 2 *ℤ b) z × ((pos 2 *ℤ low) <ℤ z) × (z <ℤ (pos 2 *ℤ (low +ℤ size)))
point_of_enter a b low size m =
    simp scale_two (int_max (int_min (a +ℤ a) (b +ℤ b)) (low +ℤ low +ℤ pos 1), (omega (arith, ints, clamps), omega (arith, ints, clamps)), omega (arith, ints, clamps), omega (arith, ints, clamps))

pub MeetsRect-spans : (a b : Point) (r : Rect) → MeetsRect a b r → MeetsSpan a.x b.x r.x r.width × MeetsSpan a.y b.y r.y r.height
MeetsRect-spans a b r m = (
  span_of_meet m.k a.x b.x r.x r.width m.point.x m.k_above m.on_segment.across m.in_rect.left m.in_rect.right,
  span_of_meet m.k a.y b.y r.y r.height m.point.y m.k_above m.on_segment.along m.in_rect.top m.in_rect.bottom,
)

pub spans-MeetsRect : (a b : Point) (r : Rect) → MeetsSpan a.x b.x r.x r.width → MeetsSpan a.y b.y r.y r.height → MeetsRect a b r
spans-MeetsRect a b r u v =
    let x = point_of_meet a.x b.x r.x r.width u in
    let y = point_of_meet a.y b.y r.y r.height v in
    record {
      k = 1;
      k_above = omega arith;
      point = record { x = x.0; y = y.0 };
      on_segment = record { across = x.1; along = y.1 };
      in_rect = record { left = x.2; right = x.3; top = y.2; bottom = y.3 };
    }

pub EntersRect-spans : (a b : Point) (r : Rect) → EntersRect a b r → EntersSpan a.x b.x r.x r.width × EntersSpan a.y b.y r.y r.height
EntersRect-spans a b r m = (
  span_of_enter m.k a.x b.x r.x r.width m.point.x m.k_above m.on_segment.across m.inside.left m.inside.right,
  span_of_enter m.k a.y b.y r.y r.height m.point.y m.k_above m.on_segment.along m.inside.top m.inside.bottom,
)

pub spans-EntersRect : (a b : Point) (r : Rect) → EntersSpan a.x b.x r.x r.width → EntersSpan a.y b.y r.y r.height → EntersRect a b r
spans-EntersRect a b r u v =
    let x = point_of_enter a.x b.x r.x r.width u in
    let y = point_of_enter a.y b.y r.y r.height v in
    record {
      k = 2;
      k_above = omega arith;
      point = record { x = x.0; y = y.0 };
      on_segment = record { across = x.1; along = y.1 };
      inside = record { left = x.2; right = x.3; top = y.2; bottom = y.3 };
    }

-- the borders of what two segments have in common
abbrev pub SharedPiece : Point → Point → Point → Point → Type 0
SharedPiece a b c d =
    IsPiece (int_max (int_min a.x b.x) (int_min c.x d.x)) (int_min (int_max a.x b.x) (int_max c.x d.x)) (int_max (int_min a.y b.y) (int_min c.y d.y)) (int_min (int_max a.y b.y) (int_max c.y d.y))

-- two different points within one rectangle stretch it
stretch : (p q : Point) (left right top bottom : ℤ) → p ≢ q → (left ≤ℤ p.x) × (p.x ≤ℤ right) × (left ≤ℤ q.x) × (q.x ≤ℤ right) → (top ≤ℤ p.y) × (p.y ≤ℤ bottom) × (top ≤ℤ q.y) × (q.y ≤ℤ bottom) → (left <ℤ right) ⊎ (top <ℤ bottom)
stretch p q left right top bottom n h v =
    by_lt_z left right
    (λ x. inl x)
    (λ x. by_lt_z top bottom
    (λ y. inr y)
    (λ y. let ex : p.x ≡ q.x = omega (arith, ints) in let ey : p.y ≡ q.y = omega (arith, ints) in absurd (n (same_point p q ex ey))))

pub Share-piece : (a b c d : Point) → Share a b c d → SharedPiece a b c d
Share-piece a b c d s =
    let u = s.one_on_first.across in
    let v = s.one_on_first.along in
    let u' = s.one_on_second.across in
    let v' = s.one_on_second.along in
    let w = s.other_on_first.across in
    let z = s.other_on_first.along in
    let w' = s.other_on_second.across in
    let z' = s.other_on_second.along in
    record {
      across = omega (arith, ints, clamps);
      along = omega (arith, ints, clamps);
      long =
          stretch s.one s.other _ _ _ _ s.differ
          (omega (arith, ints, clamps), omega (arith, ints, clamps), omega (arith, ints, clamps), omega (arith, ints, clamps))
          (omega (arith, ints, clamps), omega (arith, ints, clamps), omega (arith, ints, clamps), omega (arith, ints, clamps));
    }

pub piece-Share : (a b c d : Point) → SharedPiece a b c d → Share a b c d
piece-Share a b c d s =
    record {
      one = record { x = int_max (int_min a.x b.x) (int_min c.x d.x); y = int_max (int_min a.y b.y) (int_min c.y d.y) };
      other = record { x = int_min (int_max a.x b.x) (int_max c.x d.x); y = int_min (int_max a.y b.y) (int_max c.y d.y) };
      differ = λ e. let ex = ap (λ (p : Point). p.x) e in let ey = ap (λ (p : Point). p.y) e in
          ⊎_elim (λ l. absurd (omega (arith, ints))) (λ l. absurd (omega (arith, ints))) s.long;
      one_on_first = record { across = (omega (arith, ints, clamps), omega (arith, ints, clamps)); along = (omega (arith, ints, clamps), omega (arith, ints, clamps)) };
      one_on_second = record { across = (omega (arith, ints, clamps), omega (arith, ints, clamps)); along = (omega (arith, ints, clamps), omega (arith, ints, clamps)) };
      other_on_first = record { across = (omega (arith, ints, clamps), omega (arith, ints, clamps)); along = (omega (arith, ints, clamps), omega (arith, ints, clamps)) };
      other_on_second = record { across = (omega (arith, ints, clamps), omega (arith, ints, clamps)); along = (omega (arith, ints, clamps), omega (arith, ints, clamps)) };
    }
