use Rattle.std.proofs.Common.{ℤ, ◌≤ℤ◌, SFits, of_z, rules, subst, to_z, w64}
use Rattle.std.proofs.lemmas.Int.{ints, to_z-of_z}
use Rattle.std.proofs.Common.{arith}
use Rattle.layout_check.proofs.bounds.with_point.Goals as goal

-- numbers that go into a call and come out of it
below : (x y : ℤ) → SFits w64 x → SFits w64 y → x ≤ℤ to_z w64 (of_z w64 y) → to_z w64 (of_z w64 x) ≤ℤ y
below x y f g h = rw (to_z-of_z w64 x f) (subst (λ z. x ≤ℤ z) (to_z-of_z w64 y g) h)

above : (x y : ℤ) → SFits w64 x → SFits w64 y → to_z w64 (of_z w64 y) ≤ℤ x → y ≤ℤ to_z w64 (of_z w64 x)
above x y f g h = rw (to_z-of_z w64 x f) (subst (λ z. z ≤ℤ x) (to_z-of_z w64 y g) h)

trans : (x y z : ℤ) → x ≤ℤ y → y ≤ℤ z → x ≤ℤ z
trans x y z f g = omega (arith, ints)

pub returns-clause-kept : goal.returns-clause-kept
returns-clause-kept c =
    let left = below c.lower.result c.args.bounds.left (search rules) (search rules) c.lower.ensures.one in
    let top = below c.lower-2.result c.args.bounds.top (search rules) (search rules) c.lower-2.ensures.one in
    let right = above c.upper.result c.args.bounds.right (search rules) (search rules) c.upper.ensures.one in
    let bottom = above c.upper-2.result c.args.bounds.bottom (search rules) (search rules) c.upper-2.ensures.one in
    λ q h.
    record {
      left = trans _ c.args.bounds.left _ left h.left;
      right = trans _ c.args.bounds.right _ h.right right;
      top = trans _ c.args.bounds.top _ top h.top;
      bottom = trans _ c.args.bounds.bottom _ h.bottom bottom;
    }

pub returns-clause-held : goal.returns-clause-held
returns-clause-held c =
    record {
      left = below c.lower.result c.args.point.x (search rules) (search rules) c.lower.ensures.other;
      right = above c.upper.result c.args.point.x (search rules) (search rules) c.upper.ensures.other;
      top = below c.lower-2.result c.args.point.y (search rules) (search rules) c.lower-2.ensures.other;
      bottom = above c.upper-2.result c.args.point.y (search rules) (search rules) c.upper-2.ensures.other;
    }
