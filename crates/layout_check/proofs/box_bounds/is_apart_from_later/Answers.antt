use Rattle.std.proofs.Common.{inl, inr, arith, ◌≡◌, sym, subst}
use Rattle.std.proofs.lemmas.Bool.{cases_lt}
use Rattle.layout_check.specs.BoxBounds.{BoundsApart, bounds_at}
use Rattle.layout_check.proofs.box_bounds.is_apart_from_later.Goals as goal

pub loop-j-preserved : goal.loop-j-preserved
loop-j-preserved c =
    let xs = c.args.bounds.now in
    λ k above below.
    elim (cases_lt k c.loop-j.j) [
      | inl before ↦ c.loop-j.invariant k above before
      | inr after ↦
          let same : k ≡ c.loop-j.j = omega arith in
          subst (λ k. BoundsApart (bounds_at xs c.args.i) (bounds_at xs k)) (sym same) (c.lie_apart.ensures c.if-not-lie_apart.false)
    ]
