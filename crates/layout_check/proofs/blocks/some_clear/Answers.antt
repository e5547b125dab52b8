use Rattle.std.proofs.Common.{◌≡◌, ℕ, arith, inl, inr, subst, sym}
use Rattle.std.proofs.lemmas.Bool.{cases_lt}
use Rattle.layout_check.specs.FirstRoutes.{ChildClear}
use Rattle.layout_check.proofs.blocks.some_clear.Goals as goal

pub loop-child-preserved : goal.loop-child-preserved
loop-child-preserved c =
    let P : ℕ → Type 0 = ChildClear c.args.scene.now.doc.now c.args.scene.now.placed.now c.args.node c.args.edge in
    λ k above below.
    elim (cases_lt k c.loop-child.child) [
      | inl before ↦ c.loop-child.invariant k above before
      | inr after ↦
          let same : k ≡ c.loop-child.child = omega (arith, below, after) in
          subst P (sym same) (c.child_clear.ensures.0 c.if-not-child_clear.false)
    ]
