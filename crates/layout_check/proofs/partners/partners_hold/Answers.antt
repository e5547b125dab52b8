use Rattle.std.proofs.Common.{◌≡◌, ◌<◌, ℕ, ap, arith, inl, inr, length, subst, sym}
use Rattle.std.proofs.lemmas.Bool.{cases_lt}
use Rattle.layout_check.specs.FirstRoutes.{SharingHolds}
use Rattle.layout_check.proofs.partners.partners_hold.Goals as goal

pub loop-other-preserved : goal.loop-other-preserved
loop-other-preserved c =
    let P : ℕ → Type 0 = SharingHolds c.args.scene.now.doc.now c.args.scene.now.placed.now c.args.node c.args.edge in
    λ k above below.
    elim (cases_lt k c.loop-other.other) [
      | inl before ↦ c.loop-other.invariant k above before
      | inr after ↦
          let same : k ≡ c.loop-other.other = omega arith in
          subst P (sym same) (c.partner_holds-holds.ensures c.if-not-holds.false)
    ]

pub returns : goal.returns
returns c =
    let end = ap length c.edges-other-end.ensures.value in
    λ _ f of other_of later.
    let inside : f < c.loop-other.other = let within = other_of.edge_in in omega (arith, end, within) in
    c.loop-other.invariant f later inside of other_of later
