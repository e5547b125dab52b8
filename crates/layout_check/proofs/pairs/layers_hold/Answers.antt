use Rattle.std.proofs.Common.{refl}
use Rattle.std.proofs.lemmas.Bool.{both_ways}
use Rattle.layout_check.proofs.pairs.layers_hold.Goals as goal

pub returns-then-not-may_be_near : goal.returns-then-not-may_be_near
returns-then-not-may_be_near c = (
  λ _ f x y l s. absurd (both_ways c.may_be_near.result c.if-not-may_be_near.true (c.may_be_near.ensures.1 (record { layered = f; one = x; other = y; order = l; part = s }))),
  λ _. refl,
)

pub returns : goal.returns
returns c =
    let near = c.may_be_near.ensures.0 c.if-not-may_be_near.false in (
      λ t _ _ _ _ _. c.both_apart.ensures.0 t,
      λ h. c.both_apart.ensures.1 (h near.layered near.one near.other near.order near.part),
    )
