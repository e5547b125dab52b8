use Rattle.std.proofs.Common.{inl, inr, refl, ⊎_elim}
use Rattle.std.proofs.lemmas.Bool.{both_ways}
use Rattle.layout_check.proofs.beyond.parts_apart.Goals as goal

pub returns-then-parts_clear : goal.returns-then-parts_clear
returns-then-parts_clear c = (λ _. inl (c.parts_clear.ensures.0 c.if-parts_clear.true), λ _. refl)

pub returns : goal.returns
returns c = (
  λ t. inr (c.parts_clear-2.ensures.0 t),
  λ h. ⊎_elim (λ q. absurd (both_ways c.parts_clear.result c.if-parts_clear.false (c.parts_clear.ensures.1 q))) (λ q. c.parts_clear-2.ensures.1 q) h,
)
