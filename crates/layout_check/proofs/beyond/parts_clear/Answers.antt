use Rattle.std.proofs.Common.{inl, inr, refl, ⊎_elim}
use Rattle.std.proofs.lemmas.Bool.{both_ways}
use Rattle.layout_check.proofs.beyond.parts_clear.Goals as goal

pub returns-then-is_part_beyond : goal.returns-then-is_part_beyond
returns-then-is_part_beyond c = (λ _. inl (c.is_part_beyond.ensures.0 c.if-is_part_beyond.true), λ _. refl)

pub returns : goal.returns
returns c = (
  λ t. inr (c.is_part_beyond-2.ensures.0 t),
  λ h. ⊎_elim (λ q. absurd (both_ways c.is_part_beyond.result c.if-is_part_beyond.false (c.is_part_beyond.ensures.1 q))) (λ q. c.is_part_beyond-2.ensures.1 q) h,
)
