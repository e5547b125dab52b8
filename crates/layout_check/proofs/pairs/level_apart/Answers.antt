use Rattle.std.proofs.Common.{◌↔◌, ⊎_elim, inl, inr, ℤ, IsTrue, subst, refl, false, w64}
use Rattle.std.proofs.lemmas.Bool.{both_ways}
use Rattle.std.proofs.lemmas.Int.{to_z-of_z}
use Rattle.layout_check.specs.FirstApart.{IsBeyond}
use Rattle.layout_check.proofs.pairs.level_apart.Goals as goal

pub returns-then-is_beyond : goal.returns-then-is_beyond
returns-then-is_beyond c =
    let P : ℤ → Type 0 = λ z. IsTrue c.is_beyond.result ↔ IsBeyond false z c.args.way c.args.r c.args.s in
    let one = subst P (to_z-of_z w64 c.args.gap c.ranges.gap) c.is_beyond.ensures in
    (λ _. inl (one.0 c.if-is_beyond.true), λ _. refl)

pub returns : goal.returns
returns c =
    let P : ℤ → Type 0 = λ z. IsTrue c.is_beyond.result ↔ IsBeyond false z c.args.way c.args.r c.args.s in
    let one = subst P (to_z-of_z w64 c.args.gap c.ranges.gap) c.is_beyond.ensures in
    let Q : ℤ → Type 0 = λ z. IsTrue c.is_beyond-2.result ↔ IsBeyond false z c.args.way c.args.s c.args.r in
    let other = subst Q (to_z-of_z w64 c.args.gap c.ranges.gap) c.is_beyond-2.ensures in
    (λ t. inr (other.0 t), λ h. ⊎_elim (λ x. absurd (both_ways c.is_beyond.result c.if-is_beyond.false (one.1 x))) other.1 h)
