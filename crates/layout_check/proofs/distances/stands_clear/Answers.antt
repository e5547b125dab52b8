use Rattle.std.proofs.Common.{◌↔◌, ⊎_elim, inl, inr, ℤ, IsTrue, subst, refl, true, false, w64}
use Rattle.std.proofs.lemmas.Bool.{both_ways}
use Rattle.std.proofs.lemmas.Int.{to_z-of_z}
use Rattle.layout_check.specs.FirstApart.{IsBeyond}
use Rattle.layout_check.proofs.distances.stands_clear.Goals as goal

pub returns-then-is_left_by : goal.returns-then-is_left_by
returns-then-is_left_by c =
    let P : ℤ → Type 0 = λ z. IsTrue c.is_left_by.result ↔ IsBeyond true z c.args.way c.args.r c.args.s in
    let left = subst P (to_z-of_z w64 c.args.gap c.ranges.gap) c.is_left_by.ensures in
    (λ _. inl (left.0 c.if-is_left_by.true), λ _. refl)

pub returns : goal.returns
returns c =
    let P : ℤ → Type 0 = λ z. IsTrue c.is_left_by.result ↔ IsBeyond true z c.args.way c.args.r c.args.s in
    let left = subst P (to_z-of_z w64 c.args.gap c.ranges.gap) c.is_left_by.ensures in
    let Q : ℤ → Type 0 = λ z. IsTrue c.is_above_by.result ↔ IsBeyond false z c.args.way c.args.r c.args.s in
    let above = subst Q (to_z-of_z w64 c.args.gap c.ranges.gap) c.is_above_by.ensures in
    (λ t. inr (above.0 t), λ h. ⊎_elim (λ x. absurd (both_ways c.is_left_by.result c.if-is_left_by.false (left.1 x))) above.1 h)
