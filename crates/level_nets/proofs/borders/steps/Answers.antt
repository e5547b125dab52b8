use Rattle.std.proofs.Common.{◌≡◌, ◌∙◌, ℤ, pos, ◌*ℤ◌, FitsSigned, w64, to_z, of_z, ap, arith, rules}
use Rattle.std.proofs.lemmas.Int.{ints, to_z-of_z}
use Rattle.level_nets.proofs.BorderLemmas.{steps_in, range_of}
use Rattle.level_nets.proofs.borders.steps.Goals as goal

pub returns-clause-range : goal.returns-clause-range
returns-clause-range c =
    let fits : FitsSigned w64 c.from.result = search rules in
    let count : c.from.result ≡ pos c.args.count = omega (arith, ints, c.from.ensures) in
    let same : to_z w64 (of_z w64 c.from.result) *ℤ to_z w64 (of_z w64 c.args.step) ≡ pos c.args.count *ℤ c.args.step =
    ap (λ (z : ℤ). z *ℤ to_z w64 (of_z w64 c.args.step)) (to_z-of_z w64 c.from.result fits ∙ count) ∙ ap (λ (z : ℤ). pos c.args.count *ℤ z) (to_z-of_z w64 c.args.step c.ranges.step) in
    range_of (to_z w64 (of_z w64 c.from.result) *ℤ to_z w64 (of_z w64 c.args.step)) (pos c.args.count *ℤ c.args.step) same (steps_in c.args.count c.args.step (omega (arith)) c.requires)
