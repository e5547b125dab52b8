use Rattle.std.proofs.Common.{arith, rules}
use Rattle.std.proofs.lemmas.Int.{ints, clamps}
use Rattle.drawing_types.proofs.segments.meets_span.Goals as goal

pub returns-then-from-end : goal.returns-then-from-end
returns-then-from-end c = (λ h. absurd (search rules), λ m. absurd (omega (arith, ints, clamps)))

pub returns : goal.returns
returns c = (
  λ h.
      record { real = omega (arith, ints); starts = omega (arith, ints, clamps); ends = omega (arith, ints, clamps) },
  λ m. search rules,
)
