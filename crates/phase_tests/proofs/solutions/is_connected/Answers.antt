use Rattle.std.proofs.Common.{◌∙◌, arith, sym}
use Rattle.phase_tests.proofs.solutions.is_connected.Goals as goal

pub returns : goal.returns
returns c =
    λ yes v l.
    let p = c.in_ok-numbers.ensures in
    let n = p.number_for_each in
    let z = (rw c.as_slice.ensures.value at c.all_first.ensures) yes in
    (p.same_part 0 v (omega (arith, l)) l).0 (z 0 (omega (arith, n, l)) ∙ sym (z v (omega (arith, n, l))))
