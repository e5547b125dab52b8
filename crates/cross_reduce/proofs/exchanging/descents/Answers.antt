use Rattle.std.proofs.Common.{◌≤◌, ◌^◌, nat_lt, get_or, arith}
use Rattle.std.proofs.lemmas.List.Sums.{count_by-le-length, sum_by_more}
use Rattle.std.specs.List.{count_by}
use Rattle.cross_reduce.proofs.exchanging.descents.Goals as goal

few : (c : goal.After-count_above-total) → c.count_above-total.result ≤ 2 ^ 24
few c =
    let a = count_by-le-length (λ x. nat_lt (get_or c.args.lower.now c.loop-key.key-index 0) x) c.args.upper.now in
    omega (arith, a, c.count_above-total.ensures, c.requires.upper)

pub overflow_add-total : goal.overflow_add-total
overflow_add-total c = let a = few c in omega (arith, a, c.loop-key.invariant.bound, c.requires.lower)

pub loop-key-preserved : goal.loop-key-preserved
loop-key-preserved c =
    let a = few c in
    let more = sum_by_more (λ y. count_by (λ x. nat_lt y x) c.args.upper.now) c.args.lower.now c.loop-key.key-index 0 c.loop-key-test.true in
    record { value = omega (arith, more, c.count_above-total.ensures, c.loop-key.invariant.value); bound = omega (arith, a, c.loop-key.invariant.bound) }

pub returns-clause-bound : goal.returns-clause-bound
returns-clause-bound c = omega (arith, c.loop-key.invariant.bound, c.requires.lower)
