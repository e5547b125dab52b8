use Rattle.std.proofs.Common.{◌≡◌, ◌+◌, length, arith, subst, sym}
use Rattle.network_parts.specs.Dividing.{AreCounted}
use Rattle.network_parts.proofs.FillLemmas.{counted_more, counted_same, none_counted}
use Rattle.network_parts.proofs.dividing.count_parts.Goals as goal
use Rattle.network_parts.proofs.dividing.count_parts.Goals.{then-number-count, else-number-count}

pub loop-number-init : goal.loop-number-init
loop-number-init c = none_counted c.args.numbers.now

pub loop-number-preserved : goal.loop-number-preserved
loop-number-preserved c =
    let numbers = c.args.numbers.now in
    let n = c.loop-number.number-index in
    elim c.if-number-count.branch [
      | then-number-count w ↦ subst (AreCounted numbers (n + 1)) (sym w.count-is) (counted_more numbers n c.loop-number.count c.loop-number.invariant w.if-number-count.true)
      | else-number-count w ↦ subst (AreCounted numbers (n + 1)) (sym w.count-is) (counted_same numbers n c.loop-number.count c.loop-number.invariant w.if-number-count.false)
    ]

pub returns : goal.returns
returns c =
    let all : c.loop-number.number-index ≡ length c.args.numbers.now = omega arith in
    subst (λ n. AreCounted c.args.numbers.now n c.loop-number.count) all c.loop-number.invariant
