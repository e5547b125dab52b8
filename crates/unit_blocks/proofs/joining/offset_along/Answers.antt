use Rattle.std.proofs.Common.{arith}
use Rattle.std.proofs.lemmas.Int.{ints}
use Rattle.elk_layers.specs.Layered.{plain}
use Rattle.unit_blocks.proofs.JoinLemmas.{along_fits}
use Rattle.unit_blocks.proofs.joining.offset_along.Goals as goal

pub overflow_add-result : goal.overflow_add-result
overflow_add-result c =
    let can = rw c.in-Some.is at c.requires.can in
    let f = rw (← c.as_slice-links.ensures.value) at (along_fits (plain c.args.layered.now) c.args.offsets.now c.in-Some.k c.requires.sound can) in
    omega (arith, ints, f.low, f.high, f.tail_low, f.tail_high, f.head_low, f.head_high)

pub overflow_sub-result : goal.overflow_sub-result
overflow_sub-result c =
    let can = rw c.in-Some.is at c.requires.can in
    let f = rw (← c.as_slice-links.ensures.value) at (along_fits (plain c.args.layered.now) c.args.offsets.now c.in-Some.k c.requires.sound can) in
    omega (arith, ints, f.low, f.high, f.tail_low, f.tail_high, f.head_low, f.head_high)

pub returns-in-Some : goal.returns-in-Some
returns-in-Some c =
    let can = rw c.in-Some.is at c.requires.can in
    let f = rw (← c.as_slice-links.ensures.value) at (along_fits (plain c.args.layered.now) c.args.offsets.now c.in-Some.k c.requires.sound can) in
    rw (c.in-Some.is, ← c.as_slice-links.ensures.value) (omega (arith, ints, f.low, f.high, f.tail_low, f.tail_high, f.head_low, f.head_high))
