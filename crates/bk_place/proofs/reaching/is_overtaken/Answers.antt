use Rattle.std.proofs.Common.{arith}
use Rattle.bk_place.proofs.ReachLemmas.{overtaken_is}
use Rattle.bk_place.proofs.reaching.is_overtaken.Goals as goal

pub returns : goal.returns
returns c =
    let bound = rw c.as_slice.ensures.value at c.begin_before-before.ensures.bound in
    let many = c.requires.as_many in
    rw c.as_slice-highest.ensures.value
    (overtaken_is c.args.reach.now.pins.items c.args.pin c.begin_before-before.result _ bound
    (c.requires.highest_is c.begin_before-before.result (omega (arith, bound, many)))
    (rw c.as_slice.ensures.value at c.begin_before-before.ensures.before) (rw c.as_slice.ensures.value at c.begin_before-before.ensures.behind))
