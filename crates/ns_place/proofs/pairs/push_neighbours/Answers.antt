use Rattle.std.proofs.Common.{◌-◌, ◌++◌, ap, sym, ◌∙◌, arith, drop, append-nil}
use Rattle.std.proofs.lemmas.List.{length-drop}
use Rattle.ns_place.proofs.PairLemmas.{neighbours_step, neighbours_short}
use Rattle.ns_place.proofs.pairs.push_neighbours.Goals as goal

pub loop-i-preserved : goal.loop-i-preserved
loop-i-preserved c =
    rw c.in_ok-push.ensures.items
    (neighbours_step c.args.body c.args.units.now c.loop-i.i c.loop-i.pairs.items (omega (arith, c.loop-i.auto.i)) (omega (arith, c.loop-i-test.true))
    ∙ c.loop-i.invariant)

pub returns : goal.returns
returns c =
    let cut = length-drop (c.loop-i.i - 1) c.args.units.now in
    let short = neighbours_short c.args.body (drop (c.loop-i.i - 1) c.args.units.now) (omega (arith, cut)) in
    sym (append-nil c.loop-i.pairs.items) ∙ ap (λ ps. c.loop-i.pairs.items ++ ps) (sym short) ∙ c.loop-i.invariant
