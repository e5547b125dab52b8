use Rattle.std.proofs.Common.{◌++◌, ◌∙◌, ap, sym, append-nil}
use Rattle.bk_place.proofs.VisitLemmas.{row_next, row_whole}
use Rattle.bk_place.proofs.visiting.push_row.Goals as goal

pub loop-i-init : goal.loop-i-init
loop-i-init c = sym (append-nil c.args.visits.now.items)

pub loop-i-preserved : goal.loop-i-preserved
loop-i-preserved c =
    rw c.in_ok-push.ensures.items
    (row_next c.args.sweep c.args.row.now c.args.visits.now.items c.loop-i.visits.items c.loop-i.i c.counted-at.result c.goes_up-up.result c.loop-i-test.true c.goes_up-up.ensures c.counted-at.ensures.place c.loop-i.invariant)

pub returns : goal.returns
returns c =
    c.loop-i.invariant ∙ ap (λ xs. c.args.visits.now.items ++ xs) (row_whole c.args.sweep c.args.row.now c.loop-i.i c.loop-i-test.false)
