use Rattle.std.proofs.Common.{[], sym, subst}
use Rattle.std.specs.List.Sorted.{IsPermutation}
use Rattle.std.proofs.lemmas.List.{get_or-set_same, get_or-set_other}
use Rattle.elk_layers.specs.Layered.{rows_of, row_at}
use Rattle.elk_layers.specs.Crossings.{HasSameRows}
use Rattle.cross_reduce.specs.Exchanges.{KeepsOthers}
use Rattle.cross_reduce.specs.Held.{IsHeldRow}
use Rattle.cross_reduce.proofs.CandidateLemmas.{same_replaced}
use Rattle.cross_reduce.proofs.holding.hold_row.Goals as goal

pub returns-clause-same : goal.returns-clause-same
returns-clause-same c =
    let permuted = subst (λ xs. IsPermutation xs c.in_ok-row.row.items) c.row_in.ensures c.in_ok-row.ensures.permuted in
    subst (λ rows. HasSameRows (rows_of c.args.order.now) rows) (sym c.set_row.ensures)
    (same_replaced (rows_of c.args.order.now) c.args.r c.in_ok-row.row.items c.requires permuted)

pub returns-clause-ascends : goal.returns-clause-ascends
returns-clause-ascends c =
    subst (λ rows. IsHeldRow c.args.held.now (row_at rows c.args.r)) (sym c.set_row.ensures)
    (rw (get_or-set_same (rows_of c.args.order.now) c.args.r c.in_ok-row.row.items [] c.requires) c.in_ok-row.ensures.ascends)

pub returns-clause-others : goal.returns-clause-others
returns-clause-others c =
    subst (λ rows. KeepsOthers (rows_of c.args.order.now) rows c.args.r) (sym c.set_row.ensures)
    (λ g n. get_or-set_other (rows_of c.args.order.now) c.args.r g c.in_ok-row.row.items [] n)
