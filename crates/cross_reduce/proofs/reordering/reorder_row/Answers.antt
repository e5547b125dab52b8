use Rattle.std.proofs.Common.{◌<◌, length, get_or, subst, sym}
use Rattle.std.specs.List.Sorted.{IsPermutation}
use Rattle.std.proofs.lemmas.List.Elements.{All-from_get_or}
use Rattle.elk_layers.specs.Layered.{rows_of, row_at}
use Rattle.elk_layers.specs.Crossings.{HasSameRows}
use Rattle.cross_reduce.proofs.CandidateLemmas.{same_replaced}
use Rattle.cross_reduce.proofs.reordering.reorder_row.Goals as goal

pub by_keys-requires : goal.by_keys-requires
by_keys-requires c =
    rw c.row_in.ensures
    (All-from_get_or (λ u. u < length c.args.keys.now) (row_at (rows_of c.args.order.now) c.args.r) 0
    (λ i h. subst (λ n. get_or (row_at (rows_of c.args.order.now) c.args.r) i 0 < n) (sym c.requires.keys) (c.requires.rows.in_range c.args.r c.requires.row i h)))

pub returns : goal.returns
returns c =
    let permuted = subst (λ xs. IsPermutation xs c.in_ok-row.row.items) c.row_in.ensures c.in_ok-row.ensures in
    subst (λ rows. HasSameRows (rows_of c.args.order.now) rows) (sym c.set_row.ensures)
    (same_replaced (rows_of c.args.order.now) c.args.r c.in_ok-row.row.items c.requires.row permuted)
