use Rattle.elk_layers.specs.Layered.{rows_of}
use Rattle.bk_place.proofs.choosing.align_marked.Goals as goal

pub medians_by_unit-requires-clause-known : goal.medians_by_unit-requires-clause-known
medians_by_unit-requires-clause-known c = (rows_of c.args.order.now, c.requires.rows, c.requires.known)

pub align_by-requires : goal.align_by-requires
align_by-requires c =
    record { can = rw c.as_slice.ensures.value (c.in_ok-table.ensures (rows_of c.args.order.now) c.requires.rows c.requires.known).0 }
