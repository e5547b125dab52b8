use Rattle.elk_layers.specs.Layered.{plain, rows_of}
use Rattle.bk_place.proofs.placing.place_left.Goals as goal

pub medians_by_unit-requires-clause-known : goal.medians_by_unit-requires-clause-known
medians_by_unit-requires-clause-known c = (rows_of c.args.order.now, c.requires.rows, c.requires.known)

pub measured-requires : goal.measured-requires
measured-requires c = record { can = rw c.as_slice.ensures.value (c.in_ok-table.ensures (rows_of c.args.order.now) c.requires.rows c.requires.known).0 }

pub measured-requires-2 : goal.measured-requires-2
measured-requires-2 c = record { can = rw c.as_slice-2.ensures.value (c.in_ok-table.ensures (rows_of c.args.order.now) c.requires.rows c.requires.known).1 }

pub returns : goal.returns
returns c = c.lower.ensures (plain c.args.layered.now) (rows_of c.args.order.now) 0 1 2 c.in_ok-up.ensures c.in_ok-down.ensures
