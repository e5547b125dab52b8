use Rattle.std.proofs.Common.{arith}
use Rattle.elk_layers.specs.Layered.{plain, rows_of, row_at}
use Rattle.cross_reduce.specs.Fans.{fan_lists}
use Rattle.cross_reduce.proofs.RowLemmas.{row_of}
use Rattle.cross_reduce.proofs.PlaceLemmas.{row_few}
use Rattle.cross_reduce.proofs.StateLemmas.{state_after}
use Rattle.cross_reduce.proofs.exchanging.exchange.Goals as goal

pub overflow_add-i : goal.overflow_add-i
overflow_add-i c =
    let few = row_few (plain c.args.layered.now) c.args.r (row_at (rows_of c.args.state.now.order) c.args.r) c.requires.state.sound (row_of (plain c.args.layered.now) (rows_of c.args.state.now.order) c.args.r c.requires.state.are_rows c.requires.row) in
    omega (arith, few, c.requires.place)

pub overflow_cast-i : goal.overflow_cast-i
overflow_cast-i c =
    let few = row_few (plain c.args.layered.now) c.args.r (row_at (rows_of c.args.state.now.order) c.args.r) c.requires.state.sound (row_of (plain c.args.layered.now) (rows_of c.args.state.now.order) c.args.r c.requires.state.are_rows c.requires.row) in
    omega (arith, few, c.requires.place)

pub overflow_cast-i-2 : goal.overflow_cast-i-2
overflow_cast-i-2 c =
    let few = row_few (plain c.args.layered.now) c.args.r (row_at (rows_of c.args.state.now.order) c.args.r) c.requires.state.sound (row_of (plain c.args.layered.now) (rows_of c.args.state.now.order) c.args.r c.requires.state.are_rows c.requires.row) in
    omega (arith, few, c.requires.place)

pub returns-clause-state : goal.returns-clause-state
returns-clause-state c =
    rw (c.swap_in.ensures, c.neighbours-upper.ensures.upper, c.neighbours-upper.ensures.lower)
    (state_after (plain c.args.layered.now) (rows_of c.args.state.now.order) c.args.state.now.place.items (fan_lists c.args.state.now.left) (fan_lists c.args.state.now.right) c.args.r c.args.i c.requires.state c.requires.row c.requires.place)
