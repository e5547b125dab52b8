use Rattle.std.proofs.Common.{◌≡◌, ◌<◌, ℕ}
use Rattle.elk_layers.specs.Layered.{plain, rows_of}
use Rattle.elk_layers.specs.Crossings.{HasSameRows}
use Rattle.cross_reduce.specs.Fans.{fan_lists}
use Rattle.cross_reduce.specs.Reduced.{after_rows}
use Rattle.cross_reduce.specs.Exchanges.{IsState, IsTried}
use Rattle.cross_reduce.specs.Held.{AreHeldRows, IsNoneHeld, NoneFreeInRow, AreSettled}
use Rattle.cross_reduce.proofs.exchanging.try_rows.Given as goal

abbrev pub invariant-loop-r : goal.invariant-loop-r
invariant-loop-r l =
    record {
      state : IsState (plain l.layered) (rows_of l.state.order) l.state.place.items (fan_lists l.state.left) (fan_lists l.state.right);
      settled : AreSettled (plain l.layered) l.held (rows_of l.state.order) l.settled.items;
      same : HasSameRows (rows_of l.initial.state.order) (rows_of l.state.order);
      after : IsNoneHeld l.held → rows_of l.state.order ≡ after_rows (plain l.layered) (rows_of l.initial.state.order) l.r;
      ascends : AreHeldRows l.held (rows_of l.initial.state.order) → AreHeldRows l.held (rows_of l.state.order);
      tried : IsTried (plain l.layered) (rows_of l.initial.state.order) (rows_of l.state.order) l.changed ((g : ℕ) → g < l.r → NoneFreeInRow (plain l.layered) l.held (rows_of l.initial.state.order) g);
    }
