use Rattle.std.proofs.Common.{◌≡◌, ◌⊎◌, ◌<◌, ◌≤◌, ◌+◌, ◌-◌, ℕ, length}
use Rattle.elk_layers.specs.Layered.{plain, rows_of, row_at}
use Rattle.elk_layers.specs.Crossings.{HasSameRows}
use Rattle.cross_reduce.specs.Fans.{fan_lists}
use Rattle.cross_reduce.specs.Reduced.{after_pairs}
use Rattle.cross_reduce.specs.Exchanges.{IsState, IsTried, KeepsOthers}
use Rattle.cross_reduce.specs.Held.{AreHeldRows, IsNoneHeld, IsNoBetterFree}
use Rattle.cross_reduce.proofs.exchanging.try_row.Given as goal

abbrev pub invariant-loop-i : goal.invariant-loop-i
invariant-loop-i l =
    record {
      state : IsState (plain l.layered) (rows_of l.state.order) l.state.place.items (fan_lists l.state.left) (fan_lists l.state.right);
      same : HasSameRows (rows_of l.initial.state.order) (rows_of l.state.order);
      after : IsNoneHeld l.held → rows_of l.state.order ≡ after_pairs (plain l.layered) (rows_of l.initial.state.order) l.r (l.i - 1);
      end : (l.i ≡ 1) ⊎ (l.i ≤ length (row_at (rows_of l.initial.state.order) l.r));
      tried : IsTried (plain l.layered) (rows_of l.initial.state.order) (rows_of l.state.order) l.changed ((k : ℕ) → k + 1 < l.i → IsNoBetterFree (plain l.layered) l.held (rows_of l.initial.state.order) l.r k);
      ascends : AreHeldRows l.held (rows_of l.initial.state.order) → AreHeldRows l.held (rows_of l.state.order);
      others : KeepsOthers (rows_of l.initial.state.order) (rows_of l.state.order) l.r;
    }
