use Rattle.std.proofs.Common.{◌≡◌, ◌+◌, ◌*◌, false, List, ℕ}
use Rattle.elk_layers.specs.Layered.{plain, rows_of}
use Rattle.elk_layers.specs.Crossings.{HasSameRows, crossings}
use Rattle.cross_reduce.specs.Fans.{fan_lists}
use Rattle.cross_reduce.specs.Reduced.{SettlesTo}
use Rattle.cross_reduce.specs.Exchanges.{IsState}
use Rattle.cross_reduce.specs.Held.{AreHeldRows, IsNoneHeld, NoBetterFreeSwap, AreSettled}
use Rattle.cross_reduce.proofs.Sums.{one_if}
use Rattle.cross_reduce.proofs.exchanging.exchanged_free_by.Given as goal

abbrev pub invariant-loop-changed : goal.invariant-loop-changed
invariant-loop-changed l =
    record {
      state : IsState (plain l.layered) (rows_of l.state.order) l.state.place.items (fan_lists l.state.left) (fan_lists l.state.right);
      flags : AreSettled (plain l.layered) l.held (rows_of l.state.order) l.settled.items;
      same : HasSameRows (rows_of l.initial.state.order) (rows_of l.state.order);
      settles : IsNoneHeld l.held → (b : List (List ℕ)) → SettlesTo (plain l.layered) (rows_of l.state.order) b → SettlesTo (plain l.layered) (rows_of l.initial.state.order) b;
      ascends : AreHeldRows l.held (rows_of l.initial.state.order) → AreHeldRows l.held (rows_of l.state.order);
      settled : l.changed ≡ false → NoBetterFreeSwap (plain l.layered) l.held (rows_of l.state.order);
    }

abbrev pub decreases-loop-changed : goal.decreases-loop-changed
decreases-loop-changed l = 2 * crossings (plain l.layered) (rows_of l.state.order) + one_if l.changed
