use Rattle.std.proofs.Common.{◌≡◌, ◌≢◌, ◌<◌, ℕ, ℤ, length}
use Rattle.std.specs.Prelude.{slice_index}
use Rattle.std.specs.List.{filter, range_with_len}
use Rattle.std.specs.Ordering.{int_cmp}
use Rattle.std.specs.BTreeMap.{get}
use Rattle.dock_table.specs.Lanes.{first_same, first_some, seen_test}
use Rattle.dock_table.specs.Outlines.{dock_in}
use Rattle.dock_table.proofs.lanes.note_firsts.Given as goal

abbrev pub invariant-loop-i : goal.invariant-loop-i
invariant-loop-i l =
    record {
      as_long : length l.firsts ≡ length l.docks;
      seen : (z : ℤ) → get int_cmp l.seen z ≡ first_some (filter (seen_test l.docks l.side z) (range_with_len 0 l.i));
      noted : (j : ℕ) → j < l.i → (dock_in l.docks j).side ≡ l.side → slice_index l.firsts j ≡ first_same l.docks j;
      kept : (j : ℕ) → (dock_in l.docks j).side ≢ l.side → slice_index l.firsts j ≡ slice_index l.initial.firsts j;
    }
