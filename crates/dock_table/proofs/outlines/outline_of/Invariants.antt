use Rattle.std.proofs.Common.{◌≡◌, ◌≤◌, ◌-◌, length}
use Rattle.std.specs.List.{range_with_len}
use Rattle.dock_table.specs.Narrow.{IsNearRect}
use Rattle.dock_table.specs.Outlines.{outline_by}
use Rattle.dock_table.proofs.outlines.outline_of.Given as goal

abbrev pub invariant-ports : goal.invariant-ports
invariant-ports l =
    record {
      within : l.port ≤ length l.child.ports;
      outline : l.outline ≡ outline_by l.child l.docks (range_with_len l.port (length l.child.ports - l.port));
      near : IsNearRect l.outline;
    }

abbrev pub decreases-ports : goal.decreases-ports
decreases-ports l = l.port
