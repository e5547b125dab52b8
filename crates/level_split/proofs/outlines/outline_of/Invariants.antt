use Rattle.std.proofs.Common.{◌≡◌, ◌≤◌, ◌-◌, length}
use Rattle.std.specs.List.{range_with_len}
use Rattle.dock_table.specs.Narrow.{IsNearRect}
use Rattle.level_split.specs.Outlines.{outline_from}
use Rattle.level_split.proofs.outlines.outline_of.Given as goal

abbrev pub invariant-ports : goal.invariant-ports
invariant-ports l =
    record {
      within : l.port ≤ length l.child.ports;
      outline : l.outline ≡ outline_from l.child l.ports (range_with_len l.port (length l.child.ports - l.port));
      near : IsNearRect l.outline;
    }

abbrev pub decreases-ports : goal.decreases-ports
decreases-ports l = l.port
