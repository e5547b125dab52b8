use Rattle.std.proofs.Common.{◌≡◌, ◌<◌, ℕ, length, pos}
use Rattle.std.specs.Prelude.{slice_index_or}
use Rattle.port_order.specs.Places.{place_of_port}
use Rattle.dock_table.specs.Outlines.{dock_in}
use Rattle.dock_table.proofs.outlines.ports_of.Given as goal

abbrev pub invariant-loop-port : goal.invariant-loop-port
invariant-loop-port l =
    record {
      as_many : length l.ports.items ≡ l.port;
      ports : (k : ℕ) → k < l.port → slice_index_or l.ports.items k (record { x = pos 0; y = pos 0 }) ≡ place_of_port l.child (dock_in l.docks k).side k (dock_in l.docks k).offset;
    }
