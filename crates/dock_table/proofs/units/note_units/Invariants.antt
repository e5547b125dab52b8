use Rattle.std.proofs.Common.{length, ◌≤◌}
use Rattle.elk_layers.specs.Layered.{plain}
use Rattle.dock_table.specs.Ends.{is_unit_of}
use Rattle.dock_table.specs.Courses.{AreFirstFrom}
use Rattle.dock_table.proofs.units.note_units.Given as goal

abbrev pub invariant-units : goal.invariant-units
invariant-units l =
    record {
      within : l.unit ≤ length (plain l.layered).units;
      firsts : AreFirstFrom (is_unit_of (plain l.layered)) l.unit (length (plain l.layered).units) (length l.initial.units) l.units;
    }

abbrev pub decreases-units : goal.decreases-units
decreases-units l = l.unit
