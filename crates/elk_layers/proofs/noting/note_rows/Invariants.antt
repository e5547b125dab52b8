use Rattle.elk_layers.specs.Layered.{plain, rows_of}
use Rattle.elk_layers.specs.Places.{PlacedBelow}
use Rattle.elk_layers.proofs.noting.note_rows.Given as goal

abbrev pub invariant-loop-row : goal.invariant-loop-row
invariant-loop-row l = PlacedBelow (plain l.layered) (rows_of l.order) l.row-index l.place
