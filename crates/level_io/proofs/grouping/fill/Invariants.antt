use Rattle.level_io.specs.Grouping.{AreGrouped, ArePlacesIn, rows_in}
use Rattle.level_io.proofs.grouping.fill.Given as goal

abbrev pub invariant-loop-number : goal.invariant-loop-number
invariant-loop-number l = ArePlacesIn l.keys l.number l.places.items × AreGrouped l.keys l.number (rows_in l.rows)
