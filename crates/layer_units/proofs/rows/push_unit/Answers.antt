use Rattle.std.proofs.Common.{refl, set}
use Rattle.layer_units.proofs.RowLemmas.{row_pushed}
use Rattle.layer_units.proofs.rows.push_unit.Goals as goal

pub returns : goal.returns
returns c = row_pushed c.args.rows.now (set c.args.rows.now c.args.row c.push.new.self) c.args.row c.args.unit c.push.new.self c.index-rows-row.result c.requires refl c.in_ok-push.ensures.items
