use Rattle.std.proofs.Common.{length, refl, arith}
use Rattle.elk_layers.specs.Layered.{unit_at}
use Rattle.layer_units.specs.Started.{plain_rows}
use Rattle.layer_units.proofs.RowLemmas.{filled_more}
use Rattle.layer_units.proofs.rows.fill_rows.Goals as goal

pub loop-unit-preserved : goal.loop-unit-preserved
loop-unit-preserved c =
    filled_more c.args.units.now (length c.args.rows.now) c.loop-unit.unit (unit_at c.args.units.now c.loop-unit.unit).layer (plain_rows c.loop-unit.rows) (plain_rows c.push_unit.new.rows) refl (c.requires.layers c.loop-unit.unit (omega arith)) c.in_ok-push_unit.ensures c.loop-unit.invariant
