-- Everything stands where it should.
use Rattle.level_model.specs.Laws.{StageStands}
use Rattle.level_model.proofs.GapLemmas.{has_columns}
use Rattle.plan_laws.proofs.RowLemmas.{has_units}
use Rattle.level_model.proofs.EndLemmas.{end_stands}
use Rattle.level_model.proofs.LineLemmas.{lines_stand}
use Rattle.plan_laws.proofs.NetLemmas.{nets_stand}

pub stage_stands : StageStands
stage_stands l p o d layers ready drawn =
    let columns = has_columns l p o d ready.level.spacing drawn in
    let units = has_units l p o d layers ready in
    record {
      row = columns.row;
      gap = columns.gap;
      inner = columns.inner;
      column = units.column;
      one_child = units.one_child;
      ends = end_stands l p o layers ready d drawn;
      lines = lines_stand l p o layers ready d;
      nets = nets_stand l p o layers ready d drawn;
    }
