use Rattle.dock_table.specs.Rows.{row_with}
use Rattle.dock_table.proofs.ReadLemmas.{row_changed}
use Rattle.dock_table.proofs.spots.add_end.Goals as goal

pub returns-clause-rows : goal.returns-clause-rows
returns-clause-rows c =
    row_changed (λ v. v.items) (row_with c.args.spoke.port c.args.told) c.args.rows.now.lists.items c.args.spoke.child c.index_mut.result.now c.add_to_row.new.row c.index_mut.ensures.value c.requires.child c.in_ok-number.ensures.row
