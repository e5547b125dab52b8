use Rattle.layer_units.specs.Passing.{row_with}
use Rattle.dock_table.proofs.ReadLemmas.{row_changed}
use Rattle.layer_units.proofs.passing.note_end.Goals as goal

pub returns : goal.returns
returns c =
    row_changed (λ v. v.items) (row_with c.args.spoke.port c.args.enters) c.args.spots.now.lists.items c.args.spoke.child c.index_mut.result.now c.note_port.new.row c.index_mut.ensures.value c.requires.child c.note_port.ensures
