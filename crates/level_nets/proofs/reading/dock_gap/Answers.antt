use Rattle.std.proofs.Common.{◌∙◌, ap}
use Rattle.level_model.specs.declared.table.EndAt.{EndAt}
use Rattle.level_nets.specs.Read.{gap_named, gap_at}
use Rattle.level_nets.specs.Reach.{parts_in}
use Rattle.level_nets.proofs.reading.dock_gap.Goals as goal

pub returns-clause-value : goal.returns-clause-value
unfolding gap_named
returns-clause-value c = c.gap_at.ensures.value ∙ ap (λ (v : EndAt). gap_at (parts_in c.args.sheet.now) v.dock v.dock.side) c.end_at.ensures
