use Rattle.std.proofs.Common.{◌∙◌, ap, sym, subst, true}
use Rattle.level_model.specs.declared.table.EndAt.{EndAt}
use Rattle.level_nets.specs.Read.{gap_named, gap_at}
use Rattle.level_nets.specs.Reach.{parts_in, IsDockIn}
use Rattle.level_nets.proofs.reading.loop_gap.Goals as goal

pub gap_at-requires-clause-dock : goal.gap_at-requires-clause-dock
gap_at-requires-clause-dock c =
    subst (λ (v : EndAt). IsDockIn (parts_in c.args.sheet.now) v.dock) (sym c.end_at.ensures) (c.requires.sheet.reach.ends c.args.edge true c.requires.edge).dock

pub returns-clause-value : goal.returns-clause-value
unfolding gap_named
returns-clause-value c = c.gap_at.ensures.value ∙ ap (λ (v : EndAt). gap_at (parts_in c.args.sheet.now) v.dock c.args.side) c.end_at.ensures
