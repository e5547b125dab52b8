use Rattle.std.proofs.Common.{◌∙◌, ap, sym}
use Rattle.level_model.specs.declared.table.ChildAt.{ChildAt}
use Rattle.layer_units.specs.Reading.{roomy, unit_for, unit_with}
use Rattle.layer_units.proofs.heights.fitted_unit.Goals as goal

pub returns-in-None : goal.returns-in-None
unfolding unit_with
returns-in-None c = ap (unit_for c.args.fitting.now.level.now.spacing c.args.fitting.now.table.now.children c.args.unit) (sym c.in-None.is)

pub returns-in-Some : goal.returns-in-Some
unfolding unit_with
returns-in-Some c =
    c.with_room.ensures ∙ ap (λ (v : ChildAt). roomy c.args.fitting.now.level.now.spacing v c.args.unit) c.entry_at-entry.ensures
    ∙ ap (unit_for c.args.fitting.now.level.now.spacing c.args.fitting.now.table.now.children c.args.unit) (sym c.in-Some.is)
