use Rattle.std.proofs.Common.{◌<◌, ◌∙◌, FitsSigned, w64, ap, length, rules, sym, subst}
use Rattle.std.proofs.lemmas.Int.{to_z-of_z}
use Rattle.std.specs.Prelude.{is_some}
use Rattle.level_model.specs.declared.table.EndAt.{EndAt}
use Rattle.level_model.specs.Conditions.{plain_level}
use Rattle.dock_table.specs.Bounds.{IsEndIn}
use Rattle.layer_units.specs.Reading.{pin_of}
use Rattle.layer_units.proofs.ReadLemmas.{pin_child, pin_lane}
use Rattle.layer_units.proofs.RoomLemmas.{end_dock, end_near}
use Rattle.layer_units.proofs.pins.pin_at.Goals as goal

pub pin_of-requires-clause-dock : goal.pin_of-requires-clause-dock
pin_of-requires-clause-dock c =
    subst (λ (v : EndAt). v.dock.node < length c.args.fitting.now.table.now.children) (sym c.end-end.ensures)
    (end_dock (plain_level c.args.fitting.now.level.now) c.args.fitting.now.table.now c.args.fitting.now.marks.now c.args.edge c.args.at_source c.requires.fitting c.requires.edge)

pub pin_of-requires-clause-near : goal.pin_of-requires-clause-near
pin_of-requires-clause-near c =
    subst IsEndIn (sym c.end-end.ensures)
    (end_near (plain_level c.args.fitting.now.level.now) c.args.fitting.now.table.now c.args.fitting.now.marks.now c.args.edge c.args.at_source c.requires.fitting c.requires.edge)

pub returns-in-None : goal.returns-in-None
returns-in-None c =
    sym (pin_lane c.args.fitting.now.level.now.spacing c.args.fitting.now.table.now c.args.unit c.args.edge c.args.at_source c.args.enters (ap is_some c.in-None.is))

pub returns-in-Some : goal.returns-in-Some
returns-in-Some c =
    let fits : FitsSigned w64 c.pin_of.result = search rules in
    to_z-of_z w64 c.pin_of.result fits ∙ c.pin_of.ensures
    ∙ ap (λ (v : EndAt). pin_of c.args.fitting.now.level.now.spacing c.args.fitting.now.table.now v c.args.enters) c.end-end.ensures
    ∙ sym (pin_child c.args.fitting.now.level.now.spacing c.args.fitting.now.table.now c.args.unit c.args.edge c.args.at_source c.args.enters (ap is_some c.in-Some.is))
