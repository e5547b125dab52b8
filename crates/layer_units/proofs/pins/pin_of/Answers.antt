use Rattle.std.proofs.Common.{◌+ℤ◌, ◌-ℤ◌, ◌∙◌, ap, sym, subst}
use Rattle.level_model.specs.declared.table.ChildAt.{ChildAt}
use Rattle.dock_table.specs.Bounds.{IsIn}
use Rattle.layer_units.specs.Reading.{anchor_below}
use Rattle.layer_units.proofs.ReadLemmas.{pin_off, pin_on}
use Rattle.layer_units.proofs.RoomLemmas.{near_read, pin_add, pin_sub, pin_value}
use Rattle.layer_units.proofs.pins.pin_of.Goals as goal

pub returns-then-is_on_lane : goal.returns-then-is_on_lane
returns-then-is_on_lane c =
    near_read c.args.end.lane c.requires.near.lane
    ∙ sym (pin_on c.args.fitting.now.level.now.spacing c.args.fitting.now.table.now c.args.end c.args.enters (sym c.is_on_lane.ensures ∙ c.if-is_on_lane.true))

pub overflow_sub-result : goal.overflow_sub-result
overflow_sub-result c =
    let y = subst (λ (v : ChildAt). IsIn v.outline.y) (sym c.entry_at-child.ensures) (c.requires.fitting.numbers.children c.args.end.dock.node c.requires.dock).y in
    pin_sub c.room.result c.entry_at-child.result.now.outline.y c.room.ensures.small y

pub overflow_add-result : goal.overflow_add-result
overflow_add-result c =
    let y = subst (λ (v : ChildAt). IsIn v.outline.y) (sym c.entry_at-child.ensures) (c.requires.fitting.numbers.children c.args.end.dock.node c.requires.dock).y in
    pin_add c.room.result c.entry_at-child.result.now.outline.y c.args.end.anchor.y c.room.ensures.small y c.requires.near.anchor.y

pub returns : goal.returns
returns c =
    let y = subst (λ (v : ChildAt). IsIn v.outline.y) (sym c.entry_at-child.ensures) (c.requires.fitting.numbers.children c.args.end.dock.node c.requires.dock).y in
    pin_value c.room.result c.entry_at-child.result.now.outline.y c.args.end.anchor.y c.room.ensures.small y c.requires.near.anchor.y
    ∙ ap (λ z. (z -ℤ c.entry_at-child.result.now.outline.y) +ℤ c.args.end.anchor.y) c.room.ensures.value
    ∙ ap (λ (v : ChildAt). anchor_below c.args.fitting.now.level.now.spacing v c.args.end) c.entry_at-child.ensures
    ∙ sym (pin_off c.args.fitting.now.level.now.spacing c.args.fitting.now.table.now c.args.end c.args.enters (sym c.is_on_lane.ensures ∙ c.if-is_on_lane.false))
