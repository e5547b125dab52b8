use Rattle.std.proofs.Common.{◌∙◌, ap, arith}
use Rattle.std.proofs.lemmas.Int.{ints}
use Rattle.elk_layers.specs.declared.units.Unit.{Unit as LayerUnit}
use Rattle.elk_layers.specs.Layered.{unit_at}
use Rattle.level_model.specs.declared.table.ChildAt.{ChildAt}
use Rattle.level_nets.specs.Reach.{parts_in}
use Rattle.level_nets.proofs.reading.anchor_below.Goals as goal

pub overflow_sub-result : goal.overflow_sub-result
overflow_sub-result c =
    let within = c.requires.dock.anchor c.requires.beside in
    let low = within.above in
    let high = within.below in
    let y = ap (λ (k : ChildAt). k.outline.y) c.child_at-child.ensures in
    omega (arith, ints, low, high, y)

pub overflow_add-result : goal.overflow_add-result
overflow_add-result c =
    let s = parts_in c.args.sheet.now in
    let within = c.requires.dock.anchor c.requires.beside in
    let low = within.above in
    let high = within.below in
    let y = ap (λ (k : ChildAt). k.outline.y) c.child_at-child.ensures in
    let unit = ap (λ (u : LayerUnit). u.body_top) c.unit_at.ensures ∙ ap (λ (k : ChildAt). (unit_at s.layered.units k.unit).body_top) c.child_at-child.ensures in
    let from = c.requires.dock.body.0 in
    let to = c.requires.dock.body.1 in
    omega (arith, ints, low, high, y, unit, from, to)

pub returns-clause-value : goal.returns-clause-value
returns-clause-value c =
    let s = parts_in c.args.sheet.now in
    let within = c.requires.dock.anchor c.requires.beside in
    let low = within.above in
    let high = within.below in
    let y = ap (λ (k : ChildAt). k.outline.y) c.child_at-child.ensures in
    let unit = ap (λ (u : LayerUnit). u.body_top) c.unit_at.ensures ∙ ap (λ (k : ChildAt). (unit_at s.layered.units k.unit).body_top) c.child_at-child.ensures in
    let from = c.requires.dock.body.0 in
    let to = c.requires.dock.body.1 in
    omega (arith, ints, low, high, y, unit, from, to)

pub returns-clause-below : goal.returns-clause-below
returns-clause-below c =
    let s = parts_in c.args.sheet.now in
    let within = c.requires.dock.anchor c.requires.beside in
    let low = within.above in
    let high = within.below in
    let y = ap (λ (k : ChildAt). k.outline.y) c.child_at-child.ensures in
    let unit = ap (λ (u : LayerUnit). u.body_top) c.unit_at.ensures ∙ ap (λ (k : ChildAt). (unit_at s.layered.units k.unit).body_top) c.child_at-child.ensures in
    let from = c.requires.dock.body.0 in
    let to = c.requires.dock.body.1 in
    record { above = omega (arith, ints, low, high, y, unit, from, to); below = omega (arith, ints, low, high, y, unit, from, to) }
