use Rattle.std.proofs.Common.{◌∙◌, arith, sym, subst, ap}
use Rattle.std.proofs.lemmas.Int.{ints}
use Rattle.drawing_types.proofs.SameShapes.{same_point}
use Rattle.elk_layers.specs.declared.units.Unit.{Unit as LayerUnit}
use Rattle.elk_layers.specs.Layered.{unit_at, layer_of}
use Rattle.elk_layers.specs.Lines.{top_of}
use Rattle.route_lines.specs.Points.{gap_in}
use Rattle.level_model.specs.declared.table.ChildAt.{ChildAt}
use Rattle.level_nets.specs.Held.{plain_gaps}
use Rattle.level_nets.specs.Reach.{parts_in}
use Rattle.level_draw.specs.Reach.{IsBoxPoint}
use Rattle.level_draw.proofs.RangeLemmas.{box_numbers, box_in}
use Rattle.level_draw.proofs.places.box_at.Goals as goal

pub overflow_sub-result : goal.overflow_sub-result
overflow_sub-result c =
    let s = parts_in c.args.sheet.now in
    let f = box_numbers s c.args.gaps.now c.args.child c.requires.sheet.sound c.requires.sheet.reach c.requires.numbers c.requires.linked c.requires.gaps c.requires.count c.requires.child in
    let right = f.right in
    let right_low = right.0 in
    let right_high = right.1 in
    let out_x = f.x in
    let x_low = out_x.above in
    let x_high = out_x.below in
    let x = ap (λ (k : ChildAt). k.outline.x) c.child_at-found.ensures in
    let border = c.right_of.ensures.value ∙ ap (λ (u : LayerUnit). (gap_in (plain_gaps c.args.gaps.now) u.layer).right) c.unit_at-unit.ensures
    ∙ ap (λ (k : ChildAt). (gap_in (plain_gaps c.args.gaps.now) (layer_of s.layered k.unit)).right) c.child_at-found.ensures in
    omega (arith, ints, right_low, right_high, x_low, x_high, x, border)

pub overflow_sub-result-2 : goal.overflow_sub-result-2
overflow_sub-result-2 c =
    let s = parts_in c.args.sheet.now in
    let f = box_numbers s c.args.gaps.now c.args.child c.requires.sheet.sound c.requires.sheet.reach c.requires.numbers c.requires.linked c.requires.gaps c.requires.count c.requires.child in
    let body_low = f.body.0 in
    let body_high = f.body.1 in
    let out_y = f.y in
    let y_low = out_y.above in
    let y_high = out_y.below in
    let y = ap (λ (k : ChildAt). k.outline.y) c.child_at-found.ensures in
    let unit = ap (λ (u : LayerUnit). u.body_top) c.unit_at-unit.ensures ∙ ap (λ (k : ChildAt). (unit_at s.layered.units k.unit).body_top) c.child_at-found.ensures in
    omega (arith, ints, body_low, body_high, y_low, y_high, y, unit)

pub overflow_add-result : goal.overflow_add-result
overflow_add-result c =
    let s = parts_in c.args.sheet.now in
    let f = box_numbers s c.args.gaps.now c.args.child c.requires.sheet.sound c.requires.sheet.reach c.requires.numbers c.requires.linked c.requires.gaps c.requires.count c.requires.child in
    let body_low = f.body.0 in
    let body_high = f.body.1 in
    let out_y = f.y in
    let y_low = out_y.above in
    let y_high = out_y.below in
    let y = ap (λ (k : ChildAt). k.outline.y) c.child_at-found.ensures in
    let unit = ap (λ (u : LayerUnit). u.body_top) c.unit_at-unit.ensures ∙ ap (λ (k : ChildAt). (unit_at s.layered.units k.unit).body_top) c.child_at-found.ensures in
    let top_low = f.top.0 in
    let top_high = f.top.1 in
    let top = c.top_of.ensures ∙ ap (λ (k : ChildAt). top_of s.tops k.unit) c.child_at-found.ensures in
    omega (arith, ints, body_low, body_high, y_low, y_high, y, unit, top_low, top_high, top)

pub returns-clause-value : goal.returns-clause-value
returns-clause-value c =
    let s = parts_in c.args.sheet.now in
    let f = box_numbers s c.args.gaps.now c.args.child c.requires.sheet.sound c.requires.sheet.reach c.requires.numbers c.requires.linked c.requires.gaps c.requires.count c.requires.child in
    let right = f.right in
    let right_low = right.0 in
    let right_high = right.1 in
    let out_x = f.x in
    let x_low = out_x.above in
    let x_high = out_x.below in
    let x = ap (λ (k : ChildAt). k.outline.x) c.child_at-found.ensures in
    let border = c.right_of.ensures.value ∙ ap (λ (u : LayerUnit). (gap_in (plain_gaps c.args.gaps.now) u.layer).right) c.unit_at-unit.ensures
    ∙ ap (λ (k : ChildAt). (gap_in (plain_gaps c.args.gaps.now) (layer_of s.layered k.unit)).right) c.child_at-found.ensures in
    let body_low = f.body.0 in
    let body_high = f.body.1 in
    let out_y = f.y in
    let y_low = out_y.above in
    let y_high = out_y.below in
    let y = ap (λ (k : ChildAt). k.outline.y) c.child_at-found.ensures in
    let unit = ap (λ (u : LayerUnit). u.body_top) c.unit_at-unit.ensures ∙ ap (λ (k : ChildAt). (unit_at s.layered.units k.unit).body_top) c.child_at-found.ensures in
    let top_low = f.top.0 in
    let top_high = f.top.1 in
    let top = c.top_of.ensures ∙ ap (λ (k : ChildAt). top_of s.tops k.unit) c.child_at-found.ensures in
    same_point _ _ (omega (arith, ints, right_low, right_high, x_low, x_high, x, border)) (omega (arith, ints, body_low, body_high, y_low, y_high, y, unit, top_low, top_high, top))

pub returns-clause-near : goal.returns-clause-near
returns-clause-near c =
    let s = parts_in c.args.sheet.now in
    let f = box_numbers s c.args.gaps.now c.args.child c.requires.sheet.sound c.requires.sheet.reach c.requires.numbers c.requires.linked c.requires.gaps c.requires.count c.requires.child in
    subst IsBoxPoint (sym (returns-clause-value c)) (box_in s c.args.gaps.now c.args.child f)
