use Rattle.std.proofs.Common.{◌≡◌, ◌∙◌, ◌<◌, ◌+◌, ◌-◌, length, FitsSigned, w64, to_z, of_z, subst, ap, arith, rules}
use Rattle.std.proofs.lemmas.Int.{to_z-of_z}
use Rattle.elk_layers.specs.declared.units.Unit.{Unit as LayerUnit}
use Rattle.elk_layers.specs.Layered.{layer_of, unit_at}
use Rattle.level_model.specs.declared.table.ChildAt.{ChildAt}
use Rattle.level_model.specs.Table.{child_in}
use Rattle.level_nets.specs.Reach.{parts_in}
use Rattle.level_nets.specs.Placed.{AreWidest}
use Rattle.level_nets.proofs.BorderLemmas.{widest_more, widest_all}
use Rattle.level_nets.proofs.borders.widen_all.Goals as goal

pub children-preserved : goal.children-preserved
children-preserved c =
    let s = parts_in c.args.sheet.now in
    let n = length s.level.children in
    let less : c.children.done < length s.level.children = omega arith in
    let same : c.len-count.result - 1 - c.children.done ≡ length s.level.children - (c.children.done + 1) = omega (arith, less) in
    let child : c.child_at-child.result.now ≡ child_in s.table.children (length s.level.children - (c.children.done + 1)) = c.child_at-child.ensures ∙ ap (child_in s.table.children) same in
    let layer : c.unit_at-layer.result.layer ≡ layer_of s.layered (child_in s.table.children (length s.level.children - (c.children.done + 1))).unit =
    ap (λ (u : LayerUnit). u.layer) c.unit_at-layer.ensures ∙ ap (λ (k : ChildAt). (unit_at s.layered.units k.unit).layer) child in
    let fits : FitsSigned w64 c.child_at-child.result.now.outline.width = search rules in
    let width : to_z w64 (of_z w64 c.child_at-child.result.now.outline.width) ≡ (child_in s.table.children (length s.level.children - (c.children.done + 1))).outline.width =
    to_z-of_z w64 c.child_at-child.result.now.outline.width fits ∙ ap (λ (k : ChildAt). k.outline.width) child in
    let inside : c.unit_at-layer.result.layer < length c.children.widths = omega (arith) in
    record {
      as_many = let long = c.children.invariant.as_many in let kept = c.widen.auto.widths in omega (arith, long, kept);
      widest = widest_more s c.children.done c.children.widths c.widen.new.widths c.unit_at-layer.result.layer (to_z w64 (of_z w64 c.child_at-child.result.now.outline.width)) less inside layer width c.widen.ensures c.children.invariant.widest;
    }

pub returns : goal.returns
returns c =
    let s = parts_in c.args.sheet.now in
    let long = c.children.invariant.as_many in
    let done : c.children.done ≡ length s.level.children = omega arith in
    widest_all s c.children.widths long (subst (λ n. AreWidest s n c.children.widths) done c.children.invariant.widest)
