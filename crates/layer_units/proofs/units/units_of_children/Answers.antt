use Rattle.std.proofs.Common.{◌∙◌, [], sym}
use Rattle.layer_units.specs.Layering.{layer_in}
use Rattle.layer_units.specs.Numbered.{child_unit}
use Rattle.layer_units.proofs.GrownLemmas.{grown_none, grown_push}
use Rattle.layer_units.proofs.units.units_of_children.Goals as goal

pub loop-child-init : goal.loop-child-init
loop-child-init c = c.in_ok-units.ensures.items ∙ sym (grown_none (λ k. child_unit (layer_in c.args.layers.now k) k) [])

pub loop-child-preserved : goal.loop-child-preserved
loop-child-preserved c =
    grown_push (λ k. child_unit (layer_in c.args.layers.now k) k) [] c.loop-child.units.items c.push.new.self.items c.loop-child.child c.flat_unit.result c.loop-child.invariant c.flat_unit.ensures c.in_ok-push.ensures.items
