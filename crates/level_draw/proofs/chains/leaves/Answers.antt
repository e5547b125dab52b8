use Rattle.std.proofs.Common.{◌∙◌, ap}
use Rattle.std.specs.Prelude.{is_some}
use Rattle.elk_layers.specs.declared.units.Unit.{Unit as LayerUnit}
use Rattle.elk_layers.specs.declared.units.Link.{Link}
use Rattle.elk_layers.specs.Layered.{is_child}
use Rattle.level_nets.specs.Reach.{parts_in}
use Rattle.level_draw.specs.Chains.{leaves_child}
use Rattle.level_draw.proofs.chains.leaves.Goals as goal

pub returns : goal.returns
unfolding leaves_child
returns c = c.is_some.ensures ∙ ap (λ (u : LayerUnit). is_some u.child) c.unit_at.ensures ∙ ap (λ (l : Link). is_child (parts_in c.args.sheet.now).layered l.tail) c.link_at.ensures
