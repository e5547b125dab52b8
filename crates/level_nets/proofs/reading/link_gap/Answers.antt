use Rattle.std.proofs.Common.{◌∙◌, ap}
use Rattle.elk_layers.specs.declared.units.Unit.{Unit as LayerUnit}
use Rattle.elk_layers.specs.declared.units.Link.{Link}
use Rattle.elk_layers.specs.Layered.{unit_at}
use Rattle.level_nets.specs.Read.{gap_named}
use Rattle.level_nets.specs.Reach.{parts_in}
use Rattle.level_nets.proofs.reading.link_gap.Goals as goal

pub returns-clause-value : goal.returns-clause-value
unfolding gap_named
returns-clause-value c =
    let s = parts_in c.args.sheet.now in
    ap (λ (u : LayerUnit). u.layer) c.unit_at.ensures ∙ ap (λ (l : Link). (unit_at s.layered.units l.head).layer) c.link_at.ensures
