use Rattle.std.proofs.Common.{sym}
use Rattle.layer_units.specs.Numbered.{link_on}
use Rattle.layer_units.proofs.GrownLemmas.{grown_none, grown_push}
use Rattle.layer_units.proofs.units.push_links.Goals as goal

pub loop-gap-init : goal.loop-gap-init
loop-gap-init c = sym (grown_none (link_on c.args.run) c.args.links.now.items)

pub loop-gap-preserved : goal.loop-gap-preserved
loop-gap-preserved c =
    grown_push (link_on c.args.run) c.args.links.now.items c.loop-gap.links.items c.push.new.self.items c.loop-gap.gap c.link_in.result c.loop-gap.invariant c.link_in.ensures c.in_ok-push.ensures.items
