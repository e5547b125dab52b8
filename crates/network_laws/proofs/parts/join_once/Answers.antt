use Rattle.std.proofs.Common.{◌+◌, sym, subst}
use Rattle.network_laws.specs.Joining.{ArePassed}
use Rattle.network_laws.proofs.Naming.{join_start, join_more}
use Rattle.network_laws.proofs.parts.join_once.Goals as goal

pub loop-k-init : goal.loop-k-init
loop-k-init c = join_start c.args.edges.now c.args.names.now c.requires.names

pub loop-k-preserved : goal.loop-k-preserved
loop-k-preserved c =
    subst (λ x. ArePassed c.args.edges.now (c.loop-k.k + 1) c.args.names.now c.join_edge-now.new.names x) (sym c.either-changed.ensures)
    (join_more c.args.edges.now c.loop-k.k c.args.names.now c.loop-k.names c.join_edge-now.new.names c.loop-k.changed c.join_edge-now.result c.loop-k.invariant c.loop-k.invariant.names.name_for_each c.join_edge-now.ensures)
