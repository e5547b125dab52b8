use Rattle.std.proofs.Common.{◌≡◌, length, arith, subst, refl}
use Rattle.network_laws.specs.Layering.{PartsBeginAtZero}
use Rattle.flow_dual.proofs.Starting.{first_between}
use Rattle.flow_dual.proofs.Finishing.{done}
use Rattle.flow_dual.proofs.solving.run.Goals as goal

pub returns : goal.returns
returns c =
    let n : length c.drain_all.new.layer ≡ length c.args.layer.now = omega arith in
    let m : length c.begin_at_zero.new.layers ≡ length c.args.layer.now = omega arith in
    done (length c.args.layer.now) c.args.edges.now c.drain_all.new.layer c.drain_all.new.flow c.drain_all.new.excess c.drain_all.new.marks.reached.items c.drain_all.new.marks.labels.items c.drain_all.new.marks.dist.items c.begin_at_zero.new.layers c.requires.network.ends c.in_ok-drain_all.ensures m c.in_ok-begin_at_zero.ensures.rises (subst (λ x. PartsBeginAtZero x c.args.edges.now c.begin_at_zero.new.layers) n c.in_ok-begin_at_zero.ensures.from_zero)

pub drain_all-requires-clause-between : goal.drain_all-requires-clause-between
drain_all-requires-clause-between c =
    first_between (length c.args.layer.now) c.args.edges.now c.args.layer.now c.begin.new.flow c.begin.new.excess c.args.marks.now.reached.items c.args.marks.now.labels.items c.args.marks.now.dist.items c.requires.network refl c.requires.layering c.requires.from_zero c.requires.low c.begin.ensures c.requires.cleared c.requires.dist
