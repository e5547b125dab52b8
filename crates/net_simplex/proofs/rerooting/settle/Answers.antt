use Rattle.std.proofs.Common.{length, arith, subst}
use Rattle.net_simplex.specs.Rerooting.{AreDistinct}
use Rattle.net_simplex.proofs.Filling.{settle_down, settle_up}
use Rattle.net_simplex.proofs.rerooting.settle.Goals as goal

pub returns-then-start-after : goal.returns-then-start-after
returns-then-start-after c =
    let n = length c.args.order.now in
    let k = c.requires.nodes in
    let a = subst (λ m. AreDistinct m c.args.order.now k.0) c.requires.place k.1 in
    let less = c.if-start-after.true in
    let o = c.requires.aside in
    settle_down n c.args.order.now k.0 c.args.next.now c.args.place.now a (omega arith) c.requires.place c.args.start c.args.many c.args.after c.requires.block c.requires.after c.requires.others c.plant_all.new.next c.plant_all.new.place c.copy_range.new.to c.copy_range.auto.to less (omega (arith, less, o)) c.plant_all.ensures c.copy_range.ensures.copied c.copy_range.ensures.others

pub returns : goal.returns
returns c =
    let n = length c.args.order.now in
    let k = c.requires.nodes in
    let a = subst (λ m. AreDistinct m c.args.order.now k.0) c.requires.place k.1 in
    settle_up n c.args.order.now k.0 c.args.next.now c.args.place.now a (omega arith) c.requires.place c.args.start c.args.many c.args.after c.requires.block c.requires.after c.requires.others c.plant_all-2.new.next c.plant_all-2.new.place c.copy_range-2.new.to c.copy_range-2.auto.to c.if-start-after.false c.plant_all-2.ensures c.copy_range-2.ensures.copied c.copy_range-2.ensures.others
