use Rattle.std.proofs.Common.{◌+◌, ◌-◌, length, get_or, set, arith, sym, subst, refl}
use Rattle.net_simplex.specs.Rerooting.{Plants}
use Rattle.net_simplex.proofs.Filling.{plants_none, plants_more}
use Rattle.net_simplex.proofs.rerooting.plant_all.Goals as goal

pub loop-i-init : goal.loop-i-init
loop-i-init c = let k = c.requires.nodes in plants_none (length c.args.place.now) c.args.order.now k.0 k.1 c.args.low c.args.at c.args.next.now c.args.place.now refl

pub loop-i-preserved : goal.loop-i-preserved
loop-i-preserved c =
    let k = c.requires.nodes in
    let i = c.loop-i.i in
    let t = c.loop-i-test.true in
    let a = c.requires.there in
    let b = c.requires.room in
    let f = c.loop-i.auto.i in
    let v = get_or c.args.order.now i 0 in
    let to = c.args.at + (i - c.args.low) in
    subst (λ n. Plants c.args.order.now c.args.low (i + 1) c.args.at c.args.next.now c.args.place.now n c.plant.new.place) (sym c.plant.ensures.order)
    (subst (λ p. Plants c.args.order.now c.args.low (i + 1) c.args.at c.args.next.now c.args.place.now (set c.loop-i.next to v) p) (sym c.plant.ensures.place)
    (plants_more (length c.args.place.now) c.args.order.now k.0 k.1 c.args.low c.args.at c.args.next.now c.args.place.now refl i f (omega (arith, t, a)) c.loop-i.next c.loop-i.place c.loop-i.invariant (omega (arith, t, b, f))))
