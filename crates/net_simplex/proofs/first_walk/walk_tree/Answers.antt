use Rattle.std.proofs.Common.{length, arith, refl, ap}
use Rattle.net_simplex.proofs.Placing.{all_there, first_walk, first_rooted}
use Rattle.net_simplex.proofs.Writing.{written}
use Rattle.net_simplex.proofs.first_walk.walk_tree.Goals as goal

pub order_all-requires : goal.order_all-requires
order_all-requires c =
    let t = c.args.tree.now in
    let size = written c.in_ok-size.size c.sum_sizes.new.size (omega arith) in
    let place = written t.place c.place_all.new.place (omega arith) in
    let p = rw (c.deref-2.ensures.value, c.deref-3.ensures.value, c.deref-4.ensures.value, size) at c.place_all.ensures in
    let e = p.place_each in
    let few = c.requires.few in
    let there = all_there (length t.order.items) c.args.edges.now t.marks.items t.order.items t.place.items t.parent.items c.requires.rooted c.requires.ends c.sum_sizes.new.size c.sum_sizes.ensures c.place_all.new.place p in
    rw (c.deref-5.ensures.value, c.deref_mut-4.ensures.value, place)
    (record {
      same = e;
      there = λ v l. there v (omega (arith, l, e));
      apart = λ u v lu lv same. p.apart u v (omega (arith, lu, e)) (omega (arith, lv, e)) same;
      few = omega (arith, e, few);
    })

pub returns : goal.returns
returns c =
    let t = c.args.tree.now in
    let n = length t.order.items in
    let size = written c.in_ok-size.size c.sum_sizes.new.size (omega arith) in
    let place = written t.place c.place_all.new.place (omega arith) in
    let next = written c.in_ok-next.next c.place_all.new.next (omega arith) in
    let order = written t.order c.order_all.new.order (omega arith) in
    let p = rw (c.deref-2.ensures.value, c.deref-3.ensures.value, c.deref-4.ensures.value, size) at c.place_all.ensures in
    let e = p.place_each in
    let told = rw (c.deref-5.ensures.value, place) at c.order_all.ensures in
    let made = c.in_ok-next.ensures.len in
    let passed = ap length c.deref_mut-3.ensures.value in
    rw (size, place, next, order)
    (record {
      marks = refl;
      rooted = first_rooted n c.args.edges.now t.marks.items t.order.items t.place.items t.parent.items c.requires.rooted c.requires.ends c.sum_sizes.new.size c.sum_sizes.ensures c.place_all.new.place p c.order_all.new.order (omega arith) (λ v l. told v (omega (arith, l, e)));
      walk = (first_walk n c.args.edges.now t.marks.items t.order.items t.place.items t.parent.items c.requires.rooted c.requires.ends c.sum_sizes.new.size c.sum_sizes.ensures c.place_all.new.place p c.order_all.new.order (omega arith) (λ v l. told v (omega (arith, l, e))), omega (arith, made, passed));
    })
