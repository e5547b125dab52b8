use Rattle.std.proofs.Common.{◌≡◌, ◌+◌, ◌-◌, ◌∙◌, rules, FitsSigned, w64, to_z, of_z, length, arith, ap, sym, subst}
use Rattle.std.proofs.lemmas.Int.{to_z-of_z}
use Rattle.net_simplex.specs.Pivots.{grown, seed}
use Rattle.net_simplex.specs.Grown.{growing_of, Grows}
use Rattle.net_simplex.proofs.FirstTree.{made_grown, made_seed, grown_step, grown_kept, grown_stands}
use Rattle.net_simplex.proofs.Writing.{written}
use Rattle.net_simplex.proofs.growing.grow_from.Goals as goal

pub loop-i-init : goal.loop-i-init
loop-i-init c =
    let n = length c.args.layers.now in
    let edges = c.args.edges.now in
    let start = c.args.layers.now in
    let t = c.args.tree.now in
    let bare = c.requires.bare in
    let z = c.number_at-by.result in
    let fz : FitsSigned w64 z = search rules in
    let by_is = to_z-of_z w64 z fz ∙ c.number_at-by.ensures in
    let order = written t.order c.plant.new.order (omega arith) in
    let place = written t.place c.plant.new.place (omega arith) in
    let order_is = rw c.deref_mut.ensures.value at c.plant.ensures.order in
    let place_is = rw c.deref_mut-2.ensures.value at c.plant.ensures.place in
    rw (order, place) (
      made_grown n edges c.requires.network c.requires.some start c.requires.greatest c.requires.layering t.order.items t.place.items t.parent.items bare.order_each bare.place_each bare.parent_each t.marks.items c.args.reached.now (to_z w64 (of_z w64 z)) c.put.new.numbers c.plant.new.order c.plant.new.place bare.none_marked c.requires.none_reached by_is c.put.ensures order_is place_is,
      ap (grown edges (n - 1)) (made_seed n edges c.requires.network c.requires.some start c.requires.greatest c.requires.layering t.order.items t.place.items t.parent.items bare.order_each bare.place_each bare.parent_each t.marks.items c.args.reached.now (to_z w64 (of_z w64 z)) c.put.new.numbers c.plant.new.order c.plant.new.place bare.none_marked c.requires.none_reached by_is c.put.ensures order_is place_is),
      c.in_ok-add_both.ensures,
    )

pub loop-i-preserved : goal.loop-i-preserved
loop-i-preserved c =
    let n = length c.args.layers.now in
    let edges = c.args.edges.now in
    let i = c.loop-i.i in
    let z = c.in_ok-by.by in
    let fz : FitsSigned w64 z = search rules in
    let s = c.loop-i.invariant.0 in
    let e = s.layer_each in
    let g = c.in_ok-by.ensures.grown in
    let o = c.in_ok-by.ensures.once in
    let a = c.put.auto.numbers in
    let t = c.loop-i-test.true in
    let was = growing_of c.loop-i.tree.marks.items c.loop-i.reached (to_z w64 c.loop-i.by-bits) c.loop-i.layers in (
      subst (λ b. Grows n edges (i + 1) c.grow_once.new.tree c.grow_once.new.reached b c.grow_once.new.layers) (sym (to_z-of_z w64 z fz))
          (subst (λ m. Grows m edges (i + 1) c.grow_once.new.tree c.grow_once.new.reached z c.grow_once.new.layers) e g),
      grown_step n i edges was (growing_of c.grow_once.new.tree.marks.items c.grow_once.new.reached (to_z w64 (of_z w64 z)) c.grow_once.new.layers) (grown edges (n - 1) (seed n edges c.args.layers.now)) (omega (arith, t, a))
          (ap (λ b. growing_of c.grow_once.new.tree.marks.items c.grow_once.new.reached b c.grow_once.new.layers) (to_z-of_z w64 z fz) ∙ o) c.loop-i.invariant.1,
      c.in_ok-by.ensures.queues,
    )

pub grow_once-requires : goal.grow_once-requires
grow_once-requires c =
    let s = c.loop-i.invariant.0 in
    let a = c.put.auto.numbers in
    let t = c.loop-i-test.true in
    rw s.layer_each
    (record {
      network = c.requires.network;
      connected = c.requires.connected;
      links = c.requires.links;
      room = omega (arith, t, a);
      grown = s;
      queues = c.loop-i.invariant.2;
    })

pub returns-clause-kept : goal.returns-clause-kept
returns-clause-kept c =
    let a = c.put.auto.numbers in
    let t = c.loop-i-test.false in
    grown_kept (length c.args.layers.now) c.args.edges.now c.requires.network c.loop-i.i c.loop-i.tree.marks.items c.loop-i.reached (to_z w64 c.loop-i.by-bits) c.loop-i.layers c.loop-i.tree.order.items c.loop-i.tree.place.items c.loop-i.tree.parent.items c.loop-i.invariant.0 (omega (arith, t, a))

pub returns-clause-first : goal.returns-clause-first
returns-clause-first c =
    let n = length c.args.layers.now in
    let edges = c.args.edges.now in
    let a = c.put.auto.numbers in
    let t = c.loop-i-test.false in
    let b = c.loop-i.auto.i-end in
    let some = c.requires.some in
    let zero : n - c.loop-i.i ≡ 0 = omega (arith, t, a) in
    let is = sym (ap (λ m. grown edges m (growing_of c.loop-i.tree.marks.items c.loop-i.reached (to_z w64 c.loop-i.by-bits) c.loop-i.layers)) zero) ∙ c.loop-i.invariant.1 in
    grown_stands n edges c.requires.network c.loop-i.i c.loop-i.tree.marks.items c.loop-i.reached (to_z w64 c.loop-i.by-bits) c.loop-i.layers c.loop-i.tree.order.items c.loop-i.tree.place.items c.loop-i.tree.parent.items c.loop-i.invariant.0 (omega (arith, t, a)) c.args.layers.now is
