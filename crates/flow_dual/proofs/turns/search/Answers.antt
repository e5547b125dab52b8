use Rattle.std.proofs.Common.{set, length, arith, refl, sym, subst}
use Rattle.std.proofs.lemmas.Int.{ints}
use Rattle.flow_dual.specs.Queue.{waiting}
use Rattle.flow_dual.specs.Searching.{IsSearched}
use Rattle.flow_dual.proofs.Nearing.{some_step, all_there, near_low, new_node, mark_each, found, turned, search_begun, tells_lack, tells_enough, tells_surplus}
use Rattle.flow_dual.proofs.turns.search.Goals as goal

pub offer_both-requires-clause-low : goal.offer_both-requires-clause-low
offer_both-requires-clause-low c = let z = c.no_steps-steps.ensures.now in let f = c.requires.round.from_zero c.args.source c.requires.source in omega (arith, ints, z, f)

pub turns-init : goal.turns-init
turns-init c = (
  c.in_ok-offer_both.ensures.order,
  search_begun (length c.args.layer.now) c.args.net.now.edges.now c.args.layer.now c.args.flow.now c.args.source c.surplus_of.result c.args.marks.now.reached.items c.begin.new.marks.reached.items c.args.marks.now.labels.items c.begin.new.marks.labels.items c.args.marks.now.dist.items c.begin.new.marks.dist.items c.requires.round c.requires.source c.surplus_of.ensures.some (tells_surplus (length c.args.layer.now) c.args.net.now.edges.now c.args.flow.now c.args.excess.now c.args.source c.requires.tells c.requires.source c.requires.more) c.requires.cleared c.requires.dist c.in_ok-begin.ensures.begins c.begin.new.marks.order.items (waiting c.no_steps-steps.result) (waiting c.offer_both.new.steps) c.no_steps-steps.result.now c.offer_both.new.steps.now c.in_ok-begin.ensures.order c.no_steps-steps.ensures.none c.no_steps-steps.ensures.now c.in_ok-offer_both.ensures.now c.in_ok-offer_both.ensures.offers,
)

pub next_step-requires : goal.next_step-requires
next_step-requires c =
    record {
      ends = λ k l. let b = c.requires.ends k l in let x = b.0 in let y = b.1 in let q = c.turns.invariant.1.within.mark_for_each in (omega (arith, x, q), omega (arith, y, q));
      in_range = all_there (length c.args.layer.now) c.args.net.now.edges.now c.args.layer.now c.args.flow.now c.args.source c.turns.turn c.turns.steps.now c.turns.marks.reached.items c.turns.marks.labels.items c.turns.marks.dist.items c.turns.marks.order.items (waiting c.turns.steps) c.requires.ends refl c.requires.round.layering c.turns.invariant.1;
      order = c.turns.invariant.0;
    }

pub turns-preserved : goal.turns-preserved
turns-preserved c = (c.in_ok-offer_both-2.ensures.order, turned (length c.args.layer.now) c.args.net.now.edges.now c.args.layer.now c.args.flow.now c.args.source c.turns.turn c.turns.steps.now c.turns.marks.reached.items c.turns.marks.labels.items c.turns.marks.dist.items c.turns.marks.order.items (waiting c.turns.steps) c.requires.ends refl c.requires.round.layering c.turns.invariant.1 c.in-Some.step (waiting c.next_step.new.steps) c.in-Some.ensures.some c.in_ok-v.v c.take_step.new.marks.reached.items c.take_step.new.marks.labels.items c.in_ok-v.ensures.reaches (tells_enough (length c.args.layer.now) c.args.net.now.edges.now c.args.flow.now c.args.excess.now c.in_ok-v.v c.requires.tells (new_node (length c.args.layer.now) c.args.net.now.edges.now c.args.layer.now c.args.flow.now c.args.source c.turns.turn c.turns.steps.now c.turns.marks.reached.items c.turns.marks.labels.items c.turns.marks.dist.items c.turns.marks.order.items (waiting c.turns.steps) c.requires.ends refl c.requires.round.layering c.turns.invariant.1 c.in-Some.step (waiting c.next_step.new.steps) c.in-Some.ensures.some c.in_ok-v.v c.take_step.new.marks.reached.items c.take_step.new.marks.labels.items c.in_ok-v.ensures.reaches).0 (let t = c.if-excess-v-lt0.false in omega (arith, ints, t))) c.next_step.new.steps.now c.offer_both-in-Some.new.steps.now c.take_step.new.marks.dist.items c.take_step.new.marks.order.items (waiting c.offer_both-in-Some.new.steps) c.in-Some.ensures.now c.in_ok-offer_both-2.ensures.now c.in_ok-v.ensures.dist c.in_ok-v.ensures.order c.in_ok-offer_both-2.ensures.offers)

pub turns-smaller : goal.turns-smaller
turns-smaller c =
    let m = turned (length c.args.layer.now) c.args.net.now.edges.now c.args.layer.now c.args.flow.now c.args.source c.turns.turn c.turns.steps.now c.turns.marks.reached.items c.turns.marks.labels.items c.turns.marks.dist.items c.turns.marks.order.items (waiting c.turns.steps) c.requires.ends refl c.requires.round.layering c.turns.invariant.1 c.in-Some.step (waiting c.next_step.new.steps) c.in-Some.ensures.some c.in_ok-v.v c.take_step.new.marks.reached.items c.take_step.new.marks.labels.items c.in_ok-v.ensures.reaches (tells_enough (length c.args.layer.now) c.args.net.now.edges.now c.args.flow.now c.args.excess.now c.in_ok-v.v c.requires.tells (new_node (length c.args.layer.now) c.args.net.now.edges.now c.args.layer.now c.args.flow.now c.args.source c.turns.turn c.turns.steps.now c.turns.marks.reached.items c.turns.marks.labels.items c.turns.marks.dist.items c.turns.marks.order.items (waiting c.turns.steps) c.requires.ends refl c.requires.round.layering c.turns.invariant.1 c.in-Some.step (waiting c.next_step.new.steps) c.in-Some.ensures.some c.in_ok-v.v c.take_step.new.marks.reached.items c.take_step.new.marks.labels.items c.in_ok-v.ensures.reaches).0 (let t = c.if-excess-v-lt0.false in omega (arith, ints, t))) c.next_step.new.steps.now c.offer_both-in-Some.new.steps.now c.take_step.new.marks.dist.items c.take_step.new.marks.order.items (waiting c.offer_both-in-Some.new.steps) c.in-Some.ensures.now c.in_ok-offer_both-2.ensures.now c.in_ok-v.ensures.dist c.in_ok-v.ensures.order c.in_ok-offer_both-2.ensures.offers in
    let a = m.within.count in
    let b = c.turns.invariant.1.within.count in
    omega (arith, a, b)

pub bounds-excess-v : goal.bounds-excess-v
bounds-excess-v c = let l = (new_node (length c.args.layer.now) c.args.net.now.edges.now c.args.layer.now c.args.flow.now c.args.source c.turns.turn c.turns.steps.now c.turns.marks.reached.items c.turns.marks.labels.items c.turns.marks.dist.items c.turns.marks.order.items (waiting c.turns.steps) c.requires.ends refl c.requires.round.layering c.turns.invariant.1 c.in-Some.step (waiting c.next_step.new.steps) c.in-Some.ensures.some c.in_ok-v.v c.take_step.new.marks.reached.items c.take_step.new.marks.labels.items c.in_ok-v.ensures.reaches).0 in let n = c.requires.excess in omega (arith, l, n)

pub returns-then-excess-v-lt0 : goal.returns-then-excess-v-lt0
returns-then-excess-v-lt0 c =
    let lacks = tells_lack (length c.args.layer.now) c.args.net.now.edges.now c.args.flow.now c.args.excess.now c.in_ok-v.v c.requires.tells (new_node (length c.args.layer.now) c.args.net.now.edges.now c.args.layer.now c.args.flow.now c.args.source c.turns.turn c.turns.steps.now c.turns.marks.reached.items c.turns.marks.labels.items c.turns.marks.dist.items c.turns.marks.order.items (waiting c.turns.steps) c.requires.ends refl c.requires.round.layering c.turns.invariant.1 c.in-Some.step (waiting c.next_step.new.steps) c.in-Some.ensures.some c.in_ok-v.v c.take_step.new.marks.reached.items c.take_step.new.marks.labels.items c.in_ok-v.ensures.reaches).0 (let t = c.if-excess-v-lt0.true in omega (arith, ints, t)) in
    subst (λ ds. IsSearched (length c.args.layer.now) c.args.net.now.edges.now c.args.layer.now c.args.flow.now c.args.source c.in_ok-v.v c.in-Some.step.near.0 c.take_step.new.marks.reached.items c.take_step.new.marks.labels.items ds c.take_step.new.marks.order.items) (sym c.in_ok-v.ensures.dist)
    (subst (λ xs. IsSearched (length c.args.layer.now) c.args.net.now.edges.now c.args.layer.now c.args.flow.now c.args.source c.in_ok-v.v c.in-Some.step.near.0 c.take_step.new.marks.reached.items c.take_step.new.marks.labels.items (set c.turns.marks.dist.items c.in_ok-v.v c.in-Some.step.near.0) xs) (sym c.in_ok-v.ensures.order)
    (found (length c.args.layer.now) c.args.net.now.edges.now c.args.layer.now c.args.flow.now c.args.source c.turns.turn c.turns.steps.now c.turns.marks.reached.items c.turns.marks.labels.items c.turns.marks.dist.items c.turns.marks.order.items (waiting c.turns.steps) c.requires.ends refl c.requires.round.layering c.turns.invariant.1 c.in-Some.step (waiting c.next_step.new.steps) c.in-Some.ensures.some c.in_ok-v.v c.take_step.new.marks.reached.items c.take_step.new.marks.labels.items c.in_ok-v.ensures.reaches lacks))

pub offer_both-requires-in-Some-clause-there : goal.offer_both-requires-in-Some-clause-there
offer_both-requires-in-Some-clause-there c = (new_node (length c.args.layer.now) c.args.net.now.edges.now c.args.layer.now c.args.flow.now c.args.source c.turns.turn c.turns.steps.now c.turns.marks.reached.items c.turns.marks.labels.items c.turns.marks.dist.items c.turns.marks.order.items (waiting c.turns.steps) c.requires.ends refl c.requires.round.layering c.turns.invariant.1 c.in-Some.step (waiting c.next_step.new.steps) c.in-Some.ensures.some c.in_ok-v.v c.take_step.new.marks.reached.items c.take_step.new.marks.labels.items c.in_ok-v.ensures.reaches).0

pub offer_both-requires-in-Some-clause-marks : goal.offer_both-requires-in-Some-clause-marks
offer_both-requires-in-Some-clause-marks c = mark_each (length c.args.layer.now) c.args.net.now.edges.now c.args.layer.now c.args.flow.now c.args.source c.turns.turn c.turns.steps.now c.turns.marks.reached.items c.turns.marks.labels.items c.turns.marks.dist.items c.turns.marks.order.items (waiting c.turns.steps) c.requires.ends refl c.requires.round.layering c.turns.invariant.1 c.in-Some.step (waiting c.next_step.new.steps) c.in-Some.ensures.some c.in_ok-v.v c.take_step.new.marks.reached.items c.take_step.new.marks.labels.items c.in_ok-v.ensures.reaches

pub offer_both-requires-in-Some-clause-low : goal.offer_both-requires-in-Some-clause-low
offer_both-requires-in-Some-clause-low c =
    let n = near_low (length c.args.layer.now) c.args.net.now.edges.now c.args.layer.now c.args.flow.now c.args.source c.turns.turn c.turns.steps.now c.turns.marks.reached.items c.turns.marks.labels.items c.turns.marks.dist.items c.turns.marks.order.items (waiting c.turns.steps) c.requires.ends refl c.requires.round.layering c.turns.invariant.1 c.in-Some.step (waiting c.next_step.new.steps) c.in-Some.ensures.some c.in_ok-v.v c.take_step.new.marks.reached.items c.take_step.new.marks.labels.items c.in_ok-v.ensures.reaches (tells_enough (length c.args.layer.now) c.args.net.now.edges.now c.args.flow.now c.args.excess.now c.in_ok-v.v c.requires.tells (new_node (length c.args.layer.now) c.args.net.now.edges.now c.args.layer.now c.args.flow.now c.args.source c.turns.turn c.turns.steps.now c.turns.marks.reached.items c.turns.marks.labels.items c.turns.marks.dist.items c.turns.marks.order.items (waiting c.turns.steps) c.requires.ends refl c.requires.round.layering c.turns.invariant.1 c.in-Some.step (waiting c.next_step.new.steps) c.in-Some.ensures.some c.in_ok-v.v c.take_step.new.marks.reached.items c.take_step.new.marks.labels.items c.in_ok-v.ensures.reaches).0 (let t = c.if-excess-v-lt0.false in omega (arith, ints, t))) c.requires.least c.requires.source (c.requires.round.from_zero c.args.source c.requires.source) in
    let e = c.in-Some.ensures.now in
    omega (arith, ints, n, e)

pub returns-in_default : goal.returns-in_default
returns-in_default c = absurd (some_step (length c.args.layer.now) c.args.net.now.edges.now c.args.layer.now c.args.flow.now c.args.source c.turns.turn c.turns.steps.now c.turns.marks.reached.items c.turns.marks.labels.items c.turns.marks.dist.items c.turns.marks.order.items (waiting c.turns.steps) c.requires.ends refl c.requires.round.layering c.turns.invariant.1 c.requires.source (tells_surplus (length c.args.layer.now) c.args.net.now.edges.now c.args.flow.now c.args.excess.now c.args.source c.requires.tells c.requires.source c.requires.more) c.in_default.ensures.none)
