use Rattle.std.proofs.Common.{◌≡◌, suc, length, get_or, arith, refl, sym, subst, ◌∙◌, ap}
use Rattle.network_laws.specs.declared.links.Links.{Links}
use Rattle.network_laws.specs.Network.{edge_at}
use Rattle.network_laws.specs.Links.{IsNextAt}
use Rattle.flow_dual.specs.State.{marked}
use Rattle.flow_dual.specs.Queue.{waiting, AreInOrder, Offers, links_at}
use Rattle.flow_dual.proofs.Offering.{offers_none, offers_past, offers_more, back_used}
use Rattle.flow_dual.proofs.steps.offer.Goals as goal
use Rattle.flow_dual.proofs.steps.offer.Goals.{then-is_open+in_ok-add_step, else-is_open}

pub loop-k-init : goal.loop-k-init
loop-k-init c =
    let n : IsNextAt c.args.net.now.edges.now c.args.end c.args.v 0 c.first_of-k.result = subst (λ x. IsNextAt c.args.net.now.edges.now c.args.end c.args.v 0 x) (sym (c.first_of-k.ensures ∙ ap (λ (ls : Links). get_or ls.first.items c.args.v 0) c.links_at-links.ensures)) (c.requires.links.begins c.args.v c.requires.there) in
    (n.in_range, n.here, c.requires.order, refl, offers_none c.args.net.now.edges.now c.args.layer.now c.args.flow.now (marked c.args.marks.now.reached.items) c.args.end c.args.v c.args.steps.now.now c.first_of-k.result (waiting c.args.steps.now) n)

pub loop-k-preserved : goal.loop-k-preserved
loop-k-preserved c =
    let edges = c.args.net.now.edges.now in
    let layer = c.args.layer.now in
    let flow = c.args.flow.now in
    let set = marked c.args.marks.now.reached.items in
    let end = c.args.end in
    let v = c.args.v in
    let k = c.loop-k.k in
    let k' = c.next_of-k.result in
    let first = waiting c.args.steps.now in
    let q = waiting c.loop-k.steps in
    let there = c.loop-k-test.true in
    let is = c.loop-k.invariant.1 there in
    let n : IsNextAt edges end v (suc k) k' =
    subst (λ x. IsNextAt edges end v (suc k) x) (sym (c.next_of-k.ensures ∙ ap (λ (ls : Links). get_or ls.next.items k 0) c.links_at-links.ensures)) (subst (λ x. IsNextAt edges end x (suc k) (get_or (links_at end c.args.net.now.tails.now c.args.net.now.heads.now).next.items k 0)) is (c.requires.links.goes_on k there))
    in
    elim c.if-is_open.branch [
      | then-is_open+in_ok-add_step w ↦
          let may = c.is_open.ensures.0 w.if-is_open.true in
          let step = w.step_near.ensures.step (back_used set end (edge_at edges k) (get_or flow k 0) may) in
          let more = offers_more edges layer flow set end v c.args.steps.now.now k w.step_near.result first q (waiting w.add_step.new.steps) there is step w.in_ok-add_step.ensures.adds c.loop-k.invariant.4 in (
            n.in_range,
            n.here,
            subst AreInOrder (sym w.steps-is) w.in_ok-add_step.ensures.order,
            subst (λ h. h.now ≡ c.args.steps.now.now) (sym w.steps-is) (w.add_step.ensures.now ∙ c.loop-k.invariant.3),
            subst (λ h. Offers edges layer flow set end v c.args.steps.now.now k' first (waiting h)) (sym w.steps-is) (offers_past edges layer flow set end v c.args.steps.now.now k k' first (waiting w.add_step.new.steps) n (λ _. more.1) more.0),
          )
      | else-is_open w ↦ (
        n.in_range,
        n.here,
        subst AreInOrder (sym w.steps-is) c.loop-k.invariant.2,
        subst (λ h. h.now ≡ c.args.steps.now.now) (sym w.steps-is) c.loop-k.invariant.3,
        subst (λ h. Offers edges layer flow set end v c.args.steps.now.now k' first (waiting h)) (sym w.steps-is)
            (offers_past edges layer flow set end v c.args.steps.now.now k k' first q n (λ may. let yes = c.is_open.ensures.1 may in let no' = w.if-is_open.false in absurd cc) c.loop-k.invariant.4),
      )
    ]

pub returns : goal.returns
returns c =
    let l = c.loop-k-test.false in
    let m = c.loop-k.invariant.0 in
    record {
      order = c.loop-k.invariant.2;
      now = c.loop-k.invariant.3;
      offers = subst (λ i. Offers c.args.net.now.edges.now c.args.layer.now c.args.flow.now (marked c.args.marks.now.reached.items) c.args.end c.args.v c.args.steps.now.now i (waiting c.args.steps.now) (waiting c.loop-k.steps)) (let e : c.loop-k.k ≡ length c.args.net.now.edges.now = omega (arith, l, m) in e) c.loop-k.invariant.4;
    }
