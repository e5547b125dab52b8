use Rattle.std.proofs.Common.{◌≡◌, ◌∙◌, suc, length, get_or, arith, sym, subst, ap, FitsSigned, rules}
use Rattle.std.specs.Int.{w128}
use Rattle.std.proofs.lemmas.Int.{to_z-of_z}
use Rattle.std.specs.BinaryHeap.{IsHeap, heap_items}
use Rattle.network_laws.specs.Network.{edge_at}
use Rattle.network_laws.specs.Links.{IsNextAt}
use Rattle.net_simplex.specs.Pivots.{is_in}
use Rattle.net_simplex.specs.Outward.{waiting_order, rise_of as rise, Adds, AreWaiting}
use Rattle.net_simplex.proofs.Outgoing.{waiting_begun, waiting_past, waiting_more}
use Rattle.net_simplex.proofs.waiting.add_edges.Goals as goal
use Rattle.net_simplex.proofs.waiting.add_edges.Goals.{then-is_out+in_ok-add_waiting, else-is_out}

pub loop-k-init : goal.loop-k-init
loop-k-init c =
    let n : IsNextAt c.args.edges.now c.args.end c.args.v 0 c.first_of-k.result = subst (λ x. IsNextAt c.args.edges.now c.args.end c.args.v 0 x) (sym c.first_of-k.ensures) (c.requires.links.begins c.args.v c.requires.there) in
    (n.in_range, n.here, c.requires.heap, waiting_begun c.args.edges.now c.args.end c.args.reached.now c.args.layers.now c.args.v c.first_of-k.result (heap_items c.args.queue.now) n c.requires.others)

pub loop-k-preserved : goal.loop-k-preserved
loop-k-preserved c =
    let edges = c.args.edges.now in
    let layers = c.args.layers.now in
    let reached = c.args.reached.now in
    let end = c.args.end in
    let v = c.args.v in
    let k = c.loop-k.k in
    let k' = c.next_of-k.result in
    let q = heap_items c.loop-k.queue in
    let there = c.loop-k-test.true in
    let is = c.loop-k.invariant.1 there in
    let n : IsNextAt edges end v (suc k) k' =
    subst (λ x. IsNextAt edges end v (suc k) x) (sym c.next_of-k.ensures) (subst (λ x. IsNextAt edges end x (suc k) (get_or c.args.links.now.next.items k 0)) is (c.requires.links.goes_on k there))
    in
    elim c.if-is_out.branch [
      | then-is_out+in_ok-add_waiting w ↦
          let z = w.rise_of.result in
          let fz : FitsSigned w128 z = search rules in
          let adds : Adds q (rise layers (edge_at edges k)) k (heap_items w.add_waiting.new.queue) =
          subst (λ r. Adds q r k (heap_items w.add_waiting.new.queue)) (to_z-of_z w128 z fz ∙ w.rise_of.ensures) w.in_ok-add_waiting.ensures.adds
          in
          let more = waiting_more edges end reached layers v k k q (heap_items w.add_waiting.new.queue) there (ap (is_in reached) is ∙ c.requires.held) adds c.loop-k.invariant.3 in (
            n.in_range,
            n.here,
            subst (λ h. IsHeap waiting_order (heap_items h)) (sym w.queue-is) w.add_waiting.ensures.heap,
            subst (λ h. AreWaiting edges end reached layers v k' (heap_items h)) (sym w.queue-is) (waiting_past edges end reached layers v k k' (heap_items w.add_waiting.new.queue) n (λ _. more.1) more.0),
          )
      | else-is_out w ↦ (
        n.in_range,
        n.here,
        subst (λ h. IsHeap waiting_order (heap_items h)) (sym w.queue-is) c.loop-k.invariant.2,
        subst (λ h. AreWaiting edges end reached layers v k' (heap_items h)) (sym w.queue-is)
            (waiting_past edges end reached layers v k k' q n (λ out. let a = c.is_out.ensures.held w.if-is_out.false in let b = out.1 in absurd cc) c.loop-k.invariant.3),
      )
    ]

pub returns : goal.returns
returns c =
    let l = c.loop-k-test.false in
    let m = c.loop-k.invariant.0 in
    record {
      heap = c.loop-k.invariant.2;
      all = subst (λ i. AreWaiting c.args.edges.now c.args.end c.args.reached.now c.args.layers.now c.args.v i (heap_items c.loop-k.queue)) (let e : c.loop-k.k ≡ length c.args.edges.now = omega (arith, l, m) in e) c.loop-k.invariant.3;
    }
