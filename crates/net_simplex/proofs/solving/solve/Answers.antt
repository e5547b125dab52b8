use Rattle.std.proofs.Common.{◌≡◌, ◌++◌, ◌∙◌, ◌<◌, ◌^◌, pos, length, take, drop, map, arith, subst, sym, ap}
use Rattle.std.proofs.lemmas.List.{length-replicate}
use Rattle.std.proofs.lemmas.List.Elements.{All-get_or}
use Rattle.network_laws.specs.Network.{IsNetwork}
use Rattle.network_laws.specs.Layering.{IsLayering}
use Rattle.network_laws.specs.Paths.{AreGreatestSums}
use Rattle.network_laws.specs.Tight.{IsDone}
use Rattle.flow_dual.proofs.Finishing.{sums_fit}
use Rattle.net_simplex.specs.Answer.{EndsInTime}
use Rattle.net_simplex.specs.Grown.{IsConnected}
use Rattle.net_simplex.specs.Outcome.{Outcome}
use Rattle.net_simplex.proofs.ChainEnds.{one_way}
use Rattle.net_simplex.proofs.Writing.{written}
use Rattle.net_simplex.proofs.solving.solve.Goals as goal

pub as_layers-requires : goal.as_layers-requires
as_layers-requires c = λ v l.
    let nodes = c.args.net.now.nodes in
    let edges = c.as_slice-edges.result.now in
    let sums = c.as_slice.result.now in
    let net = subst (λ xs. IsNetwork nodes xs) (sym c.as_slice-edges.ensures.value) c.requires.network in
    let g = subst (λ xs. AreGreatestSums nodes edges (map pos xs)) (sym c.as_slice.ensures.value) c.in_ok-sums.ensures.greatest in
    All-get_or (λ n. n < 2 ^ 63) sums v 0 l (sums_fit nodes edges sums net g)

pub run_on-requires : goal.run_on-requires
run_on-requires c =
    let nodes = c.args.net.now.nodes in
    let edges = c.as_slice-edges.result.now in
    let ee = c.as_slice-edges.ensures.value in
    let el = c.as_mut_slice.ensures.value ∙ (c.in_ok-layers.ensures ∙ ap (map pos) c.as_slice.ensures.value) in
    let ef = c.as_mut_slice-2.ensures.value ∙ c.in_ok-flow.ensures.items_if_clones_equal (λ y e. e) in
    let g = c.in_ok-sums.ensures.greatest in
    let n : length c.as_mut_slice.result.now ≡ nodes = ap length el ∙ g.layer_for_each in
    record {
      network = subst (λ x. IsNetwork x edges) (sym n) (subst (λ xs. IsNetwork nodes xs) (sym ee) c.requires.network);
      some = let q = c.requires.some in omega (arith, q, n);
      connected = subst (λ x. IsConnected x edges) (sym n) (subst (λ xs. IsConnected nodes xs) (sym ee) c.requires.connected);
      greatest = subst (λ x. AreGreatestSums x edges c.as_mut_slice.result.now) (sym n) (subst (λ ls. AreGreatestSums nodes edges ls) (sym el) g);
      layering = subst (λ ls. IsLayering edges ls) (sym el) c.in_ok-sums.ensures.layering;
      flow = ap length ef ∙ length-replicate (length edges) 0;
    }

pub finish-requires : goal.finish-requires
finish-requires c =
    let nodes = c.args.net.now.nodes in
    let edges = c.as_slice-edges.result.now in
    let ee = c.as_slice-edges.ensures.value in
    let el = c.as_mut_slice.ensures.value ∙ (c.in_ok-layers.ensures ∙ ap (map pos) c.as_slice.ensures.value) in
    let n : length c.as_mut_slice.result.now ≡ nodes = ap length el ∙ c.in_ok-sums.ensures.greatest.layer_for_each in
    let a = written c.in_ok-layers.layers c.run_on.new.layers (omega arith) in
    let b = written c.in_ok-flow.flow c.run_on.new.flow (omega arith) in
    let net : IsNetwork nodes edges = subst (λ xs. IsNetwork nodes xs) (sym ee) c.requires.network in
    let o = subst (λ o. Outcome (length c.as_mut_slice.result.now) edges c.args.budget o c.run_on.new.layers c.run_on.new.flow) c.in-Some.is c.in_ok-ended.ensures in
    record {
      few = net.few_edges;
      ends = net.ends;
      done = subst (λ xs. IsDone nodes edges xs (take c.in_ok-flow.flow.len (c.run_on.new.flow ++ drop (length c.run_on.new.flow) c.in_ok-flow.flow.items))) (sym a) (subst (λ xs. IsDone nodes edges c.run_on.new.layers xs) (sym b) (subst (λ x. IsDone x edges c.run_on.new.layers c.run_on.new.flow) n o.1));
    }

pub returns-in-Some-clause-by_pivots : goal.returns-in-Some-clause-by_pivots
returns-in-Some-clause-by_pivots c =
    let nodes = c.args.net.now.nodes in
    let edges = c.as_slice-edges.result.now in
    let ee = c.as_slice-edges.ensures.value in
    let el = c.as_mut_slice.ensures.value ∙ (c.in_ok-layers.ensures ∙ ap (map pos) c.as_slice.ensures.value) in
    let n : length c.as_mut_slice.result.now ≡ nodes = ap length el ∙ c.in_ok-sums.ensures.greatest.layer_for_each in
    let a = written c.in_ok-layers.layers c.run_on.new.layers (omega arith) in
    let b = written c.in_ok-flow.flow c.run_on.new.flow (omega arith) in
    let o = subst (λ o. Outcome (length c.as_mut_slice.result.now) edges c.args.budget o c.run_on.new.layers c.run_on.new.flow) c.in-Some.is c.in_ok-ended.ensures in
    let r : EndsInTime nodes edges c.args.budget c.in-Some.pivots c.run_on.new.layers c.run_on.new.flow = subst (λ x. EndsInTime x edges c.args.budget c.in-Some.pivots c.run_on.new.layers c.run_on.new.flow) n o.0 in
    let e : EndsInTime nodes c.args.net.now.edges.items c.args.budget c.in-Some.pivots c.run_on.new.layers c.run_on.new.flow = subst (λ es. EndsInTime nodes es c.args.budget c.in-Some.pivots c.run_on.new.layers c.run_on.new.flow) ee r in
    λ way. subst (λ ls. EndsInTime nodes c.args.net.now.edges.items c.args.budget c.in-Some.pivots ls c.finish.result.flow.items) (sym (c.finish.ensures.layer ∙ a))
    (subst (λ fs. EndsInTime nodes c.args.net.now.edges.items c.args.budget c.in-Some.pivots c.run_on.new.layers fs) (sym (c.finish.ensures.flow ∙ b)) e)

pub returns-in-Some-clause-by_flow : goal.returns-in-Some-clause-by_flow
returns-in-Some-clause-by_flow c =
    let nodes = c.args.net.now.nodes in
    let edges = c.as_slice-edges.result.now in
    let ee = c.as_slice-edges.ensures.value in
    let el = c.as_mut_slice.ensures.value ∙ (c.in_ok-layers.ensures ∙ ap (map pos) c.as_slice.ensures.value) in
    let n : length c.as_mut_slice.result.now ≡ nodes = ap length el ∙ c.in_ok-sums.ensures.greatest.layer_for_each in
    let a = written c.in_ok-layers.layers c.run_on.new.layers (omega arith) in
    let b = written c.in_ok-flow.flow c.run_on.new.flow (omega arith) in
    let o = subst (λ o. Outcome (length c.as_mut_slice.result.now) edges c.args.budget o c.run_on.new.layers c.run_on.new.flow) c.in-Some.is c.in_ok-ended.ensures in
    let r : EndsInTime nodes edges c.args.budget c.in-Some.pivots c.run_on.new.layers c.run_on.new.flow = subst (λ x. EndsInTime x edges c.args.budget c.in-Some.pivots c.run_on.new.layers c.run_on.new.flow) n o.0 in
    let e : EndsInTime nodes c.args.net.now.edges.items c.args.budget c.in-Some.pivots c.run_on.new.layers c.run_on.new.flow = subst (λ es. EndsInTime nodes es c.args.budget c.in-Some.pivots c.run_on.new.layers c.run_on.new.flow) ee r in
    (λ way. absurd cc, λ out. absurd (one_way nodes c.args.net.now.edges.items c.args.budget c.in-Some.pivots c.run_on.new.layers c.run_on.new.flow e out))
