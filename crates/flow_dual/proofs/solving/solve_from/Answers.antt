use Rattle.std.proofs.Common.{◌≡◌, ◌^◌, ◌≤ℤ◌, ◌<ℤ◌, ◌++◌, pos, length, take, drop, arith, subst, sym, ◌∙◌, ap}
use Rattle.std.proofs.lemmas.List.{length-replicate, take_at}
use Rattle.network_laws.specs.Network.{IsNetwork}
use Rattle.network_laws.specs.Layering.{layer_of, IsLayering}
use Rattle.network_laws.specs.Tight.{IsDone}
use Rattle.flow_dual.proofs.Finishing.{same_everywhere}
use Rattle.flow_dual.proofs.solving.solve_from.Goals as goal

pub run_from-requires : goal.run_from-requires
run_from-requires c =
    let nodes = c.args.net.now.nodes in
    let edges = c.as_slice-edges.result.now in
    let ee = c.as_slice-edges.ensures.value in
    let el = c.as_mut_slice.ensures.value in
    let ef = c.as_mut_slice-2.ensures.value ∙ c.in_ok-flow.ensures.items_if_clones_equal (λ y e. e) in
    let n : length c.as_mut_slice.result.now ≡ nodes = ap length el ∙ c.requires.as_many in
    record {
      network = subst (λ x. IsNetwork x edges) (sym n) (subst (λ xs. IsNetwork nodes xs) (sym ee) c.requires.network);
      layering = subst (λ xs. IsLayering edges xs) (sym el) (subst (λ es. IsLayering es c.args.first.items) (sym ee) c.requires.layering);
      from_zero = λ v l. subst (λ xs. pos 0 ≤ℤ layer_of xs v) (sym el) (c.requires.from_zero v (omega (arith, n, l)));
      low = λ v l. subst (λ xs. layer_of xs v <ℤ pos (2 ^ 62)) (sym el) (c.requires.low v (omega (arith, n, l)));
      flow = ap length ef ∙ length-replicate (length edges) 0;
      no_flow = λ k. same_everywhere (length edges) k 0 c.as_mut_slice-2.result.now ef;
    }

pub finish-requires : goal.finish-requires
finish-requires c =
    let nodes = c.args.net.now.nodes in
    let edges = c.as_slice-edges.result.now in
    let ee = c.as_slice-edges.ensures.value in
    let el = c.as_mut_slice.ensures.value in
    let n : length c.as_mut_slice.result.now ≡ nodes = ap length el ∙ c.requires.as_many in
    let a = take_at c.run_from.new.layer (drop (length c.run_from.new.layer) c.args.first.items) c.args.first.len (omega arith) in
    let b = take_at c.run_from.new.flow (drop (length c.run_from.new.flow) c.in_ok-flow.flow.items) c.in_ok-flow.flow.len (omega arith) in
    let net : IsNetwork nodes edges = subst (λ xs. IsNetwork nodes xs) (sym ee) c.requires.network in
    record {
      few = net.few_edges;
      ends = net.ends;
      done = subst (λ xs. IsDone nodes edges xs (take c.in_ok-flow.flow.len (c.run_from.new.flow ++ drop (length c.run_from.new.flow) c.in_ok-flow.flow.items))) (sym a) (subst (λ xs. IsDone nodes edges c.run_from.new.layer xs) (sym b) (subst (λ x. IsDone x edges c.run_from.new.layer c.run_from.new.flow) n c.in_ok-run_from.ensures));
    }
