use Rattle.std.proofs.Common.{◌≡◌, ◌<◌, ◌^◌, pos, map, subst, sym, ◌∙◌, ap}
use Rattle.std.specs.List.{All}
use Rattle.network_laws.specs.Network.{IsNetwork}
use Rattle.network_laws.specs.Layering.{IsLayering}
use Rattle.network_laws.specs.Paths.{AreGreatestSums}
use Rattle.flow_dual.proofs.Finishing.{sums_fit, sum_layers}
use Rattle.flow_dual.proofs.solving.solve.Goals as goal

pub as_layers-requires : goal.as_layers-requires
as_layers-requires c =
    let nodes = c.args.net.now.nodes in
    let edges = c.as_slice-edges.result.now in
    let net : IsNetwork nodes edges = subst (λ xs. IsNetwork nodes xs) (sym c.as_slice-edges.ensures.value) c.requires in
    subst (λ xs. All (λ n. n < 2 ^ 63) xs) (sym c.as_slice.ensures.value) (sums_fit nodes edges c.in_ok-sums.sums.items net c.in_ok-sums.ensures.greatest)

pub solve_from-requires : goal.solve_from-requires
solve_from-requires c =
    let nodes = c.args.net.now.nodes in
    let edges = c.as_slice-edges.result.now in
    let ee = c.as_slice-edges.ensures.value in
    let net : IsNetwork nodes edges = subst (λ xs. IsNetwork nodes xs) (sym ee) c.requires in
    let is : c.in_ok-first.first.items ≡ map pos c.in_ok-sums.sums.items = c.in_ok-first.ensures ∙ ap (map pos) c.as_slice.ensures.value in
    let g : AreGreatestSums nodes edges c.in_ok-first.first.items = subst (λ xs. AreGreatestSums nodes edges xs) (sym is) c.in_ok-sums.ensures.greatest in
    let low = sum_layers nodes edges c.in_ok-first.first.items net g in
    record {
      network = c.requires;
      as_many = g.layer_for_each;
      layering = subst (λ es. IsLayering es c.in_ok-first.first.items) ee (subst (λ xs. IsLayering edges xs) (sym is) c.in_ok-sums.ensures.layering);
      from_zero = λ v l. (low v l).0;
      low = λ v l. (low v l).1;
    }
