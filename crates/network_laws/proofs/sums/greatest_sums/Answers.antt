use Rattle.std.proofs.Common.{◌∙◌, subst, sym}
use Rattle.network_laws.specs.Paths.{ArePathSums}
use Rattle.network_laws.proofs.PathSums.{zeros}
use Rattle.network_laws.proofs.sums.greatest_sums.Goals as goal

pub raise_both-requires-clause-paths : goal.raise_both-requires-clause-paths
raise_both-requires-clause-paths c =
    subst (λ xs. ArePathSums c.args.edges.now xs) (sym (c.as_mut_slice.ensures.value ∙ c.in_ok-sums.ensures.items_if_clones_equal (λ y e. e))) (zeros c.args.edges.now c.args.nodes)
