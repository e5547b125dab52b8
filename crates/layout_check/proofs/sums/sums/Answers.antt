use Rattle.std.proofs.Common.{◌≡◌, ℕ, ◌∙◌, ap, length, replicate}
use Rattle.layout_check.proofs.NodeSums.{sums_none}
use Rattle.layout_check.proofs.sums.sums.Goals as goal

pub add_all-requires-clause-sums : goal.add_all-requires-clause-sums
add_all-requires-clause-sums c =
    let d = c.args.doc.now in
    let fresh : c.as_mut_slice.result.now ≡ replicate (length d.nodes) 0 = c.as_mut_slice.ensures.value ∙ c.in_ok-sums.ensures.items_if_clones_equal (λ y e. e) ∙ ap (λ (n : ℕ). replicate n 0) (ap length c.nodes.ensures.value) in
    sums_none d c.args.node c.args.ends.now c.args.values.now c.as_mut_slice.result.now fresh
