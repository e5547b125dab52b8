use Rattle.std.proofs.Common.{◌≡◌, ℕ, List, length, Option, None, arith, sym, ap, ◌∙◌, subst}
use Rattle.std.proofs.lemmas.List.{length-replicate}
use Rattle.cycle_break.specs.Search.{place_of}
use Rattle.cycle_break.proofs.Lists.{no_places, none_placed}
use Rattle.cycle_break.proofs.searching.path.Goals as goal

pub path_by-requires-clause-fits : goal.path_by-requires-clause-fits
path_by-requires-clause-fits c =
    λ v h.
    let e : c.as_mut_slice.result.now ≡ no_places c.node_bound.result = c.as_mut_slice.ensures.value ∙ c.in_ok-index.ensures in
    let n = ap length e ∙ length-replicate c.node_bound.result None in
    let b = c.node_bound.ensures v h in
    omega (arith, n, b)

pub path_by-requires-clause-free : goal.path_by-requires-clause-free
path_by-requires-clause-free c =
    λ v.
    let e : c.as_mut_slice.result.now ≡ no_places c.node_bound.result = c.as_mut_slice.ensures.value ∙ c.in_ok-index.ensures in
    subst (λ (l : List (Option ℕ)). place_of l v ≡ None) (sym e) (none_placed c.node_bound.result v)
