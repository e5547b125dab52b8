use Rattle.std.proofs.Common.{◌≡◌, ◌<◌, ℕ, List, length, arith, Some, None, IsSome, rules, sym, ap, ◌∙◌, subst}
use Rattle.cycle_break.specs.Ways.{IsPath, edge_keys}
use Rattle.cycle_break.specs.Search.{place_of, reached_at, WayOn, IsIndexed}
use Rattle.cycle_break.specs.declared.searching.Reached.{Reached}
use Rattle.cycle_break.proofs.Reaching.{reached_back}
use Rattle.cycle_break.proofs.searching.path_by.Goals as goal

pub returns-in-None : goal.returns-in-None
returns-in-None c =
    λ way.
    let s : IsSome (place_of c.search.new.index c.args.from.at) = reached_back c.args.arena.now c.search.new.index c.args.from.at c.args.to.at c.in_ok-reached.ensures.closed way c.in_ok-reached.ensures.root in
    let n : place_of c.search.new.index c.args.from.at ≡ None = search rules in
    let q = rw n at s in
    absurd cc

pub edges_from-requires-clause-from : goal.edges_from-requires-clause-from
edges_from-requires-clause-from c =
    let n : place_of c.search.new.index c.args.from.at ≡ Some c.in-Some.at = search rules in
    let b = (c.in_ok-reached.ensures.indexed c.args.from.at c.in-Some.at n).0 in
    let l = ap length c.as_slice.ensures.value in
    omega (arith, b, l)

pub returns : goal.returns
returns c =
    let n : place_of c.search.new.index c.args.from.at ≡ Some c.in-Some.at = search rules in
    let g = c.args.arena.now in
    let to = c.args.to.at in
    let v : c.as_slice.result.now ≡ c.in_ok-reached.reached.items = c.as_slice.ensures.value in
    let back = subst (λ (rs : List Reached). IsIndexed rs c.search.new.index) (sym v) c.in_ok-reached.ensures.back in
    let ways = subst (λ (rs : List Reached). (k : ℕ) → k < length rs → WayOn g to rs k (reached_at rs k).node.at (reached_at rs k).via) (sym v) c.in_ok-reached.ensures.ways in
    let at = ap (λ (rs : List Reached). (reached_at rs c.in-Some.at).node.at) v ∙ (c.in_ok-reached.ensures.indexed c.args.from.at c.in-Some.at n).1 in
    subst (λ (j : ℕ). IsPath g j (edge_keys c.in_ok-edges_from-in-Some.field-0.items) to) at (c.in_ok-edges_from-in-Some.ensures.path g to c.search.new.index ways back)
