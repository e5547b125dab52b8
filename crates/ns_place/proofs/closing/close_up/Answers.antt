use Rattle.std.proofs.Common.{◌≡◌, ◌<◌, length, drop, arith, subst, sym, ◌∙◌, ap, rules}
use Rattle.std.specs.List.{All, sum_by}
use Rattle.std.specs.List.Sorted.{IsNonDecreasingBy}
use Rattle.std.proofs.lemmas.List.{length-replicate, take_at}
use Rattle.std.proofs.lemmas.List.Sorted.{IsNonDecreasingBy-from_sort_by_key, sum_by-IsPermutation}
use Rattle.ns_place.specs.declared.closing.Standing.{Standing}
use Rattle.ns_place.specs.Closing.{IsClosedTo, IsClosedUp}
use Rattle.ns_place.proofs.ClosingLemmas.{UnitsDiffer, closed_all, units_differ, units_in_range}
use Rattle.ns_place.proofs.closing.close_up.Goals as goal

pub close_all-requires-clause-in_range : goal.close_all-requires-clause-in_range
close_all-requires-clause-in_range c =
    let first = c.args.standings.items in
    let filled = c.as_mut_slice.ensures.value ∙ c.in_ok-closed.ensures.items_if_clones_equal (λ y e. e) in
    let long : length c.as_mut_slice.result.now ≡ length first = let a = ap length filled ∙ length-replicate c.len.result 0 in omega (arith, a, c.len.ensures) in
    subst (λ n. All (λ (s : Standing). s.unit < n) c.as_slice.result.now) (sym long)
    (subst (λ xs. All (λ (s : Standing). s.unit < length first) xs) (sym c.as_slice.ensures.value) (units_in_range first c.sort_by_key.new.self.items c.in_ok-sort_by_key.ensures.permutation c.requires.numbered))

pub close_all-requires-clause-sorted : goal.close_all-requires-clause-sorted
close_all-requires-clause-sorted c =
    subst (λ xs. IsNonDecreasingBy (λ (s : Standing). s.top) xs) (sym c.as_slice.ensures.value)
    (IsNonDecreasingBy-from_sort_by_key (λ (s : Standing). s.top) _ c.in_ok-sort_by_key.ensures.sorted (λ a r q k. search rules))

pub close_all-requires-clause-apart : goal.close_all-requires-clause-apart
close_all-requires-clause-apart c =
    subst UnitsDiffer (sym c.as_slice.ensures.value) (units_differ c.args.standings.items c.sort_by_key.new.self.items c.in_ok-sort_by_key.ensures.permutation c.requires.numbered)

pub close_all-requires-clause-small : goal.close_all-requires-clause-small
close_all-requires-clause-small c =
    let same = sum_by-IsPermutation (λ (s : Standing). s.span) c.args.standings.items c.sort_by_key.new.self.items c.in_ok-sort_by_key.ensures.permutation in
    let is = ap (sum_by (λ (s : Standing). s.span)) c.as_slice.ensures.value in
    let small = c.requires.small in
    omega (arith, same, is, small)

pub returns : goal.returns
returns c =
    let first = c.args.standings.items in
    let all = c.sort_by_key.new.self.items in
    let filled = c.as_mut_slice.ensures.value ∙ c.in_ok-closed.ensures.items_if_clones_equal (λ y e. e) in
    let long : length c.close_all.new.closed ≡ length first = let a = ap length filled ∙ length-replicate c.len.result 0 in omega (arith, a, c.len.ensures) in
    let e = c.close_all.ensures in
    let sorted : IsNonDecreasingBy (λ (s : Standing). s.top) all = IsNonDecreasingBy-from_sort_by_key (λ (s : Standing). s.top) _ c.in_ok-sort_by_key.ensures.sorted (λ a r q k. search rules) in
    let closed = subst (λ xs. IsClosedTo xs (length xs) e.0 e.1 e.2 c.close_all.new.closed) c.as_slice.ensures.value e.3 in
    let cut = take_at c.close_all.new.closed (drop (length c.close_all.new.closed) c.in_ok-closed.closed.items) c.in_ok-closed.closed.len (omega arith) in
    subst (λ xs. IsClosedUp first xs) (sym cut) (closed_all first all c.in_ok-sort_by_key.ensures.permutation c.requires.numbered c.close_all.new.closed e.0 e.1 e.2 long sorted closed)
