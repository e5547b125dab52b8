use Rattle.std.proofs.Common.{arith, refl, rules}
use Rattle.std.proofs.lemmas.List.Sorted.{IsNonDecreasingBy-from_sort_by_key}
use Rattle.separation.proofs.DueLemmas.{due_more, due_sorted}
use Rattle.separation.proofs.walk.due_bounds.Goals as goal

pub loop-k-preserved : goal.loop-k-preserved
loop-k-preserved c =
    rw c.in_ok-push.ensures.items (due_more c.args.bounds.now c.args.position.now c.loop-k.due.items c.loop-k.k _ (record { is_bound = c.loop-k-test.true; position_is = refl }) refl c.loop-k.invariant.0 c.loop-k.invariant.1)

pub returns : goal.returns
returns c =
    due_sorted c.args.bounds.now c.args.position.now c.loop-k.due.items _ c.in_ok-sort_by_key.ensures.permutation
    (IsNonDecreasingBy-from_sort_by_key (λ d. d.position) _ c.in_ok-sort_by_key.ensures.sorted (λ a r q k. search rules))
    c.loop-k.invariant.0 (λ j h. c.loop-k.invariant.1 j (omega arith))
