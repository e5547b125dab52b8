use Rattle.std.proofs.Common.{rules}
use Rattle.std.proofs.lemmas.List.Sorted.{IsNonDecreasingBy-from_sort_by_key}
use Rattle.bk_place.specs.declared.reaching.LinkEnd.{LinkEnd}
use Rattle.bk_place.proofs.reaching.reach_of.Goals as goal

pub returns-clause-reach : goal.returns-clause-reach
returns-clause-reach c =
    record {
      sorted = IsNonDecreasingBy-from_sort_by_key (λ (p : LinkEnd). p.start) _ c.in_ok-sort_by_key.ensures.sorted (λ a r q k. search rules);
      as_many = rw c.as_slice.ensures.value at c.in_ok-highest.ensures.long;
      highest_is = rw c.as_slice.ensures.value at c.in_ok-highest.ensures.highest;
    }
