-- What is kept where a row gets another order.
use Rattle.std.proofs.Common.{◌≡◌, ℕ, ◌<◌, List, [], length, set, sym, ◌∙◌, ap, subst, inl, inr, refl, ◌⊎◌}
use Rattle.std.proofs.lemmas.Bool.{cases_eq}
use Rattle.std.specs.List.Sorted.{IsPermutation}
use Rattle.std.proofs.lemmas.List.{get_or-set_same, get_or-set_other, length-set}
use Rattle.std.proofs.lemmas.List.Sorted.{IsPermutation-refl}
use Rattle.elk_layers.specs.Layered.{Plain, AreRows, row_at, rows_of}
use Rattle.elk_layers.specs.Crossings.{HasSameRows, NoBetterSwap, crossings}
use Rattle.elk_layers.specs.declared.units.Order.{Order}
use Rattle.cross_reduce.specs.declared.reducing.Counted.{Counted}
use Rattle.cross_reduce.specs.Candidates.{IsBestFrom, IsSettledFrom}
use Rattle.cross_reduce.proofs.LoweringLemmas.{kept_or_fewer_trans}
use Rattle.cross_reduce.proofs.StateLemmas.{same_refl, same_trans}

pub same_replaced : (rows : List (List ℕ)) (r : ℕ) (row : List ℕ) → r < length rows → IsPermutation (row_at rows r) row → HasSameRows rows (set rows r row)
same_replaced rows r row hr p =
    record {
      as_many = length-set rows r row;
      permuted = λ g h. elim (cases_eq g r) [
        | inl e ↦ subst (λ (x : ℕ). IsPermutation (row_at rows x) (row_at (set rows r row) x)) (sym e) (rw (get_or-set_same rows r row [] hr) p)
        | inr n ↦ rw (get_or-set_other rows r g row [] n) (IsPermutation-refl (row_at rows g))
      ];
    }

-- an order that was counted
pub best_counted : (l : Plain) (order : Order) (kept : Counted) → AreRows l (rows_of order) → kept.order ≡ order → kept.crossings ≡ crossings l (rows_of order) → IsBestFrom l (rows_of kept.order) kept
best_counted l order kept are e n =
    let same : rows_of order ≡ rows_of kept.order = sym (ap rows_of e) in
    record {
      are_rows = subst (λ xs. AreRows l xs) same are;
      counted = n ∙ ap (crossings l) same;
      same = same_refl (rows_of kept.order);
    }

pub best_self : (l : Plain) (rows : List (List ℕ)) (kept : Counted) → IsBestFrom l rows kept → IsBestFrom l (rows_of kept.order) kept
best_self l rows kept s = record { are_rows = s.are_rows; counted = s.counted; same = same_refl (rows_of kept.order) }

pub best_trans : (l : Plain) (rows : List (List ℕ)) (a b : Counted) → IsBestFrom l rows a → IsBestFrom l (rows_of a.order) b → IsBestFrom l rows b
best_trans l rows a b s t = record { are_rows = t.are_rows; counted = t.counted; same = same_trans rows (rows_of a.order) (rows_of b.order) s.same t.same }

-- a settled order that was counted
pub settled_self : (l : Plain) (kept : Counted) → IsBestFrom l (rows_of kept.order) kept → NoBetterSwap l (rows_of kept.order) → IsSettledFrom l (rows_of kept.order) kept
settled_self l kept best none = record { best = best; settled = none; fewer = inl refl }

pub settled_again : (l : Plain) (rows : List (List ℕ)) (kept : Counted) → IsSettledFrom l rows kept → IsSettledFrom l (rows_of kept.order) kept
settled_again l rows kept s = settled_self l kept (best_self l rows kept s.best) s.settled

pub settled_trans : (l : Plain) (rows : List (List ℕ)) (a b : Counted) → IsSettledFrom l rows a → IsSettledFrom l (rows_of a.order) b → IsSettledFrom l rows b
settled_trans l rows a b s t =
    record {
      best = best_trans l rows a b s.best t.best;
      settled = t.settled;
      fewer = kept_or_fewer_trans l rows (rows_of a.order) (rows_of b.order) s.fewer t.fewer;
    }

-- one of two settled orders
pub none_of_either : (l : Plain) (kept new rows : List (List ℕ)) → NoBetterSwap l kept → NoBetterSwap l new → (rows ≡ kept) ⊎ (rows ≡ new) → NoBetterSwap l rows
none_of_either l kept new rows a b (inl e) = subst (λ xs. NoBetterSwap l xs) (sym e) a
none_of_either l kept new rows a b (inr e) = subst (λ xs. NoBetterSwap l xs) (sym e) b
