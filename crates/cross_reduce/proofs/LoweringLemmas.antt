-- Exchanges one after the other, and the first order of fewest crossings.
use Rattle.std.proofs.Common.{◌≡◌, ◌+◌, ◌-◌, ◌<◌, ◌≤◌, List, [], ◌∷◌, ℕ, zero, suc, length, ◌++◌, append_assoc, nat_lt, ltb-true, ltb-false, add-one, sym, refl, inl, inr, arith, rules, ap, ◌∙◌, subst}
use Rattle.std.proofs.lemmas.Bool.{cases_Bool}
use Rattle.std.proofs.lemmas.List.Elements.{All-append, All-cons, All-head, All-tail, All-weaker}
use Rattle.elk_layers.specs.Layered.{Plain, row_at}
use Rattle.elk_layers.specs.Crossings.{crossings, exchanged, HasSameRows, NoBetterSwap}
use Rattle.elk_layers.specs.Sweeps.{forward_sweep, backward_sweep, sweep_orders}
use Rattle.cross_reduce.specs.Candidates.{IsKeptOrFewer}
use Rattle.cross_reduce.specs.Exchanges.{IsNoBetter, NoneInRow}
use Rattle.cross_reduce.specs.Reduced.{after_pair, after_pairs, after_row, after_rows, SettlesTo, at_rest, again, AtMostOf, IsFirstOfFewest, IsExchangedFromFewest, IsReduced}

-- ---- what is reached has no more crossings

pair_at_most : (l : Plain) (rows : List (List ℕ)) (r i : ℕ) → crossings l (after_pair l rows r i) ≤ crossings l rows
pair_at_most l rows r i = elim (cases_Bool (nat_lt (crossings l (exchanged rows r i)) (crossings l rows))) [
  | inl t ↦ rw t (let less = ltb-true _ _ t in omega (arith, less))
  | inr f ↦ rw f (omega arith)
]

pairs_at_most : (l : Plain) (rows : List (List ℕ)) (r n : ℕ) → crossings l (after_pairs l rows r n) ≤ crossings l rows
pairs_at_most l rows r zero = omega arith
pairs_at_most l rows r (suc n) = let here = pair_at_most l (after_pairs l rows r n) r n in let before = pairs_at_most l rows r n in omega (arith, here, before)

rows_at_most : (l : Plain) (rows : List (List ℕ)) (n : ℕ) → crossings l (after_rows l rows n) ≤ crossings l rows
rows_at_most l rows zero = omega arith
rows_at_most l rows (suc n) =
    let here = pairs_at_most l (after_rows l rows n) n (length (row_at (after_rows l rows n) n) - 1) in
    let before = rows_at_most l rows n in
    omega (arith, here, before)

settles_at_most : (l : Plain) (a b : List (List ℕ)) → SettlesTo l a b → crossings l b ≤ crossings l a
settles_at_most l a b (at_rest _ none) = omega arith
settles_at_most l a b (again _ _ s) = let rest = settles_at_most l (after_rows l a (length a)) b s in let first = rows_at_most l a (length a) in omega (arith, rest, first)

-- ---- where no exchange lowers the crossings, the rows stay

pub pair_lowers : (l : Plain) (rows : List (List ℕ)) (r i : ℕ) → crossings l (exchanged rows r i) < crossings l rows → exchanged rows r i ≡ after_pair l rows r i
pair_lowers l rows r i fewer = elim (cases_Bool (nat_lt (crossings l (exchanged rows r i)) (crossings l rows))) [
  | inl t ↦ rw t refl
  | inr f ↦ absurd (let most = ltb-false _ _ f in omega (arith, most, fewer))
]

pub pair_stays : (l : Plain) (rows : List (List ℕ)) (r i : ℕ) → IsNoBetter l rows r i → rows ≡ after_pair l rows r i
pair_stays l rows r i none = elim (cases_Bool (nat_lt (crossings l (exchanged rows r i)) (crossings l rows))) [
  | inl t ↦ absurd (let less = ltb-true _ _ t in omega (arith, less, none))
  | inr f ↦ rw f refl
]

pairs_stay : (l : Plain) (rows : List (List ℕ)) (r n : ℕ) → NoneInRow l rows r → n ≤ length (row_at rows r) - 1 → rows ≡ after_pairs l rows r n
pairs_stay l rows r zero none h = refl
pairs_stay l rows r (suc n) none h =
    pair_stays l rows r n (none n (omega (arith, h))) ∙ ap (λ (x : List (List ℕ)). after_pair l x r n) (pairs_stay l rows r n none (omega (arith, h)))

-- one pair more, and all of them
pub pairs_more : (l : Plain) (rows now : List (List ℕ)) (r i : ℕ) → 1 ≤ i → now ≡ after_pairs l rows r (i - 1) → after_pair l now r (i - 1) ≡ after_pairs l rows r (i + 1 - 1)
pairs_more l rows now r i some is =
    let next : i + 1 - 1 ≡ suc (i - 1) = omega (arith, some) in
    rw next (ap (λ (x : List (List ℕ)). after_pair l x r (i - 1)) is)

pub pairs_done : (l : Plain) (rows now : List (List ℕ)) (r i : ℕ) → i - 1 ≡ length (row_at rows r) - 1 → now ≡ after_pairs l rows r (i - 1) → now ≡ after_row l rows r
pairs_done l rows now r i all is = is ∙ ap (λ (n : ℕ). after_pairs l rows r n) all

pub row_stays : (l : Plain) (rows : List (List ℕ)) (r : ℕ) → NoneInRow l rows r → rows ≡ after_row l rows r
row_stays l rows r none = pairs_stay l rows r (length (row_at rows r) - 1) none (omega arith)

-- one row more, and all of them
pub rows_more : (l : Plain) (rows now : List (List ℕ)) (r : ℕ) → now ≡ after_rows l rows r → after_row l now r ≡ after_rows l rows (r + 1)
rows_more l rows now r is = rw add-one (ap (λ (x : List (List ℕ)). after_row l x r) is)

pub rows_done : (l : Plain) (rows now : List (List ℕ)) (r : ℕ) → r ≡ length rows → now ≡ after_rows l rows r → now ≡ after_rows l rows (length rows)
rows_done l rows now r all is = is ∙ ap (λ (n : ℕ). after_rows l rows n) all

rows_stay : (l : Plain) (rows : List (List ℕ)) (n : ℕ) → NoBetterSwap l rows → n ≤ length rows → rows ≡ after_rows l rows n
rows_stay l rows zero none h = refl
rows_stay l rows (suc n) none h =
    row_stays l rows n (λ i k. none n i (omega (arith, h)) k) ∙ ap (λ (x : List (List ℕ)). after_row l x n) (rows_stay l rows n none (omega (arith, h)))

settles_stays : (l : Plain) (a b : List (List ℕ)) → NoBetterSwap l a → SettlesTo l a b → b ≡ a
settles_stays l a b none (at_rest _ k) = refl
settles_stays l a b none (again _ _ s) =
    let same = rows_stay l a (length a) none (omega arith) in
    settles_stays l (after_rows l a (length a)) b (subst (λ (x : List (List ℕ)). NoBetterSwap l x) same none) s ∙ sym same

pub first_alone : (l : Plain) (rows : List (List ℕ)) → IsFirstOfFewest l (rows ∷ []) rows
first_alone l rows = record { before = []; behind = []; splits = refl; fewer = search rules; at_most = search rules }

-- the five orders, by what their sweeps give
pub first_of_five : (l : Plain) (start one two three four rows : List (List ℕ)) → one ≡ forward_sweep l start → two ≡ backward_sweep l (forward_sweep l start) → three ≡ forward_sweep l two → four ≡ backward_sweep l (forward_sweep l two)
    → IsFirstOfFewest l (start ∷ one ∷ two ∷ three ∷ four ∷ []) rows → IsFirstOfFewest l (start ∷ sweep_orders l start) rows
first_of_five l start one two three four rows a b c d s =
    let e : one ∷ two ∷ three ∷ four ∷ [] ≡ sweep_orders l start = rw (d, c, b, a) refl in
    subst (λ (xs : List (List (List ℕ))). IsFirstOfFewest l (start ∷ xs) rows) e s

-- an order without crossings has at most those of any other
none_above : (l : Plain) (rows : List (List ℕ)) (os : List (List (List ℕ))) → crossings l rows ≡ 0 → AtMostOf l rows os
none_above l rows [] none = search rules
none_above l rows (o ∷ os) none = All-cons (λ (x : List (List ℕ)). crossings l rows ≤ crossings l x) o os (omega (arith, none)) (none_above l rows os none)

-- so it is the first of fewest crossings also where more orders follow
first_with_more : (l : Plain) (orders more : List (List (List ℕ))) (rows : List (List ℕ)) → crossings l rows ≡ 0 → IsFirstOfFewest l orders rows → IsFirstOfFewest l (orders ++ more) rows
first_with_more l orders more rows none s =
    record {
      before = s.before;
      behind = s.behind ++ more;
      splits = sym (append_assoc s.before (rows ∷ s.behind) more) ∙ ap (λ (xs : List (List (List ℕ))). xs ++ more) s.splits;
      fewer = s.fewer;
      at_most = none_above l rows (s.behind ++ more) none;
    }

-- found after one sweep, and after two
pub first_of_two : (l : Plain) (start one rows : List (List ℕ)) → one ≡ forward_sweep l start → crossings l rows ≡ 0 → IsFirstOfFewest l (start ∷ one ∷ []) rows → IsFirstOfFewest l (start ∷ sweep_orders l start) rows
first_of_two l start one rows a none s =
    first_of_five l start one (backward_sweep l (forward_sweep l start)) (forward_sweep l (backward_sweep l (forward_sweep l start))) (backward_sweep l (forward_sweep l (backward_sweep l (forward_sweep l start)))) rows
    a refl refl refl
    (first_with_more l (start ∷ one ∷ []) (backward_sweep l (forward_sweep l start) ∷ forward_sweep l (backward_sweep l (forward_sweep l start)) ∷ backward_sweep l (forward_sweep l (backward_sweep l (forward_sweep l start))) ∷ []) rows none s)

pub first_of_three : (l : Plain) (start one two rows : List (List ℕ)) → one ≡ forward_sweep l start → two ≡ backward_sweep l (forward_sweep l start) → crossings l rows ≡ 0 → IsFirstOfFewest l (start ∷ one ∷ two ∷ []) rows → IsFirstOfFewest l (start ∷ sweep_orders l start) rows
first_of_three l start one two rows a b none s =
    first_of_five l start one two (forward_sweep l two) (backward_sweep l (forward_sweep l two)) rows a b refl refl
    (first_with_more l (start ∷ one ∷ two ∷ []) (forward_sweep l two ∷ backward_sweep l (forward_sweep l two) ∷ []) rows none s)

-- without crossings no exchange lowers them
pub none_settled : (l : Plain) (rows : List (List ℕ)) → crossings l rows ≡ 0 → NoBetterSwap l rows
none_settled l rows none = λ r i hr hi. omega (arith, none)

pub kept_or_fewer_trans : (l : Plain) (a b c : List (List ℕ)) → IsKeptOrFewer l a b → IsKeptOrFewer l b c → IsKeptOrFewer l a c
kept_or_fewer_trans l a b c (inl e) (inl f) = inl (f ∙ e)
kept_or_fewer_trans l a b c (inl e) (inr f) = inr (let same = ap (crossings l) e in omega (arith, same, f))
kept_or_fewer_trans l a b c (inr e) (inl f) = inr (let same = ap (crossings l) f in omega (arith, same, e))
kept_or_fewer_trans l a b c (inr e) (inr f) = inr (omega (arith, e, f))

first_at_most : (l : Plain) (orders : List (List (List ℕ))) (rows : List (List ℕ)) → IsFirstOfFewest l orders rows → AtMostOf l rows orders
first_at_most l orders rows s =
    subst (λ (xs : List (List (List ℕ))). AtMostOf l rows xs) s.splits
    (All-append (λ (o : List (List ℕ)). crossings l rows ≤ crossings l o) s.before (rows ∷ s.behind)
    (All-weaker (λ (o : List (List ℕ)). crossings l rows < crossings l o) (λ (o : List (List ℕ)). crossings l rows ≤ crossings l o) (λ o k. omega (arith, k)) s.before s.fewer)
    (All-cons (λ (o : List (List ℕ)). crossings l rows ≤ crossings l o) rows s.behind (omega arith) s.at_most))

-- a search from a settled order, and the exchanges after it
pub exchanged_fewer : (l : Plain) (reached best rows : List (List ℕ)) → NoBetterSwap l reached → IsKeptOrFewer l reached best → SettlesTo l best rows → IsKeptOrFewer l reached rows
exchanged_fewer l reached best rows none (inl e) last = inl (settles_stays l reached rows none (subst (λ (xs : List (List ℕ)). SettlesTo l xs rows) e last))
exchanged_fewer l reached best rows none (inr h) last = inr (let fewer = settles_at_most l best rows last in omega (arith, h, fewer))

-- a search from a settled order that finds none with fewer crossings
pub kept_settled : (l : Plain) (kept best : List (List ℕ)) → NoBetterSwap l kept → IsKeptOrFewer l kept best → crossings l best ≡ crossings l kept → NoBetterSwap l best
kept_settled l kept best none (inl e) same = subst (λ (xs : List (List ℕ)). NoBetterSwap l xs) (sym e) none
kept_settled l kept best none (inr h) same = absurd (omega (arith, h, same))

-- the exchanges of the first of fewest crossings, and what a search makes of these
pub reduced_found : (l : Plain) (start swept reached rows : List (List ℕ)) → IsFirstOfFewest l (start ∷ sweep_orders l start) swept → SettlesTo l swept reached
    → IsKeptOrFewer l reached rows → IsExchangedFromFewest l start rows
reduced_found l start swept reached rows first settles kept =
    record {
      reached = reached;
      from_fewest = record { from = swept; first = first; settles = settles };
      kept_or_fewer = kept;
    }

reduced_at_most : (l : Plain) (start rows : List (List ℕ)) → IsExchangedFromFewest l start rows → AtMostOf l rows (start ∷ sweep_orders l start)
reduced_at_most l start rows s =
    let low = settles_at_most l s.from_fewest.from s.reached s.from_fewest.settles in
    let here : crossings l rows ≤ crossings l s.reached = elim s.kept_or_fewer [
      | inl e ↦ (let same = ap (crossings l) e in omega (arith, same))
      | inr h ↦ omega (arith, h)
    ] in
    All-weaker (λ (o : List (List ℕ)). crossings l s.from_fewest.from ≤ crossings l o) (λ (o : List (List ℕ)). crossings l rows ≤ crossings l o) (λ o k. omega (arith, k, low, here)) (start ∷ sweep_orders l start)
    (first_at_most l (start ∷ sweep_orders l start) s.from_fewest.from s.from_fewest.first)

reduced_no_more : (l : Plain) (start rows : List (List ℕ)) → IsExchangedFromFewest l start rows → crossings l rows ≤ crossings l start
reduced_no_more l start rows s = All-head (λ (o : List (List ℕ)). crossings l rows ≤ crossings l o) start (sweep_orders l start) (reduced_at_most l start rows s)

reduced_sweeps : (l : Plain) (start rows : List (List ℕ)) → IsExchangedFromFewest l start rows → AtMostOf l rows (sweep_orders l start)
reduced_sweeps l start rows s = All-tail (λ (o : List (List ℕ)). crossings l rows ≤ crossings l o) start (sweep_orders l start) (reduced_at_most l start rows s)

-- all that is said of an order that reduces the crossings
pub is_reduced : (l : Plain) (start rows : List (List ℕ)) → HasSameRows start rows → NoBetterSwap l rows → IsExchangedFromFewest l start rows → (crossings l start ≡ 0 → rows ≡ start) → IsReduced l start rows
is_reduced l start rows same settled from without =
    record {
      same_rows = same;
      no_more = reduced_no_more l start rows from;
      sweeps = reduced_sweeps l start rows from;
      settled = settled;
      from_fewest = from;
      without_crossings = without;
    }

-- a start without crossings
exchanged_at_once : (l : Plain) (start : List (List ℕ)) → crossings l start ≡ 0 → IsExchangedFromFewest l start start
exchanged_at_once l start none =
    record {
      reached = start;
      from_fewest = record {
        from = start;
        first = record { before = []; behind = sweep_orders l start; splits = refl; fewer = search rules; at_most = none_above l start (sweep_orders l start) none };
        settles = at_rest start (none_settled l start none);
      };
      kept_or_fewer = inl refl;
    }

pub reduced_at_once : (l : Plain) (start : List (List ℕ)) → HasSameRows start start → crossings l start ≡ 0 → IsReduced l start start
reduced_at_once l start same none = is_reduced l start start same (none_settled l start none) (exchanged_at_once l start none) (λ e. refl)
