use Rattle.std.proofs.Common.{◌≡◌, ◌∷◌, ◌∙◌, ℕ, List, subst, sym, inl, refl}
use Rattle.elk_layers.specs.Layered.{Plain, plain, rows_of}
use Rattle.elk_layers.specs.declared.units.Order.{Order}
use Rattle.elk_layers.specs.Crossings.{HasSameRows}
use Rattle.elk_layers.specs.Sweeps.{sweep_orders}
use Rattle.cross_reduce.specs.Reduced.{IsFirstOfFewest, IsReduced}
use Rattle.cross_reduce.proofs.RowLemmas.{rows_permuted}
use Rattle.cross_reduce.proofs.LoweringLemmas.{is_reduced, reduced_at_once, reduced_found, kept_or_fewer_trans}
use Rattle.cross_reduce.proofs.StateLemmas.{same_refl, same_trans}
use Rattle.cross_reduce.proofs.reducing.reduce_with_effort.Goals as goal

-- what is said of the start as it was counted, of the start itself
same_from : (start kept : Order) (rows : List (List ℕ)) → kept ≡ start → HasSameRows (rows_of kept) rows → HasSameRows (rows_of start) rows
same_from start kept rows e same = subst (λ order. HasSameRows (rows_of order) rows) e same

first_from : (l : Plain) (start kept : Order) (rows : List (List ℕ)) → kept ≡ start → IsFirstOfFewest l (rows_of kept ∷ sweep_orders l (rows_of kept)) rows → IsFirstOfFewest l (rows_of start ∷ sweep_orders l (rows_of start)) rows
first_from l start kept rows e first = subst (λ order. IsFirstOfFewest l (rows_of order ∷ sweep_orders l (rows_of order)) rows) e first

pub settled_from-requires-clause-rows : goal.settled_from-requires-clause-rows
settled_from-requires-clause-rows c =
    rows_permuted (plain c.args.layered.now) (rows_of c.args.start) (rows_of c.in_ok-swept.swept.order) c.requires.sound.layers_are c.requires.rows
    (same_from c.args.start c.in_ok-start.start.order (rows_of c.in_ok-swept.swept.order) c.in_ok-start.ensures.order c.in_ok-swept.ensures.same_rows)

pub searched-requires-clause-rows : goal.searched-requires-clause-rows
searched-requires-clause-rows c =
    rows_permuted (plain c.args.layered.now) (rows_of c.args.start) (rows_of c.in_ok-settled.settled) c.requires.sound.layers_are c.requires.rows
    (same_trans (rows_of c.args.start) (rows_of c.in_ok-swept.swept.order) (rows_of c.in_ok-settled.settled)
    (same_from c.args.start c.in_ok-start.start.order (rows_of c.in_ok-swept.swept.order) c.in_ok-start.ensures.order c.in_ok-swept.ensures.same_rows) c.in_ok-settled.ensures.same)

pub searched_on-requires-clause-rows : goal.searched_on-requires-clause-rows
searched_on-requires-clause-rows c =
    rows_permuted (plain c.args.layered.now) (rows_of c.args.start) (rows_of c.in_ok-found.found) c.requires.sound.layers_are c.requires.rows
    (same_trans (rows_of c.args.start) (rows_of c.in_ok-settled.settled) (rows_of c.in_ok-found.found)
    (same_trans (rows_of c.args.start) (rows_of c.in_ok-swept.swept.order) (rows_of c.in_ok-settled.settled)
    (same_from c.args.start c.in_ok-start.start.order (rows_of c.in_ok-swept.swept.order) c.in_ok-start.ensures.order c.in_ok-swept.ensures.same_rows) c.in_ok-settled.ensures.same) c.in_ok-found.ensures.same)

pub returns-then-start-eq0 : goal.returns-then-start-eq0
returns-then-start-eq0 c =
    subst (λ order. IsReduced (plain c.args.layered.now) (rows_of c.args.start) (rows_of order)) (sym c.in_ok-start.ensures.order)
    (reduced_at_once (plain c.args.layered.now) (rows_of c.args.start) (same_refl (rows_of c.args.start)) (sym c.in_ok-start.ensures.crossings ∙ c.if-start-eq0.true))

pub returns-then-is_done : goal.returns-then-is_done
returns-then-is_done c =
    is_reduced (plain c.args.layered.now) (rows_of c.args.start) (rows_of c.in_ok-settled.settled)
    (same_trans (rows_of c.args.start) (rows_of c.in_ok-swept.swept.order) (rows_of c.in_ok-settled.settled) (same_from c.args.start c.in_ok-start.start.order (rows_of c.in_ok-swept.swept.order) c.in_ok-start.ensures.order c.in_ok-swept.ensures.same_rows) c.in_ok-settled.ensures.same)
    c.in_ok-settled.ensures.settled
    (reduced_found (plain c.args.layered.now) (rows_of c.args.start) (rows_of c.in_ok-swept.swept.order) (rows_of c.in_ok-settled.settled) (rows_of c.in_ok-settled.settled) (first_from (plain c.args.layered.now) c.args.start c.in_ok-start.start.order (rows_of c.in_ok-swept.swept.order) c.in_ok-start.ensures.order c.in_ok-swept.ensures.first) c.in_ok-settled.ensures.settles (inl refl))
    (λ none. absurd (c.if-start-eq0.false (c.in_ok-start.ensures.crossings ∙ none)))

pub returns : goal.returns
returns c =
    let settled = same_trans (rows_of c.args.start) (rows_of c.in_ok-swept.swept.order) (rows_of c.in_ok-settled.settled) (same_from c.args.start c.in_ok-start.start.order (rows_of c.in_ok-swept.swept.order) c.in_ok-start.ensures.order c.in_ok-swept.ensures.same_rows) c.in_ok-settled.ensures.same in
    let found = same_trans (rows_of c.args.start) (rows_of c.in_ok-settled.settled) (rows_of c.in_ok-found.found) settled c.in_ok-found.ensures.same in
    let fewer = kept_or_fewer_trans (plain c.args.layered.now) (rows_of c.in_ok-settled.settled) (rows_of c.in_ok-found.found) (rows_of c.in_ok-best.best) c.in_ok-found.ensures.fewer c.in_ok-best.ensures.fewer in
    is_reduced (plain c.args.layered.now) (rows_of c.args.start) (rows_of c.in_ok-best.best)
    (same_trans (rows_of c.args.start) (rows_of c.in_ok-found.found) (rows_of c.in_ok-best.best) found c.in_ok-best.ensures.same) c.in_ok-best.ensures.settled
    (reduced_found (plain c.args.layered.now) (rows_of c.args.start) (rows_of c.in_ok-swept.swept.order) (rows_of c.in_ok-settled.settled) (rows_of c.in_ok-best.best) (first_from (plain c.args.layered.now) c.args.start c.in_ok-start.start.order (rows_of c.in_ok-swept.swept.order) c.in_ok-start.ensures.order c.in_ok-swept.ensures.first) c.in_ok-settled.ensures.settles fewer)
    (λ none. absurd (c.if-start-eq0.false (c.in_ok-start.ensures.crossings ∙ none)))
