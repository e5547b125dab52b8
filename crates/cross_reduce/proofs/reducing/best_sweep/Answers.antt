use Rattle.std.proofs.Common.{List, ℕ, sym, ◌∙◌}
use Rattle.elk_layers.specs.Layered.{plain, rows_of}
use Rattle.cross_reduce.proofs.LoweringLemmas.{first_alone, first_of_two, first_of_three, first_of_five}
use Rattle.cross_reduce.proofs.StateLemmas.{same_refl, same_trans}
use Rattle.cross_reduce.proofs.reducing.best_sweep.Goals as goal

pub returns-clause-same_rows : goal.returns-clause-same_rows
returns-clause-same_rows c =
    let start : List (List ℕ) = rows_of c.args.start.order in
    let two : List (List ℕ) = rows_of c.in_ok-one.two in
    let best = c.in_ok-best.ensures.same start (same_refl start) c.in_ok-one.ensures.one_same in
    let best_2 = c.in_ok-best-2.ensures.same start best c.in_ok-one.ensures.two_same in
    let best_3 = c.in_ok-best-3.ensures.same start best_2 (same_trans start two (rows_of c.in_ok-three.three) c.in_ok-one.ensures.two_same c.in_ok-three.ensures.one_same) in
    c.in_ok-best-4.ensures.same start best_3 (same_trans start two (rows_of c.in_ok-three.four) c.in_ok-one.ensures.two_same c.in_ok-three.ensures.two_same)

pub returns-clause-first : goal.returns-clause-first
returns-clause-first c =
    first_of_five (plain c.args.layered.now) (rows_of c.args.start.order) (rows_of c.in_ok-one.one) (rows_of c.in_ok-one.two) (rows_of c.in_ok-three.three) (rows_of c.in_ok-three.four) (rows_of c.in_ok-best-4.best.order)
    c.in_ok-one.ensures.one c.in_ok-one.ensures.two c.in_ok-three.ensures.one c.in_ok-three.ensures.two
    (c.in_ok-best-4.ensures.first _ (c.in_ok-best-3.ensures.first _ (c.in_ok-best-2.ensures.first _ (c.in_ok-best.ensures.first _ (first_alone (plain c.args.layered.now) (rows_of c.args.start.order))))))

pub returns-then-best-eq0-clause-same_rows : goal.returns-then-best-eq0-clause-same_rows
returns-then-best-eq0-clause-same_rows c = c.in_ok-best.ensures.same (rows_of c.args.start.order) (same_refl (rows_of c.args.start.order)) c.in_ok-one.ensures.one_same

pub returns-then-best-eq0-clause-first : goal.returns-then-best-eq0-clause-first
returns-then-best-eq0-clause-first c =
    first_of_two (plain c.args.layered.now) (rows_of c.args.start.order) (rows_of c.in_ok-one.one) (rows_of c.in_ok-best.best.order) c.in_ok-one.ensures.one
    (sym c.in_ok-best.ensures.counted ∙ c.if-best-eq0.true)
    (c.in_ok-best.ensures.first _ (first_alone (plain c.args.layered.now) (rows_of c.args.start.order)))

pub returns-then-best-eq0-2-clause-same_rows : goal.returns-then-best-eq0-2-clause-same_rows
returns-then-best-eq0-2-clause-same_rows c =
    let start : List (List ℕ) = rows_of c.args.start.order in
    let best = c.in_ok-best.ensures.same start (same_refl start) c.in_ok-one.ensures.one_same in
    c.in_ok-best-2.ensures.same start best c.in_ok-one.ensures.two_same

pub returns-then-best-eq0-2-clause-first : goal.returns-then-best-eq0-2-clause-first
returns-then-best-eq0-2-clause-first c =
    first_of_three (plain c.args.layered.now) (rows_of c.args.start.order) (rows_of c.in_ok-one.one) (rows_of c.in_ok-one.two) (rows_of c.in_ok-best-2.best.order) c.in_ok-one.ensures.one c.in_ok-one.ensures.two
    (sym c.in_ok-best-2.ensures.counted ∙ c.if-best-eq0-2.true)
    (c.in_ok-best-2.ensures.first _ (c.in_ok-best.ensures.first _ (first_alone (plain c.args.layered.now) (rows_of c.args.start.order))))
