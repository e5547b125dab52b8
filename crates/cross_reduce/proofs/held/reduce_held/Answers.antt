use Rattle.std.proofs.Common.{subst, sym}
use Rattle.std.proofs.lemmas.Result.{IfOk-weaker}
use Rattle.elk_layers.specs.Layered.{plain, rows_of}
use Rattle.elk_layers.specs.Crossings.{HasSameRows}
use Rattle.cross_reduce.specs.Held.{AreHeldRows}
use Rattle.cross_reduce.proofs.RowLemmas.{rows_permuted}
use Rattle.cross_reduce.proofs.StateLemmas.{same_trans}
use Rattle.cross_reduce.proofs.CandidateLemmas.{best_counted}
use Rattle.cross_reduce.proofs.held.reduce_held.Goals as goal

pub with_count-requires-clause-rows : goal.with_count-requires-clause-rows
with_count-requires-clause-rows c =
    rows_permuted (plain c.args.layered.now) (rows_of c.args.start) (rows_of c.in_ok-order.order) c.requires.sound.layers_are c.requires.rows c.in_ok-order.ensures.same_rows

pub searched-requires-clause-from : goal.searched-requires-clause-from
searched-requires-clause-from c =
    let are = rows_permuted (plain c.args.layered.now) (rows_of c.args.start) (rows_of c.in_ok-order.order) c.requires.sound.layers_are c.requires.rows c.in_ok-order.ensures.same_rows in
    record {
      best = best_counted (plain c.args.layered.now) c.in_ok-order.order c.in_ok-kept.kept are c.in_ok-kept.ensures.order c.in_ok-kept.ensures.crossings;
      ascends = subst (λ order. AreHeldRows c.args.held.now (rows_of order)) (sym c.in_ok-kept.ensures.order) c.in_ok-order.ensures.ascends;
    }

pub returns-clause-same_rows : goal.returns-clause-same_rows
returns-clause-same_rows c =
    let best = subst (λ order. HasSameRows (rows_of order) (rows_of c.in_ok-best.best.order)) c.in_ok-kept.ensures.order c.in_ok-best.ensures.best.same in
    let same = same_trans (rows_of c.args.start) (rows_of c.in_ok-order.order) (rows_of c.in_ok-best.best.order) c.in_ok-order.ensures.same_rows best in
    IfOk-weaker c.exchanged_free.result _ _ (λ o more. same_trans (rows_of c.args.start) (rows_of c.in_ok-best.best.order) (rows_of o) same more) c.exchanged_free.ensures.same
