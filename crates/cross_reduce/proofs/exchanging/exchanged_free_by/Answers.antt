use Rattle.std.proofs.Common.{rules, subst, sym}
use Rattle.elk_layers.specs.Layered.{plain, rows_of}
use Rattle.cross_reduce.specs.Reduced.{SettlesTo, at_rest, again}
use Rattle.cross_reduce.specs.Held.{AreHeldRows, NoBetterFreeSwap}
use Rattle.cross_reduce.proofs.StateLemmas.{same_refl, same_trans, tried_same}
use Rattle.cross_reduce.proofs.SettledLemmas.{settled_start}
use Rattle.cross_reduce.proofs.HeldLemmas.{none_better}
use Rattle.cross_reduce.proofs.exchanging.exchanged_free_by.Goals as goal

pub loop-changed-preserved : goal.loop-changed-preserved
loop-changed-preserved c =
    record {
      state = c.in_ok-changed.ensures.state;
      flags = c.in_ok-changed.ensures.settled;
      same = same_trans (rows_of c.in_ok-state.state.order) (rows_of c.loop-changed.state.order) (rows_of c.try_rows.new.state.order) c.loop-changed.invariant.same c.in_ok-changed.ensures.same;
      settles = λ none b rest. c.loop-changed.invariant.settles none b (again (rows_of c.loop-changed.state.order) b (subst (λ rows. SettlesTo (plain c.args.layered.now) rows b) (c.in_ok-changed.ensures.after none) rest));
      ascends = λ before. c.in_ok-changed.ensures.ascends (c.loop-changed.invariant.ascends before);
      settled = tried_same (plain c.args.layered.now) (rows_of c.loop-changed.state.order) (rows_of c.try_rows.new.state.order) c.in_ok-changed.changed (λ rows. NoBetterFreeSwap (plain c.args.layered.now) c.args.held.now rows) c.in_ok-changed.ensures.tried;
    }

pub returns-clause-settles : goal.returns-clause-settles
returns-clause-settles c = λ none.
    subst (λ rows. SettlesTo (plain c.args.layered.now) rows (rows_of c.loop-changed.state.order)) c.in_ok-state.ensures.order
    (c.loop-changed.invariant.settles none (rows_of c.loop-changed.state.order) (at_rest (rows_of c.loop-changed.state.order) (none_better (plain c.args.layered.now) c.args.held.now (rows_of c.loop-changed.state.order) none (c.loop-changed.invariant.settled (search rules)))))

pub loop-changed-init : goal.loop-changed-init
loop-changed-init c =
    record {
      state = c.in_ok-state.ensures.state;
      flags = rw (c.in_ok-settled.ensures.items_if_clones_equal (λ y e. search rules))
          (settled_start (plain c.args.layered.now) c.args.held.now (rows_of c.in_ok-state.state.order) _ (sym c.in_ok-state.ensures.state.are_rows.as_many));
      same = same_refl (rows_of c.in_ok-state.state.order);
      settles = λ none b rest. rest;
      ascends = λ before. before;
      settled = λ e. absurd cc;
    }

pub returns-clause-ascends : goal.returns-clause-ascends
returns-clause-ascends c = subst (λ rows. AreHeldRows c.args.held.now rows → AreHeldRows c.args.held.now (rows_of c.loop-changed.state.order)) c.in_ok-state.ensures.order c.loop-changed.invariant.ascends
