use Rattle.std.proofs.Common.{◌+◌, ◌<◌, ℕ, arith, inl, inr, refl, subst, sym, ◌∙◌}
use Rattle.std.proofs.lemmas.Bool.{cases_eq}
use Rattle.elk_layers.specs.Layered.{plain, rows_of}
use Rattle.cross_reduce.specs.Held.{NoneFreeInRow}
use Rattle.cross_reduce.proofs.LoweringLemmas.{rows_more, rows_done}
use Rattle.cross_reduce.proofs.StateLemmas.{same_refl, same_trans, tried_more}
use Rattle.cross_reduce.proofs.exchanging.try_rows.Goals as goal

pub loop-r-preserved : goal.loop-r-preserved
loop-r-preserved c =
    record {
      state = c.in_ok-now.ensures.state;
      settled = c.in_ok-now.ensures.settled;
      same = same_trans (rows_of c.args.state.now.order) (rows_of c.loop-r.state.order) (rows_of c.try_unsettled.new.state.order) c.loop-r.invariant.same c.in_ok-now.ensures.same;
      after = λ none. c.in_ok-now.ensures.after none ∙ rows_more (plain c.args.layered.now) (rows_of c.args.state.now.order) (rows_of c.loop-r.state.order) c.loop-r.r (c.loop-r.invariant.after none);
      ascends = λ before. c.in_ok-now.ensures.ascends (c.loop-r.invariant.ascends before);
      tried = rw c.either-changed.ensures
          (tried_more (plain c.args.layered.now) (rows_of c.args.state.now.order) (rows_of c.loop-r.state.order) (rows_of c.try_unsettled.new.state.order) c.loop-r.changed c.in_ok-now.now
          ((g : ℕ) → g < c.loop-r.r → NoneFreeInRow (plain c.args.layered.now) c.args.held.now (rows_of c.args.state.now.order) g)
          ((g : ℕ) → g < c.loop-r.r + 1 → NoneFreeInRow (plain c.args.layered.now) c.args.held.now (rows_of c.args.state.now.order) g)
          (λ rows. NoneFreeInRow (plain c.args.layered.now) c.args.held.now rows c.loop-r.r) c.loop-r.invariant.tried c.in_ok-now.ensures.tried
          (λ before here g h. elim (cases_eq g c.loop-r.r) [
            | inl e ↦ subst (λ (x : ℕ). NoneFreeInRow (plain c.args.layered.now) c.args.held.now (rows_of c.args.state.now.order) x) (sym e) here
            | inr n ↦ before g (omega (arith, h, n))
          ]));
    }

pub loop-r-init : goal.loop-r-init
loop-r-init c =
    record { state = c.requires.state; settled = c.requires.settled; same = same_refl (rows_of c.args.state.now.order); after = λ none. refl; ascends = λ before. before; tried = (refl, λ g h. absurd (omega (arith, h))) }

pub returns-clause-after : goal.returns-clause-after
returns-clause-after c = λ none.
    rows_done (plain c.args.layered.now) (rows_of c.args.state.now.order) (rows_of c.loop-r.state.order) c.loop-r.r (omega (arith, c.loop-r-test.false, c.loop-r.auto.r-end, c.requires.state.are_rows.as_many)) (c.loop-r.invariant.after none)
