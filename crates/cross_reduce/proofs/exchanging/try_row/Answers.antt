use Rattle.std.proofs.Common.{◌+◌, ◌-◌, ◌<◌, ℕ, arith, inl, inr, refl, subst, sym, ◌∙◌}
use Rattle.std.proofs.lemmas.Bool.{cases_eq}
use Rattle.std.proofs.lemmas.List.Sorted.{length_permutation}
use Rattle.elk_layers.specs.Layered.{plain, rows_of, row_at}
use Rattle.cross_reduce.specs.Held.{IsNoBetterFree}
use Rattle.cross_reduce.proofs.LoweringLemmas.{pairs_more, pairs_done}
use Rattle.cross_reduce.proofs.StateLemmas.{same_refl, same_trans, tried_more}
use Rattle.cross_reduce.proofs.exchanging.try_row.Goals as goal

pub try_exchange-requires-clause-place : goal.try_exchange-requires-clause-place
try_exchange-requires-clause-place c =
    let e = length_permutation (row_at (rows_of c.args.state.now.order) c.args.r) (row_at (rows_of c.loop-i.state.order) c.args.r) (c.loop-i.invariant.same.permuted c.args.r c.requires.row) in
    omega (arith, e, c.loop-i-test.true, c.loop-i.auto.i, c.row_len-len.ensures)

pub loop-i-preserved : goal.loop-i-preserved
loop-i-preserved c =
    record {
      state = c.in_ok-now.ensures.state;
      same = same_trans (rows_of c.args.state.now.order) (rows_of c.loop-i.state.order) (rows_of c.try_exchange.new.state.order) c.loop-i.invariant.same c.in_ok-now.ensures.same;
      after = λ none. c.in_ok-now.ensures.after none ∙ pairs_more (plain c.args.layered.now) (rows_of c.args.state.now.order) (rows_of c.loop-i.state.order) c.args.r c.loop-i.i c.loop-i.auto.i (c.loop-i.invariant.after none);
      ascends = λ before. c.in_ok-now.ensures.ascends (c.loop-i.invariant.ascends before);
      tried = rw c.either-changed.ensures
          (tried_more (plain c.args.layered.now) (rows_of c.args.state.now.order) (rows_of c.loop-i.state.order) (rows_of c.try_exchange.new.state.order) c.loop-i.changed c.in_ok-now.now
          ((k : ℕ) → k + 1 < c.loop-i.i → IsNoBetterFree (plain c.args.layered.now) c.args.held.now (rows_of c.args.state.now.order) c.args.r k)
          ((k : ℕ) → k + 1 < c.loop-i.i + 1 → IsNoBetterFree (plain c.args.layered.now) c.args.held.now (rows_of c.args.state.now.order) c.args.r k)
          (λ rows. IsNoBetterFree (plain c.args.layered.now) c.args.held.now rows c.args.r (c.loop-i.i - 1)) c.loop-i.invariant.tried c.in_ok-now.ensures.tried
          (λ before here k h. elim (cases_eq k (c.loop-i.i - 1)) [
            | inl e ↦ subst (λ (x : ℕ). IsNoBetterFree (plain c.args.layered.now) c.args.held.now (rows_of c.args.state.now.order) c.args.r x) (sym e) here
            | inr n ↦ before k (omega (arith, h, n))
          ]));
      end = inr (omega (arith, c.loop-i-test.true, c.row_len-len.ensures));
      others = λ g n. c.in_ok-now.ensures.others g n ∙ c.loop-i.invariant.others g n;
    }

pub loop-i-init : goal.loop-i-init
loop-i-init c =
    record { state = c.requires.state; same = same_refl (rows_of c.args.state.now.order); after = λ none. refl; ascends = λ before. before; end = inl refl; tried = (refl, λ k h. absurd (omega (arith, h))); others = λ g n. refl }

pub returns-clause-after : goal.returns-clause-after
returns-clause-after c = λ none.
    pairs_done (plain c.args.layered.now) (rows_of c.args.state.now.order) (rows_of c.loop-i.state.order) c.args.r c.loop-i.i
    (elim c.loop-i.invariant.end [ inl one ↦ omega (arith, one, c.loop-i-test.false, c.row_len-len.ensures) | inr most ↦ omega (arith, most, c.loop-i-test.false, c.row_len-len.ensures) ])
    (c.loop-i.invariant.after none)
