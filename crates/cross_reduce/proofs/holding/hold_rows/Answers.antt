use Rattle.std.proofs.Common.{List, ℕ, arith, inl, inr, subst, sym}
use Rattle.std.proofs.lemmas.Bool.{cases_eq}
use Rattle.elk_layers.specs.Layered.{rows_of, row_at}
use Rattle.cross_reduce.specs.Held.{IsHeldRow}
use Rattle.cross_reduce.proofs.StateLemmas.{same_refl, same_trans}
use Rattle.cross_reduce.proofs.holding.hold_rows.Goals as goal

pub loop-r-init : goal.loop-r-init
loop-r-init c = record { same = same_refl (rows_of c.args.order.now); ascends = λ g h. absurd (omega (arith, h)) }

pub hold_row-requires : goal.hold_row-requires
hold_row-requires c = let same = c.loop-r.invariant.same.as_many in omega (arith, same, c.requires, c.loop-r-test.true)

pub loop-r-preserved : goal.loop-r-preserved
loop-r-preserved c =
    record {
      same = same_trans (rows_of c.args.order.now) (rows_of c.loop-r.order) (rows_of c.hold_row.new.order) c.loop-r.invariant.same c.in_ok-hold_row.ensures.same;
      ascends = λ g h. elim (cases_eq g c.loop-r.r) [
        | inl e ↦ subst (λ (x : ℕ). IsHeldRow c.args.held.now (row_at (rows_of c.hold_row.new.order) x)) (sym e) c.in_ok-hold_row.ensures.ascends
        | inr n ↦ subst (λ (row : List ℕ). IsHeldRow c.args.held.now row) (sym (c.in_ok-hold_row.ensures.others g n)) (c.loop-r.invariant.ascends g (omega (arith, h, n)))
      ];
    }

pub returns-clause-ascends : goal.returns-clause-ascends
returns-clause-ascends c = λ r h. let same = c.loop-r.invariant.same.as_many in c.loop-r.invariant.ascends r (omega (arith, same, c.requires, h, c.loop-r-test.false))
