use Rattle.std.proofs.Common.{subst, sym, rules}
use Rattle.std.specs.List.{filter}
use Rattle.std.specs.List.Sorted.{IsPermutation}
use Rattle.std.proofs.lemmas.Result.{IfOk-weaker}
use Rattle.std.proofs.lemmas.List.Sorted.{answers_always, length_permutation}
use Rattle.cross_reduce.specs.declared.holding.HeldUnit.{HeldUnit}
use Rattle.cross_reduce.specs.Held.{is_held, IsHeldRow}
use Rattle.cross_reduce.specs.HeldRows.{numbers_of}
use Rattle.cross_reduce.proofs.SweepLemmas.{refilled_is_permuted}
use Rattle.cross_reduce.proofs.HeldLemmas.{numbers_permuted, refilled_is_held, sorted_is_held, sorted_in_order}
use Rattle.cross_reduce.proofs.holding.held_row.Goals as goal

pub returns-clause-permuted : goal.returns-clause-permuted
returns-clause-permuted c =
    let units = subst (λ xs. IsPermutation xs c.sort_by_key.new.self.items) c.in_ok-units.ensures c.in_ok-sort_by_key.ensures.permutation in
    let numbers = numbers_permuted c.args.held.now c.args.row.now c.sort_by_key.new.self.items units in
    IfOk-weaker c.refill.result _ _
    (λ v e. subst (λ xs. IsPermutation c.args.row.now xs) (sym (rw c.as_slice.ensures.value at e)) (refilled_is_permuted (is_held c.args.held.now) c.args.row.now (numbers_of c.sort_by_key.new.self.items) numbers))
    c.refill.ensures

pub returns-clause-ascends : goal.returns-clause-ascends
returns-clause-ascends c =
    let units = subst (λ xs. IsPermutation xs c.sort_by_key.new.self.items) c.in_ok-units.ensures c.in_ok-sort_by_key.ensures.permutation in
    let numbers = numbers_permuted c.args.held.now c.args.row.now c.sort_by_key.new.self.items units in
    let up = c.in_ok-sort_by_key.ensures.sorted (λ (h : HeldUnit). (h.key, h.unit)) (answers_always _ _ _ (λ f a r q k. search rules)) in
    let is = sorted_is_held c.args.held.now c.args.row.now c.sort_by_key.new.self.items units (sorted_in_order c.sort_by_key.new.self.items up) in
    IfOk-weaker c.refill.result _ _
    (λ v e. subst (λ xs. IsHeldRow c.args.held.now xs) (sym (rw c.as_slice.ensures.value at e))
    (refilled_is_held c.args.held.now c.args.row.now (numbers_of c.sort_by_key.new.self.items) (length_permutation (filter (is_held c.args.held.now) c.args.row.now) (numbers_of c.sort_by_key.new.self.items) numbers) is))
    c.refill.ensures
