use Rattle.std.proofs.Common.{map, subst, sym}
use Rattle.std.specs.List.Sorted.{IsPermutation}
use Rattle.std.proofs.lemmas.Result.{IfOk-weaker}
use Rattle.std.proofs.lemmas.List.Sorted.{IsPermutation-map}
use Rattle.cross_reduce.specs.declared.ordering.Keyed.{Keyed}
use Rattle.cross_reduce.proofs.ordering.by_keys.Goals as goal

pub returns : goal.returns
returns c =
    let p = IsPermutation-map (λ (k : Keyed). k.unit) c.in_ok-list.list.items c.sort_by_key.new.self.items c.in_ok-sort_by_key.ensures.permutation in
    IfOk-weaker c.units.result _ _
    (λ v e. subst (λ xs. IsPermutation xs v.items) c.in_ok-list.ensures
    (subst (λ xs. IsPermutation (map (λ (k : Keyed). k.unit) c.in_ok-list.list.items) xs) (sym (rw c.as_slice.ensures.value at e)) p))
    c.units.ensures
