use Rattle.std.proofs.Common.{sym, ap, ◌∙◌, subst, map}
use Rattle.std.proofs.lemmas.Result.{IfOk-weaker}
use Rattle.std.specs.List.Sorted.{IsPermutation}
use Rattle.port_order.specs.Order.{IsOrderOfSide}
use Rattle.port_order.proofs.OrderLemmas.{order_of_ranks}
use Rattle.port_order.proofs.ordering.order_side.Goals as goal

pub returns : goal.returns
returns c =
    let moved = subst (λ rs. IsPermutation rs c.sort_unstable.new.self.items) c.in_ok-ranks.ensures.ranks c.sort_unstable.ensures.permutation in
    IfOk-weaker c.numbers_of.result _ _ (λ order e. subst (λ ns. IsOrderOfSide c.args.child.now c.args.side c.args.spots.now ns) (sym (e ∙ ap (λ rs. map (λ r. r.number) rs) c.as_slice.ensures.value)) (order_of_ranks c.args.child.now c.args.side c.args.spots.now c.sort_unstable.new.self.items c.requires.spots c.in_ok-ranks.ensures.counts moved c.sort_unstable.ensures.sorted)) c.numbers_of.ensures
