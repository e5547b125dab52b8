use Rattle.std.proofs.Common.{◌≡◌, ◌++◌, ◌∷◌, [], pos, map, get_or, arith, ap, sym, ◌∙◌, to_z, w64}
use Rattle.std.proofs.lemmas.Int.{ints}
use Rattle.std.proofs.lemmas.List.{map_more, take_all}
use Rattle.flow_dual.proofs.start.as_layers.Goals as goal

pub loop-sum-preserved : goal.loop-sum-preserved
loop-sum-preserved c =
    let h = c.loop-sum-test.true in
    let xs = c.args.sums.now in
    let n = get_or xs c.loop-sum.sum-index 0 in
    let small = c.requires c.loop-sum.sum-index 0 h in
    let is : to_z w64 n ≡ pos n = omega (arith, ints, small) in
    c.in_ok-push.ensures.items ∙ ap (λ z. c.loop-sum.layer.items ++ z ∷ []) is ∙ ap (λ zs. zs ++ pos n ∷ []) c.loop-sum.invariant ∙ sym (map_more pos xs c.loop-sum.sum-index 0 h)

pub returns : goal.returns
returns c = c.loop-sum.invariant ∙ ap (map pos) (take_all c.loop-sum.sum-index c.args.sums.now (omega arith))
