use Rattle.std.proofs.Common.{◌≡◌, ◌++◌, ◌∷◌, [], pos, map, get_or, arith, ap, sym, ◌∙◌, to_z, w64}
use Rattle.std.proofs.lemmas.Int.{ints}
use Rattle.std.proofs.lemmas.List.{map_more, take_all}
use Rattle.ns_place.proofs.closing.as_tops.Goals as goal

pub loop-n-preserved : goal.loop-n-preserved
loop-n-preserved c =
    let h = c.loop-n-test.true in
    let xs = c.args.closed.now in
    let n = get_or xs c.loop-n.n-index 0 in
    let small = c.requires c.loop-n.n-index 0 h in
    let is : to_z w64 n ≡ pos n = omega (arith, ints, small) in
    c.in_ok-push.ensures.items ∙ ap (λ z. c.loop-n.top.items ++ z ∷ []) is ∙ ap (λ zs. zs ++ pos n ∷ []) c.loop-n.invariant ∙ sym (map_more pos xs c.loop-n.n-index 0 h)

pub returns : goal.returns
returns c = c.loop-n.invariant ∙ ap (map pos) (take_all c.loop-n.n-index c.args.closed.now (omega arith))
