use Rattle.std.proofs.Common.{◌<◌, pos, map, length, arith, ◌∙◌, sym}
use Rattle.std.proofs.lemmas.List.{ext_get_or, get_or-map, length-map}
use Rattle.net_simplex.proofs.solving.as_layers.Goals as goal

pub returns : goal.returns
returns c =
    let sums = c.args.sums.now in
    let n = c.loop-v.invariant.0 in
    let t = c.loop-v-test.false in
    ext_get_or (pos 0) c.loop-v.layers.items (map pos sums) (n ∙ sym (length-map sums pos))
    (λ v l. let b : v < length sums = omega (arith, n, l) in c.loop-v.invariant.1 v (omega (arith, t, b)) ∙ sym (get_or-map pos sums v 0 (pos 0) b))
