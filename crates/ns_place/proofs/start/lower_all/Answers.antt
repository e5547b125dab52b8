use Rattle.std.proofs.Common.{◌++◌, ◌∷◌, [], pos, map, arith, rules, ap, sym, ◌∙◌, w64, FitsSigned, to_z-of_z}
use Rattle.std.proofs.lemmas.Int.{ints}
use Rattle.std.proofs.lemmas.List.{map_more, take_all}
use Rattle.elk_layers.specs.Lines.{top_of}
use Rattle.ns_place.specs.Start.{lowered}
use Rattle.ns_place.proofs.start.lower_all.Goals as goal

pub loop-t-preserved : goal.loop-t-preserved
loop-t-preserved c =
    let h = c.loop-t-test.true in
    let xs = c.args.top.now in
    let small = c.requires c.loop-t.t-index (pos 0) h in
    let fits : FitsSigned w64 (top_of xs c.loop-t.t-index) = omega (arith, ints, small.0, small.1) in
    let fits_low : FitsSigned w64 c.lower.result = search rules in
    let is = rw (to_z-of_z fits) at c.lower.ensures in
    let pushed = rw (to_z-of_z fits_low) at c.in_ok-push.ensures.items in
    pushed ∙ ap (λ z. c.loop-t.low.items ++ z ∷ []) is ∙ ap (λ zs. zs ++ lowered (top_of xs c.loop-t.t-index) ∷ []) c.loop-t.invariant ∙ sym (map_more lowered xs c.loop-t.t-index (pos 0) h)

pub returns : goal.returns
returns c = c.loop-t.invariant ∙ ap (map lowered) (take_all c.loop-t.t-index c.args.top.now (omega arith))
