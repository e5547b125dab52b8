use Rattle.std.proofs.Common.{◌∙◌, sym, ap, nat_lt, arith}
use Rattle.std.proofs.Math.ListN.{get_or-map}
use Rattle.std.proofs.lemmas.List.{length-map}
use Rattle.std.proofs.lemmas.List.Sums.{sum_by_more}
use Rattle.std.specs.List.{count_by}
use Rattle.cross_reduce.specs.declared.fans.Far.{Far}
use Rattle.cross_reduce.specs.Fans.{far_key, far_keys}
use Rattle.cross_reduce.proofs.exchanging.crossed.Goals as goal

pub loop-far-preserved : goal.loop-far-preserved
loop-far-preserved c =
    let none : Far = record { unit = 0; rank = 0 } in
    let long = length-map c.args.lower.now (far_key c.args.place.now) in
    let at = get_or-map (far_key c.args.place.now) c.args.lower.now c.loop-far.far-index none in
    let more = sum_by_more (λ y. count_by (λ x. nat_lt y x) (far_keys c.args.place.now c.args.upper.now)) (far_keys c.args.place.now c.args.lower.now) c.loop-far.far-index (far_key c.args.place.now none) (omega (arith, long, c.loop-far-test.true)) in
    let one = c.keys_over-total.ensures.value ∙ ap (λ y. count_by (λ x. nat_lt y x) (far_keys c.args.place.now c.args.upper.now)) (c.key_of.ensures ∙ sym at) in
    record {
      value = omega (arith, more, one, c.loop-far.invariant.value);
      bound = omega (arith, c.keys_over-total.ensures.bound, c.requires.upper.few, c.loop-far.invariant.bound);
    }
