use Rattle.std.proofs.Common.{◌∙◌, sym, ap, cond, nat_lt, arith}
use Rattle.std.proofs.Math.ListN.{get_or-map}
use Rattle.std.proofs.lemmas.List.{length-map}
use Rattle.std.proofs.lemmas.List.Sums.{sum_by_more}
use Rattle.cross_reduce.specs.declared.fans.Far.{Far}
use Rattle.cross_reduce.specs.Fans.{far_key, far_keys}
use Rattle.cross_reduce.proofs.exchanging.keys_over.Goals as goal

pub loop-far-preserved : goal.loop-far-preserved
loop-far-preserved c =
    let none : Far = record { unit = 0; rank = 0 } in
    let long = length-map c.args.fan.now (far_key c.args.place.now) in
    let at = get_or-map (far_key c.args.place.now) c.args.fan.now c.loop-far.far-index none in
    let more = sum_by_more (λ x. cond (nat_lt c.args.key x) 1 0) (far_keys c.args.place.now c.args.fan.now) c.loop-far.far-index (far_key c.args.place.now none) (omega (arith, long, c.loop-far-test.true)) in
    let one = c.one_if-total.ensures.value ∙ ap (λ k. cond (nat_lt c.args.key k) 1 0) (c.key_of.ensures ∙ sym at) in
    record {
      value = omega (arith, more, one, c.loop-far.invariant.value);
      bound = omega (arith, c.one_if-total.ensures.bound, c.loop-far.invariant.bound);
    }
