use Rattle.std.proofs.Common.{rules, FitsSigned, w64, to_z, of_z, arith, sym, subst}
use Rattle.std.proofs.lemmas.Int.{to_z-of_z}
use Rattle.network_laws.specs.Layering.{layer_of}
use Rattle.net_simplex.specs.Grown.{IsSmall}
use Rattle.net_simplex.proofs.AtEnd.{least_is, IsLoweredTo, lower_start, lower_more, lower_end}
use Rattle.net_simplex.proofs.solving.lower.Goals as goal

pub loop-v-init : goal.loop-v-init
loop-v-init c = lower_start (to_z w64 (of_z w64 c.least_of_all-least.result)) c.args.layers.now

pub loop-v-preserved : goal.loop-v-preserved
loop-v-preserved c =
    let by = c.least_of_all-least.result in
    let old = c.args.layers.now in
    let v = c.loop-v.v in
    let z = c.lowered_by.result in
    let fb : FitsSigned w64 by = search rules in
    let fz : FitsSigned w64 z = search rules in
    let fl : FitsSigned w64 (layer_of c.loop-v.layers v) = search rules in
    let s = subst (λ b. IsLoweredTo b old v c.loop-v.layers) (to_z-of_z w64 by fb) c.loop-v.invariant in
    let is = rw (to_z-of_z w64 (layer_of c.loop-v.layers v) fl, to_z-of_z w64 by fb) at c.lowered_by.ensures in
    rw (to_z-of_z w64 by fb, to_z-of_z w64 z fz) (lower_more by old v c.loop-v.layers z c.loop-v-test.true s is)

pub lowered_by-requires : goal.lowered_by-requires
lowered_by-requires c =
    let by = c.least_of_all-least.result in
    let old = c.args.layers.now in
    let v = c.loop-v.v in
    let fb : FitsSigned w64 by = search rules in
    let fl : FitsSigned w64 (layer_of c.loop-v.layers v) = search rules in
    let there = c.least_of_all-least.ensures.there in
    rw (to_z-of_z w64 (layer_of c.loop-v.layers v) fl, to_z-of_z w64 by fb) (record {
      layer = subst (λ z. IsSmall z) (sym (c.loop-v.invariant.kept v (omega arith))) (c.requires.small v c.loop-v-test.true);
      by = subst (λ z. IsSmall z) there.2 (c.requires.small there.0 there.1);
    })

pub returns : goal.returns
returns c =
    let by = c.least_of_all-least.result in
    let old = c.args.layers.now in
    let fb : FitsSigned w64 by = search rules in
    let s = subst (λ b. IsLoweredTo b old c.loop-v.v c.loop-v.layers) (to_z-of_z w64 by fb) c.loop-v.invariant in
    lower_end by old c.loop-v.v c.loop-v.layers c.loop-v-test.false (least_is old by c.requires.some c.least_of_all-least.ensures.no_more c.least_of_all-least.ensures.there) s
