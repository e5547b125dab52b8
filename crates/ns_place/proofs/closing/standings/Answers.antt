use Rattle.std.proofs.Common.{◌<◌, length, arith, rules, w64, FitsSigned, to_z-of_z}
use Rattle.std.proofs.lemmas.Int.{ints}
use Rattle.elk_layers.specs.Layered.{unit_at}
use Rattle.network_laws.specs.Layering.{layer_of}
use Rattle.elk_layers.proofs.FillLemmas.{push_more}
use Rattle.ns_place.specs.Closing.{StandsFor}
use Rattle.ns_place.proofs.closing.standings.Goals as goal

pub loop-u-preserved : goal.loop-u-preserved
loop-u-preserved c =
    let h = c.loop-u-test.true in
    let few = c.requires.as_many in
    let there : c.loop-u.u < length c.args.layers.now = omega (arith, h, few) in
    let fl : FitsSigned w64 (layer_of c.args.layers.now c.loop-u.u) = search rules in
    let fh : FitsSigned w64 (unit_at c.args.units.now c.loop-u.u).height = search rules in
    let top = rw (to_z-of_z fl) at c.standing_of.ensures.top in
    let span = rw (to_z-of_z fh) at c.standing_of.ensures.span in
    rw (c.in_ok-push.ensures.items, to_z-of_z c.ranges.spacing)
    (push_more (StandsFor c.args.units.now c.args.layers.now c.args.spacing) c.loop-u.all.items c.loop-u.u c.standing_of.result (record { top = 0; span = 0; unit = 0 })
    c.loop-u.invariant.0 (rw (to_z-of_z c.ranges.spacing) at c.loop-u.invariant.1)
    (record { top_is = top; span_is = omega (arith, ints, span); unit_is = omega (arith, c.standing_of.ensures.unit) }))

pub returns : goal.returns
returns c =
    let h = c.loop-u-test.false in
    let n = c.loop-u.auto.u-end in
    let long = c.loop-u.invariant.0 in
    record {
      as_many = omega arith;
      stands = λ u l. rw (to_z-of_z c.ranges.spacing) at (c.loop-u.invariant.1 u (omega arith));
    }
