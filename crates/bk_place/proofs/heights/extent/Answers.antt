use Rattle.std.proofs.Common.{◌≡◌, ◌+ℤ◌, ◌<◌, ◌∙◌, ap, arith, subst, length, FitsSigned, w64, to_z, to_z-of_z}
use Rattle.std.proofs.lemmas.Int.{ints}
use Rattle.std.specs.Int.{int_max}
use Rattle.elk_layers.specs.Layered.{unit_at}
use Rattle.elk_layers.specs.Lines.{top_of}
use Rattle.bk_place.proofs.HeightLemmas.{extent_start, extent_next, extent_end, greater_step}
use Rattle.bk_place.proofs.heights.extent.Goals as goal

pub loop-u-init : goal.loop-u-init
loop-u-init c = (omega (arith, ints), omega (arith, ints), extent_start c.args.layered.now.units.items c.args.lines.now.top.items)

pub loop-u-preserved : goal.loop-u-preserved
loop-u-preserved c =
    let h = subst (λ xs. c.loop-u.u < length xs) c.as_slice-units.ensures.value c.loop-u-test.true in
    let within = c.requires.within c.loop-u.u h in
    let from_zero = c.requires.from_zero c.loop-u.u h in
    let high = c.requires.heights c.loop-u.u h in
    let end : c.end_at.result ≡ top_of c.args.lines.now.top.items c.loop-u.u +ℤ (unit_at c.args.layered.now.units.items c.loop-u.u).height = rw (c.as_slice-tops.ensures.value, c.as_slice-units.ensures.value) at c.end_at.ensures in
    let fits_end : FitsSigned w64 c.end_at.result = omega (arith, ints, end, within, from_zero, high) in
    let is : c.higher-height.result ≡ int_max (to_z w64 c.loop-u.height-bits) c.end_at.result = rw (to_z-of_z fits_end) at c.higher-height.ensures in
    let step = greater_step (to_z w64 c.loop-u.height-bits) c.end_at.result c.loop-u.invariant.0 c.loop-u.invariant.1 (omega (arith, ints, end, within)) in
    let fits : FitsSigned w64 c.higher-height.result = rw is (let a = step.0 in let b = step.1 in omega (arith, ints, a, b)) in
    rw (to_z-of_z fits) (
      rw is step.0,
      rw is step.1,
      extent_next c.args.layered.now.units.items c.args.lines.now.top.items c.loop-u.u (to_z w64 c.loop-u.height-bits) c.higher-height.result _ h c.requires.as_many (is ∙ ap (int_max (to_z w64 c.loop-u.height-bits)) end) c.loop-u.invariant.2,
    )

pub returns-clause-extent : goal.returns-clause-extent
returns-clause-extent c =
    extent_end c.args.layered.now.units.items c.args.lines.now.top.items c.loop-u.u _ (let same = ap length c.as_slice-units.ensures.value in let h = c.loop-u-test.false in omega (arith, same, h)) c.loop-u.invariant.0 c.loop-u.invariant.2
