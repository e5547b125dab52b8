use Rattle.std.proofs.Common.{◌-◌, ◌++◌, ap, sym, ◌∙◌, arith, drop, append-nil}
use Rattle.std.proofs.lemmas.Int.{ints}
use Rattle.std.proofs.lemmas.List.{length-drop}
use Rattle.elk_layers.specs.Layered.{plain}
use Rattle.unit_blocks.specs.Phases.{distance_of}
use Rattle.unit_blocks.proofs.PhaseLemmas.{bounds_step, bounds_short}
use Rattle.unit_blocks.proofs.constraints.push_bounds.Goals as goal

pub loop-i-preserved : goal.loop-i-preserved
loop-i-preserved c =
    let d = distance_of (plain c.args.layered.now) c.args.outlines in
    let b = c.bound_between.ensures in
    rw c.in_ok-push.ensures.items
    (bounds_step d c.args.blocks.now c.args.offsets.now c.args.units.now c.loop-i.i c.bound_between.result c.loop-i.bounds.items
    (omega (arith, c.loop-i.auto.i)) (omega (arith, c.loop-i-test.true)) b.before b.after
    (omega (arith, ints, b.gap, c.distance-apart.ensures.value))
    ∙ c.loop-i.invariant)

pub returns : goal.returns
returns c =
    let d = distance_of (plain c.args.layered.now) c.args.outlines in
    let cut = length-drop (c.loop-i.i - 1) c.args.units.now in
    let short = bounds_short d c.args.blocks.now c.args.offsets.now (drop (c.loop-i.i - 1) c.args.units.now) (omega (arith, cut)) in
    sym (append-nil c.loop-i.bounds.items) ∙ ap (λ bs. c.loop-i.bounds.items ++ bs) (sym short) ∙ c.loop-i.invariant
