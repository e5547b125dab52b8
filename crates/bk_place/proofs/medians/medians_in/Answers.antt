use Rattle.std.proofs.Common.{◌++◌, ◌∷◌, [], ap, arith, map}
use Rattle.std.specs.List.{range_with_len}
use Rattle.std.proofs.lemmas.List.FromFn.{map-range_with_len_more}
use Rattle.elk_layers.specs.Layered.{plain}
use Rattle.bk_place.specs.Medians.{medians_at}
use Rattle.bk_place.proofs.SpokeLemmas.{fan_known}
use Rattle.bk_place.proofs.medians.medians_in.Goals as goal

pub medians_of-requires-clause-fan : goal.medians_of-requires-clause-fan
medians_of-requires-clause-fan c =
    let can = c.requires.can.1 in
    rw (c.fan-links_here.ensures, c.as_slice-links.ensures.value)
    (fan_known (plain c.args.layered.now) c.requires.can.0 c.args.sweep c.args.known.now.place.items c.args.spokes.now can.sound can.are_rows can.places can.spokes_are c.loop-unit.unit)

pub loop-unit-preserved : goal.loop-unit-preserved
loop-unit-preserved c =
    let f = medians_at (plain c.args.layered.now) c.args.sweep c.args.known.now.place.items c.args.known.now.marked.items c.args.spokes.now in
    rw (c.in_ok-push.ensures.items, map-range_with_len_more f 0 c.loop-unit.unit c.loop-unit.unit (omega arith), c.loop-unit.invariant)
    (ap (λ m. map f (range_with_len 0 c.loop-unit.unit) ++ m ∷ [])
    (rw (c.as_slice-links.ensures.value, c.as_slice-place.ensures.value, c.as_slice-marked.ensures.value, c.as_slice-units.ensures.value, c.fan-links_here.ensures) at c.medians_of.ensures))
