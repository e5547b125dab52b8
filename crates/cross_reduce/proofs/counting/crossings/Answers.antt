use Rattle.std.proofs.Common.{◌∙◌}
use Rattle.elk_layers.specs.Layered.{plain, rows_of}
use Rattle.cross_reduce.proofs.PlaceLemmas.{places_fit}
use Rattle.cross_reduce.proofs.WindowLemmas.{few_pins, crossed_sorted}
use Rattle.cross_reduce.proofs.counting.crossings.Goals as goal

pub sorted_pins-requires-clause-places : goal.sorted_pins-requires-clause-places
sorted_pins-requires-clause-places c =
    rw c.as_slice.ensures.value (places_fit (plain c.args.layered.now) (rows_of c.args.order.now) c.in_ok-place.place.items c.requires.sound c.requires.rows c.in_ok-place.ensures)

pub crossed_links-requires-clause-few : goal.crossed_links-requires-clause-few
crossed_links-requires-clause-few c =
    rw c.as_slice-3.ensures.value (few_pins (plain c.args.layered.now) c.as_slice.result.now c.in_ok-pins.pins.items c.requires.sound c.in_ok-pins.ensures.permutation)

pub returns : goal.returns
returns c =
    c.crossed_links.ensures ∙ rw c.as_slice-3.ensures.value
    (crossed_sorted (plain c.args.layered.now) (rows_of c.args.order.now) c.in_ok-place.place.items c.in_ok-pins.pins.items c.requires.sound c.in_ok-place.ensures (rw c.as_slice.ensures.value at c.in_ok-pins.ensures.permutation))
