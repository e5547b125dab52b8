use Rattle.elk_layers.specs.Layered.{plain}
use Rattle.bk_place.specs.Marks.{is_crossed, inner_pins}
use Rattle.bk_place.proofs.MarkLemmas.{map_next}
use Rattle.bk_place.proofs.marking.crossed.Goals as goal

pub loop-link-preserved : goal.loop-link-preserved
loop-link-preserved c =
    rw c.in_ok-push.ensures.items
    (map_next (is_crossed (plain c.args.layered.now) c.args.place.now) (plain c.args.layered.now).links c.as_slice-link-items.result.now c.loop-link.marked.items c.loop-link.link-index _ c.is_crossed.result
    c.as_slice-link-items.ensures.value c.loop-link.invariant c.loop-link-test.true (c.is_crossed.ensures (inner_pins (plain c.args.layered.now) c.args.place.now) c.requires.both))
