use Rattle.std.proofs.Common.{◌≡◌, get_or}
use Rattle.elk_layers.specs.Layered.{place_in}
use Rattle.elk_layers.proofs.FillLemmas.{push_more}
use Rattle.unit_blocks.proofs.TopLemmas.{number_of}
use Rattle.unit_blocks.proofs.tops.numbered.Goals as goal

pub loop-name-preserved : goal.loop-name-preserved
loop-name-preserved c =
    rw c.in_ok-push.ensures.items
    (push_more (λ u x. x ≡ place_in c.args.roots.now (get_or c.args.names.now u 0)) c.loop-name.blocks.items c.loop-name.name-index _ 0
    c.loop-name.invariant.0 c.loop-name.invariant.1
    (number_of c.args.roots.now c.as_slice-number_of.result.now _ (c.requires.known c.loop-name.name-index 0 c.loop-name-test.true).1 (rw (← c.as_slice-number_of.ensures.value) at c.in_ok-number.ensures.numbers)))
