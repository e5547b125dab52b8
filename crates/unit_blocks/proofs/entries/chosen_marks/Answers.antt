use Rattle.unit_blocks.proofs.EntryLemmas.{marks_more}
use Rattle.unit_blocks.proofs.entries.chosen_marks.Goals as goal

pub loop-k-preserved : goal.loop-k-preserved
loop-k-preserved c =
    marks_more c.args.chosen.now c.loop-k.k-index c.args.count c.loop-k.marks.items (c.requires c.loop-k.k-index c.loop-k-test.true) c.loop-k.invariant
