use Rattle.std.proofs.Common.{◌∙◌, length-set, subst, sym, ◌<◌, get_or}
use Rattle.unit_blocks.proofs.TopLemmas.{numbers_more}
use Rattle.unit_blocks.proofs.tops.root_numbers.Goals as goal

pub loop-b-preserved : goal.loop-b-preserved
loop-b-preserved c = (
  length-set c.loop-b.number.items _ _ ∙ c.loop-b.invariant.0,
  numbers_more c.args.roots.now c.loop-b.number.items c.loop-b.b c.requires.no_repeat c.loop-b-test.true
      (subst (λ n. get_or c.args.roots.now c.loop-b.b 0 < n) (sym c.loop-b.invariant.0) (c.requires.in_range c.loop-b.b 0 c.loop-b-test.true)) c.loop-b.invariant.1,
)
