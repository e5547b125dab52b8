use Rattle.std.proofs.Common.{arith, subst, ◌<◌, sym}
use Rattle.unit_blocks.proofs.WalkLemmas.{walk_start, walk_below, walk_step, walk_end}
use Rattle.unit_blocks.proofs.order.listed.Goals as goal

pub loop-init : goal.loop-init
loop-init c = λ order holds. rw c.new-found.ensures.items (walk_start c.args.next.now c.args.end order holds)

pub walk_on-requires : goal.walk_on-requires
walk_on-requires c =
    let w = c.requires.holds in
    record { in_links = subst (λ n. c.loop.at < n) (sym c.requires.long) (walk_below c.args.next.now c.args.end w.0 w.1 _ _ _ (c.loop.invariant w.0 w.1)) }

pub loop-preserved : goal.loop-preserved
loop-preserved c = λ order holds. walk_step c.args.next.now c.args.end order holds _ _ _ _ _ c.in_ok-at.ensures (c.loop.invariant order holds)

pub returns : goal.returns
returns c = λ order holds. walk_end c.args.next.now c.args.end order holds _ _ _ (omega (arith, c.loop-test.false)) (c.loop.invariant order holds)
