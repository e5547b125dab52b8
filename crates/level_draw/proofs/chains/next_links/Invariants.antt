use Rattle.level_nets.specs.Reach.{parts_in}
use Rattle.level_draw.specs.Chains.{AreNext}
use Rattle.level_draw.proofs.chains.next_links.Given as goal

abbrev pub invariant-loop-number : goal.invariant-loop-number
invariant-loop-number l = AreNext (parts_in l.sheet) l.number l.next.firsts.items l.next.outs.items
