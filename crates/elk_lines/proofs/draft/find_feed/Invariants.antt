use Rattle.std.proofs.Common.{take}
use Rattle.elk_lines.specs.Reader.{HasNoFeed}
use Rattle.elk_lines.proofs.draft.find_feed.Given as goal

abbrev pub invariant-loop-at : goal.invariant-loop-at
invariant-loop-at l = HasNoFeed (take l.at l.bytes)
