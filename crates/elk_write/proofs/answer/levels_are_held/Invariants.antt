use Rattle.std.proofs.Common.{All, take}
use Rattle.elk_write.specs.ReadBack.{IsHeldLevel}
use Rattle.elk_write.proofs.answer.levels_are_held.Given as goal

abbrev pub invariant-loop-level : goal.invariant-loop-level
invariant-loop-level l = All IsHeldLevel (take l.level-index l.levels)
