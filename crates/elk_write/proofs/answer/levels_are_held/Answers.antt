use Rattle.std.proofs.Common.{All, subst, arith}
use Rattle.std.proofs.lemmas.List.{take_all}
use Rattle.std.proofs.lemmas.List.Elements.{All-more}
use Rattle.elk_write.specs.ReadBack.{IsHeldLevel}
use Rattle.elk_write.proofs.answer.levels_are_held.Goals as goal

pub loop-level-preserved : goal.loop-level-preserved
loop-level-preserved c =
    let l = c.loop-level in
    All-more IsHeldLevel c.args.levels.now l.level-index c.level-item.result (omega arith) l.invariant (subst IsHeldLevel c.level-item.is c.level_is_held.ensures)

pub returns : goal.returns
returns c = subst (All IsHeldLevel) (take_all c.loop-level.level-index c.args.levels.now (omega arith)) c.loop-level.invariant
