use Rattle.std.proofs.Common.{◌++◌, ◌∙◌, Bool, [], arith, subst}
use Rattle.std.proofs.KnownBytes.{Consumes-nil}
use Rattle.elk_lines.specs.Steps.{held, MovesHeld}
use Rattle.elk_lines.proofs.Parting.{found_answer, no_feed_both}
use Rattle.elk_lines.proofs.turns.turn.Goals as goal

pub returns-then-found-clause-bytes : goal.returns-then-found-clause-bytes
returns-then-found-clause-bytes g c =
    let s = c.args.store.now in
    let t = c.move_held.new.store in
    let d = c.move_held.new.draft in
    let left = g.S.Source.left c.args.src.now in
    let same = c.in-Ok.ensures.same.0 in (
      [],
      Consumes-nil left,
      omega (arith, same),
      λ bytes h dr.
          found_answer c.args.longest bytes (held s) (held t) d left c.piece_of.result h
          (subst (λ (b : Bool). MovesHeld c.args.longest bytes (held s) (held t) d b) c.if-found.true (c.in-Ok.ensures.moved bytes dr))
          c.piece_of.ensures.short c.piece_of.ensures.long (c.in-Ok.ensures.same_end ∙ c.requires.on),
    )

pub returns-else-found-clause-bytes : goal.returns-else-found-clause-bytes
returns-else-found-clause-bytes g c =
    let s = c.args.store.now in
    let t = c.move_held.new.store in
    let d = c.move_held.new.draft in
    let r = c.read_on.ensures.bytes in
    let same = c.in-Ok.ensures.same.0 in
    let count = r.2 in (
      r.0,
      r.1,
      omega (arith, same, count),
      λ bytes h dr. (
          let m = subst (λ (b : Bool). MovesHeld c.args.longest bytes (held s) (held t) d b) c.if-found.false (c.in-Ok.ensures.moved bytes dr) in
          r.3 (bytes ++ held s) (no_feed_both bytes (held s) h m.0) m.2),
    )

pub returns-in-Err-clause-bytes : goal.returns-in-Err-clause-bytes
returns-in-Err-clause-bytes g c =
    let same = c.in-Err.ensures.same.0 in
    ([], Consumes-nil (g.S.Source.left c.args.src.now), omega (arith, same), λ bytes h dr. tt)
