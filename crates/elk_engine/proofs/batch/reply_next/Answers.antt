use Rattle.std.proofs.Common.{◌≢◌, ◌≤◌, ◌+◌, ◌^◌, ◌++◌, ℕ, arith, Ok, Err, sym, ap, ◌∙◌, subst}
use Rattle.elk_lines.specs.Answers.{IsAnswer}
use Rattle.elk_engine.proofs.BatchLemmas.{after_piece, after_fault, less_after}
use Rattle.elk_engine.proofs.batch.reply_next.Given.{Over}
use Rattle.elk_engine.proofs.batch.reply_next.Goals as goal

module _ (g : Over) (c : goal.After-reply_to_piece g) where
  within : c.next_line.new.self.taken ≤ 2 ^ 32
  within =
      let past : c.next_line.new.self.taken ≢ 2 ^ 32 + 1 = λ q. (let bad = c.in-Ok.ensures.too_long.1 (q ∙ ap (λ (n : ℕ). n + 1) (sym c.requires.limit)) in cc) in
      let most = c.in-Ok.ensures.within in
      let limit = c.requires.limit in
      omega (arith, past, most, limit)

pub returns-in-Ok-clause-bytes : goal.returns-in-Ok-clause-bytes
returns-in-Ok-clause-bytes g c =
    let (more, took, count, answer) = c.in-Ok.ensures.answer in
    let held = c.args.reader.now.held in
    let new = c.next_line.new.self in
    let left = g.S.Source.left c.args.source.now in
    let left' = g.S.Source.left c.next_line.new.src in
    let out = g.K.Sink.taken c.args.out.now in
    let out' = g.K.Sink.taken c.reply_to_piece.new.out in
    λ before out0 s.
    after_piece before left left' out0 out held more c.args.reader.now.taken new.taken s took count new.held new.line new.ended out' (within g c) c.in-Ok.piece c.reply_to_piece.result
    (subst (λ (n : ℕ). IsAnswer n (held ++ more) new.held new.line left' new.ended (Ok c.in-Ok.piece)) c.requires.longest answer) c.reply_to_piece.ensures.put

pub returns-in-Ok-clause-progress : goal.returns-in-Ok-clause-progress
returns-in-Ok-clause-progress g c =
    let (more, took, count, answer) = c.in-Ok.ensures.answer in
    let held = c.args.reader.now.held in
    let new = c.next_line.new.self in
    let left' = g.S.Source.left c.next_line.new.src in
    λ on.
    less_after c.in-Ok.piece c.reply_to_piece.result held more new.held new.line left' (g.K.Sink.taken c.args.out.now) (g.K.Sink.taken c.reply_to_piece.new.out) c.args.reader.now.taken new.taken new.ended
    (subst (λ (n : ℕ). IsAnswer n (held ++ more) new.held new.line left' new.ended (Ok c.in-Ok.piece)) c.requires.longest answer) c.reply_to_piece.ensures.put on count (within g c)

pub returns-in-Err-clause-bytes : goal.returns-in-Err-clause-bytes
returns-in-Err-clause-bytes g c =
    let (more, took, count, answer) = c.in-Err.ensures.answer in
    let held = c.args.reader.now.held in
    let new = c.next_line.new.self in
    let left = g.S.Source.left c.args.source.now in
    let left' = g.S.Source.left c.next_line.new.src in
    let out = g.K.Sink.taken c.args.out.now in
    λ before out0 s.
    rw c.halt_of.ensures (after_fault before left left' out0 out held more c.args.reader.now.taken new.taken s took count new.held new.line new.ended c.in-Err.fault
    (λ e. c.in-Err.ensures.too_long.0 (ap Err e) ∙ ap (λ (n : ℕ). n + 1) c.requires.limit)
    (subst (λ (n : ℕ). IsAnswer n (held ++ more) new.held new.line left' new.ended (Err c.in-Err.fault)) c.requires.longest answer))
