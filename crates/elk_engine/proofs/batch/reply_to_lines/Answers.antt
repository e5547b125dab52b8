use Rattle.elk_engine.proofs.batch.reply_to_lines.Goals as goal

pub returns-in-Ok-true-clause-bytes : goal.returns-in-Ok-true-clause-bytes
returns-in-Ok-true-clause-bytes g c =
    let after = rw c.in-Ok-true.field-0-test at c.in-Ok-true.ensures.bytes in
    after (g.S.Source.left c.args.source.now) (g.K.Sink.taken c.args.out.now) c.lines.invariant.answered
