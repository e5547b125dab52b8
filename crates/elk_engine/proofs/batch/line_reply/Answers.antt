use Rattle.std.proofs.lemmas.Result.{IfOk-weaker}
use Rattle.elk_engine.proofs.BatchLemmas.{answered_reply, refused_reply}
use Rattle.elk_engine.proofs.batch.line_reply.Goals as goal

pub returns-in-Ok : goal.returns-in-Ok
returns-in-Ok c = answered_reply _ _ c.requires c.in-Ok.ensures.accepted c.in-Ok.ensures.answered

pub returns-in-Err-Refused : goal.returns-in-Err-Refused
returns-in-Err-Refused c =
    let refuses = rw c.in-Err-Refused.field-0-is at c.in-Err-Refused.ensures.refused in
    IfOk-weaker c.refusal_note.result _ _ (λ note is. refused_reply c.args.line.now note.items c.in-Err-Refused.refusal c.requires refuses is) c.refusal_note.ensures
