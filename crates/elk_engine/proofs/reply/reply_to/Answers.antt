use Rattle.elk_engine.proofs.reply.reply_to.Goals as goal

pub returns-in-Check-clause-accepted : goal.returns-in-Check-clause-accepted
returns-in-Check-clause-accepted c = rw c.in-Check.is c.verdict_on.ensures.accepted
