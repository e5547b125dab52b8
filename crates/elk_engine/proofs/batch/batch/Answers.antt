use Rattle.std.proofs.Common.{ap, Err}
use Rattle.std.proofs.KnownBytes.{Appends-nil}
use Rattle.elk_engine.proofs.BatchLemmas.{done_outcome, halted_outcome}
use Rattle.elk_engine.proofs.batch.batch.Goals as goal

pub returns-in-Ok-clause-outcome : goal.returns-in-Ok-clause-outcome
returns-in-Ok-clause-outcome g c = done_outcome _ _ _ _ c.in-Ok.ensures.bytes (Appends-nil _)

pub returns-in-Err-clause-outcome : goal.returns-in-Err-clause-outcome
returns-in-Err-clause-outcome g c =
    let noted = rw (c.status_of.ensures, c.note_of.ensures) at c.noted.ensures.noted in
    halted_outcome _ _ _ _ _ c.in-Err.halt c.in-Err.ensures.bytes (λ e. c.in-Err.ensures.read (ap Err e)) (λ e. c.in-Err.ensures.write (ap Err e)) noted
