use Rattle.std.proofs.Common.{◌∙◌, ◌+◌, [], ap, inl, refl}
use Rattle.std.proofs.KnownBytes.{Consumes-nil, Appends-nil, Keeps-refl}
use Rattle.elk_engine.specs.Notes.{too_long_note, read_fault_note, out_of_memory_note}
use Rattle.elk_engine.proofs.Outcomes.{begins_none, begun_none, long_taken, none_long, memory_failed, read_failed, refused, at_its_end, unread}
use Rattle.elk_engine.proofs.perform.perform_whole.Goals as goal

pub replied-requires : goal.replied-requires
replied-requires g c = record { bounded = c.requires.bounded; whole = c.requires.whole; not_long = none_long c.args.command [] (c.is_reader.ensures.no c.if-not-is_reader.true) }

pub returns-then-not-is_reader-clause-outcome : goal.returns-then-not-is_reader-clause-outcome
returns-then-not-is_reader-clause-outcome g c = ([], Consumes-nil _, unread c.args.command _ refl (c.is_reader.ensures.no c.if-not-is_reader.true) c.replied.ensures.outcome)

pub returns-then-not-is_reader-clause-unread : goal.returns-then-not-is_reader-clause-unread
returns-then-not-is_reader-clause-unread g c = λ none. (refl, Keeps-refl _)

pub returns-in-Ok-clause-outcome : goal.returns-in-Ok-clause-outcome
returns-in-Ok-clause-outcome g c =
    let (taken, took, read) = c.in-Ok.ensures.bytes in
    (taken, took, at_its_end c.args.command _ _ (c.deref.ensures.value ∙ read.0) read.2 c.replied-in-Ok.ensures.outcome)

pub returns-in-Err-TooLong-clause-outcome : goal.returns-in-Err-TooLong-clause-outcome
returns-in-Err-TooLong-clause-outcome g c =
    let (taken, took, long) = rw c.in-Err-TooLong.field-0-is at c.in-Err-TooLong.ensures.bytes in
    let past = long ∙ ap (λ n. n + 1) c.limit_of.ensures.limit in
    (taken, took, refused c.args.command _ [] too_long_note (Appends-nil _) (record { refused = inl (long_taken c.args.command taken (c.is_reader.ensures.yes c.if-not-is_reader.false) past, past, refl); begun = begun_none c.args.command c.requires.whole _ }) c.noted.ensures.noted)

pub returns-in-Err-Fault-clause-outcome : goal.returns-in-Err-Fault-clause-outcome
returns-in-Err-Fault-clause-outcome g c =
    let (taken, took, within) = c.in-Err-Fault.ensures.bytes in
    let rose = rw c.in-Err-Fault.field-0-is at c.in-Err-Fault.ensures.cause.failed in
    (taken, took, read_failed c.args.command _ [] read_fault_note (Appends-nil _) (record { failed = rose refl; begun = begun_none c.args.command c.requires.whole taken; note_is = refl }) c.noted-in-Err-Fault.ensures.noted)

pub returns-in-Err-Memory-clause-outcome : goal.returns-in-Err-Memory-clause-outcome
returns-in-Err-Memory-clause-outcome g c =
    let (taken, took, within) = c.in-Err-Memory.ensures.bytes in
    (taken, took, memory_failed c.args.command _ [] out_of_memory_note (Appends-nil _) (record { begun = begins_none c.args.command taken; note_is = refl }) c.noted-in-Err-Memory.ensures.noted)
