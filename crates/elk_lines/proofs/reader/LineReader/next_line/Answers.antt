use Rattle.std.proofs.Common.{◌≡◌, ◌+◌, ◌++◌, ℕ, List, length, cond, None, Ok, subst}
use Rattle.std.specs.Io.KnownBytes.{Consumes}
use Rattle.elk_lines.specs.Reader.{Reader}
use Rattle.elk_lines.specs.Answers.{IsAnswer}
use Rattle.elk_lines.specs.Steps.{held, told_by}
use Rattle.elk_lines.proofs.Parting.{told_answer}
use Rattle.elk_lines.proofs.reader.LineReader.next_line.Goals as goal

pub returns-in-Ok-clause-answer : goal.returns-in-Ok-clause-answer
returns-in-Ok-clause-answer g c =
    let t = c.in-Ok.ensures.bytes in
    let s = c.advance.new.store in
    let d = c.advance.new.draft in
    let told = cond c.is_line-self-inside.result (told_by d) None in
    let left = g.S.Source.left c.args.src.now in
    let left' = g.S.Source.left c.advance.new.src in
    subst (λ (r : Reader). (x : List ℕ) × Consumes left left' x × (s.taken ≡ r.taken + length x) × IsAnswer r.longest (r.held ++ x) (held s) told left' d.ended (Ok c.in-Ok.piece)) c.self.view_is
    (t.0, t.1, t.2, told_answer _ _ _ d _ _ c.in-Ok.piece _ c.is_line-self-inside.ensures.yes t.3)
