use Rattle.std.proofs.Common.{ap, ◌∙◌, ◌++◌, ◌∷◌, []}
use Rattle.elk_shell.proofs.Lines.{is_one_line}
use Rattle.elk_shell.proofs.line.in_one_line.Goals as goal

pub returns-clause-one_line : goal.returns-clause-one_line
returns-clause-one_line c =
    is_one_line c.args.bytes.now _ (c.in_ok-push.ensures.items ∙ ap (λ l. l ++ 10 ∷ []) c.in_ok-line.ensures)
