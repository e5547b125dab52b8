use Rattle.std.proofs.Common.{◌≡◌, false}
use Rattle.elk_shell.specs.Replies.{GrowsByLines}
use Rattle.elk_shell.proofs.serving.reply_to_lines.Given as goal

abbrev pub invariant-lines : goal.invariant-lines
invariant-lines g l = (l.reader.spent ≡ false) × GrowsByLines (g.K.Sink.taken l.initial.out) (g.K.Sink.taken l.out)
