use Rattle.std.proofs.Common.{ℕ, List, subst}
use Rattle.std.specs.Io.KnownBytes.{Appends}
use Rattle.elk_shell.proofs.Lines.{grown_more}
use Rattle.elk_shell.proofs.serving.put.Goals as goal

pub returns-in-Ok : goal.returns-in-Ok
returns-in-Ok g c =
    let old = g.K.Sink.taken c.args.out.now in
    let new = g.K.Sink.taken c.write_whole.new.sink in
    λ first before.
    grown_more first old new c.args.reply.items c.requires (subst (λ (bytes : List ℕ). Appends old new bytes) c.as_slice.ensures.value c.in-Ok.ensures.ok) before
