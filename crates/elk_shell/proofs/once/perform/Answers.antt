use Rattle.std.proofs.Common.{◌∙◌, ℕ, List, subst}
use Rattle.elk_shell.specs.Once.{IsMade}
use Rattle.elk_shell.proofs.once.perform.Goals as goal

pub returns-in-Ok-clause-done : goal.returns-in-Ok-clause-done
returns-in-Ok-clause-done g c =
    λ zero.
    let (taken, took, whole) = c.in-Ok.ensures.bytes in
    let (text, made, written) = c.replied.ensures.done zero in
    record {
      bytes = taken;
      text = text;
      consumed = took;
      at_end = whole.2;
      made = subst (λ (bytes : List ℕ). IsMade c.args.wish bytes text) (c.deref.ensures.value ∙ whole.0) made;
      written = written;
    }
