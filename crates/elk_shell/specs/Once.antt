-- A run that reads one graph.
use Rattle.std.specs.Prelude.{ℕ, List, ⊤, Option}
use Rattle.std.specs.Io.KnownBytes.{Appends, Consumes, IsAtEnd}
use Rattle.elk_answer.specs.Answer.{IsAnswer}
use Rattle.elk_shell.specs.declared.once.Wish.{Wish}
use Rattle.elk_shell.specs.declared.once.Wish.TheVariants.{Answer, Placed, Drawing, Picture}

-- This text is what is wished of a graph with these bytes. If the answer is wished, it is the engine's answer, which is what
-- `elk layout` writes; what a graph gets after stages, and what a picture shows, is not said.
abbrev pub IsMade : Wish → List ℕ → List ℕ → Type 0
IsMade Answer bytes text = IsAnswer bytes text
IsMade Placed bytes text = ⊤
IsMade (Drawing look) bytes text = ⊤
IsMade (Picture look) bytes text = ⊤

-- the whole input was read, and what is wished of it was written
pub record IsDone (wish : Wish) (before left out new_out : Option (List ℕ)) : Type 0 where
  pub bytes : List ℕ
  pub text : List ℕ
  pub consumed : Consumes before left bytes
  pub at_end : IsAtEnd left
  pub made : IsMade wish bytes text
  pub written : Appends out new_out text
