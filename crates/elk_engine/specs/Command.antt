-- What each command does with its input. A new command adds a case to each of the first definitions.
use Rattle.std.specs.Prelude.{◌≡◌, ◌⊎◌, ℕ, ◌^◌, ◌<◌, List, [], length, ⊤, Option, Some, None}
use Rattle.elk_json.specs.declared.fault.Refusal.{Refusal}
use Rattle.elk_answer.specs.Answer as answer
use Rattle.elk_engine.specs.Check as check
use Rattle.elk_engine.specs.Batch as batch
use Rattle.elk_engine.specs.Demo as demo
use Rattle.elk_engine.specs.declared.words.Command.{Command}
use Rattle.elk_engine.specs.declared.words.Command.TheVariants.{Layout, Check, Batch, Demo}
use Rattle.elk_engine.specs.Notes.{refused_note}

-- the most bytes that it takes of its input; none where it reads nothing
abbrev pub limit : Command → ℕ
limit Layout = 2 ^ 24
limit Check = 2 ^ 28
limit Batch = 2 ^ 32
limit (Demo leaves) = 0

-- it reads its input, so that this holds where it is done; nothing is asked of a command that reads none
abbrev pub Reads : Command → Type 0 → Type 0
Reads Layout at_end = at_end
Reads Check at_end = at_end
Reads Batch at_end = at_end
Reads (Demo leaves) at_end = ⊤

-- it refuses this input with this note
abbrev pub Refuses : Command → List ℕ → List ℕ → Type 0
Refuses Layout input note = (r : Refusal) × answer.Refuses input r × (note ≡ refused_note r)
Refuses Check input note = (r : Refusal) × check.Refuses input r × (note ≡ refused_note r)
Refuses Batch input note = ⊥
Refuses (Demo leaves) input note = ⊥

-- it answers this input by this status, 0 or 1, and this text
abbrev pub Answers : Command → List ℕ → ℕ → List ℕ → Type 0
Answers Layout input status text = (status ≡ 0) × answer.IsAnswer input text
Answers Check input status text = check.IsJudged input status text
Answers Batch input status text = (status ≡ 0) × batch.AreAllReplies input text
Answers (Demo leaves) input status text = (status ≡ 0) × demo.IsDemoLine leaves text

-- the input is longer than it takes
abbrev pub IsTooLong : Command → List ℕ → Type 0
IsTooLong Layout input = limit Layout < length input
IsTooLong Check input = limit Check < length input
IsTooLong Batch input = limit Batch < length input
IsTooLong (Demo leaves) input = ⊥

-- what it has written when it ends early, having taken these bytes
abbrev pub Begun : Command → List ℕ → List ℕ → Type 0
Begun Layout taken text = text ≡ []
Begun Check taken text = text ≡ []
Begun Batch taken text = batch.AreFedReplies taken text
Begun (Demo leaves) taken text = text ≡ []

-- it writes nothing before it has the answer to its whole input
abbrev pub IsWhole : Command → Type 0
IsWhole Layout = ⊤
IsWhole Check = ⊤
IsWhole Batch = ⊥
IsWhole (Demo leaves) = ⊤

-- ---- the same for all commands

-- the input is refused
abbrev pub IsRefused : Command → List ℕ → Type 0
IsRefused command input = IsTooLong command input ⊎ ((note : List ℕ) × Refuses command input note)

-- the input is accepted
pub record IsAccepted (command : Command) (input : List ℕ) : Type 0 where
  pub not_long : IsTooLong command input → ⊥
  pub not_refused : (note : List ℕ) → Refuses command input note → ⊥

-- these words leave the source alone
abbrev pub LeavesInput : Option Command → Type 0
LeavesInput None = ⊤
LeavesInput (Some command) = Reads command ⊥
