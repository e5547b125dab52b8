-- What `check` says of an answer of `layout`.
use Rattle.std.specs.Prelude.{◌≡◌, ◌⊎◌, ◌≤◌, List, ℕ, [], length, codes, Some}
use Rattle.std.specs.Io.KnownBytes.{Consumes}
use Rattle.elk_engine.specs.declared.words.Command.TheVariants.{Layout, Check}
use Rattle.elk_engine.specs.Command.{limit, Answers}
use Rattle.elk_engine.specs.Outcome.{Run, Outcome, Gains, IsCutShort}

-- A run of `check` over a text that `layout` answers, no longer than `check` takes, ends with 0 and writes `yes`, unless it
-- was cut short.
abbrev pub AnswersAreGood : Type 0
AnswersAreGood =
    (laid text : List ℕ) → Answers Layout laid 0 text → length text ≤ limit Check
    → (run : Run) → run.source.old ≡ Some text → Consumes run.source.old run.source.new run.taken → Outcome Check run
    → IsCutShort run.status ⊎ ((run.status ≡ 0) × Gains run (codes "yes\n") [])
