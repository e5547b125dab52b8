-- How far `batch` has come, and how its lines end.
use Rattle.std.specs.Prelude.{◌≡◌, ◌≢◌, [], Some, ℕ, ◌+◌, ◌≤◌, Bool, true, false, List, ◌++◌, length, take, All, Option, Result, Ok, Err}
use Rattle.std.specs.Io.KnownBytes.{Appends, Consumes, IsAtEnd}
use Rattle.elk_lines.specs.Reader.{HasNoFeed}
use Rattle.elk_engine.specs.declared.words.Command.TheVariants.{Batch}
use Rattle.elk_engine.specs.declared.batch.Halt.{Halt}
use Rattle.elk_engine.specs.declared.batch.Halt.TheVariants.{Read, TooLong, Write, Memory}
use Rattle.elk_lines.specs.declared.answer.Piece.{Piece}
use Rattle.elk_lines.specs.declared.answer.Piece.TheVariants.{Line, Long, End}
use Rattle.elk_lines.specs.declared.answer.LineFault.{LineFault}
use Rattle.elk_lines.specs.declared.answer.LineFault.TheVariants.{Fault, TooLong as PastLimit, Memory as NoMemory}
use Rattle.elk_outer.specs.Whole.{AppendsPart}
use Rattle.elk_engine.specs.Notes.{too_long_note, read_fault_note, write_fault_note, out_of_memory_note}
use Rattle.elk_engine.specs.Batch.{longest, IsReply, AreAllReplies, AreFedReplies, AreReplies, fed}
use Rattle.elk_engine.specs.Command.{limit}
use Rattle.elk_engine.specs.Outcome.{BeginsPart, WritesPart}

-- The bytes that were taken are lines with their line feeds and what is held, and the replies to these lines were written.
pub record AreAnswered (before left out new_out : Option (List ℕ)) (held : List ℕ) (taken : ℕ) : Type 0 where
  pub lines : List (List ℕ)
  pub text : List ℕ
  pub no_feeds : All HasNoFeed lines
  pub consumed : Consumes before left (fed lines ++ held)
  pub count : taken ≡ length (fed lines ++ held)
  pub replies : AreReplies lines text
  pub written : Appends out new_out text

-- the whole input was read, and the replies to all its lines were written
pub record IsDone (before left out new_out : Option (List ℕ)) : Type 0 where
  pub bytes : List ℕ
  pub text : List ℕ
  pub consumed : Consumes before left bytes
  pub at_end : IsAtEnd left
  pub within : length bytes ≤ limit Batch
  pub replies : AreAllReplies bytes text
  pub written : Appends out new_out text

-- these bytes were taken, and what the halt says was written
abbrev pub IsHaltedAt : List ℕ → Type 0 → Option (List ℕ) → Option (List ℕ) → Halt → Type 0
IsHaltedAt bytes at_end out new_out Read = (text : List ℕ) × AreFedReplies bytes text × Appends out new_out text
IsHaltedAt bytes at_end out new_out TooLong =
    (length bytes ≡ limit Batch + 1) × (text : List ℕ) × AreFedReplies (take (limit Batch) bytes) text × Appends out new_out text
IsHaltedAt bytes at_end out new_out Write = WritesPart Batch bytes at_end out new_out
IsHaltedAt bytes at_end out new_out Memory = (text : List ℕ) × BeginsPart Batch bytes text × Appends out new_out text

pub record IsHalted (before left out new_out : Option (List ℕ)) (halt : Halt) : Type 0 where
  pub bytes : List ℕ
  pub consumed : Consumes before left bytes
  pub halted : IsHaltedAt bytes (IsAtEnd left) out new_out halt

-- what comes after a line, which may be the last
abbrev pub AfterLine : Option (List ℕ) → Option (List ℕ) → Option (List ℕ) → Option (List ℕ) → List ℕ → ℕ → Result Bool Halt → Type 0
AfterLine before left out new_out held taken (Ok true) = IsDone before left out new_out
AfterLine before left out new_out held taken (Ok false) = AreAnswered before left out new_out held taken
AfterLine before left out new_out held taken (Err halt) = IsHalted before left out new_out halt

-- the reader tells a line that isn't too long, where it answered one
abbrev pub IsTold : Option (List ℕ) → Piece → Type 0
IsTold told Line = (line : List ℕ) × (told ≡ Some line) × (length line ≤ longest)
IsTold told Long = Unit {0}
IsTold told End = Unit {0}

-- the reply to what a reader gave out
abbrev pub IsPieceReply : Piece → Option (List ℕ) → List ℕ → Type 0
IsPieceReply Line told reply = (line : List ℕ) × (told ≡ Some line) × IsReply line reply
IsPieceReply Long told reply = reply ≡ too_long_note
IsPieceReply End told reply = reply ≡ []

-- the reply was written
abbrev pub IsReplyPut : List ℕ → Bool → Option (List ℕ) → Option (List ℕ) → Result Bool Halt → Type 0
IsReplyPut reply ended out new_out (Ok last) = (last ≡ ended) × Appends out new_out reply
IsReplyPut reply ended out new_out (Err Write) = AppendsPart out new_out reply
IsReplyPut reply ended out new_out (Err Memory) = new_out ≡ out
IsReplyPut reply ended out new_out (Err Read) = ⊥
IsReplyPut reply ended out new_out (Err TooLong) = ⊥

-- a reply to what a reader gave out was written, or memory ran out before
abbrev pub IsPut : Piece → Option (List ℕ) → Bool → Option (List ℕ) → Option (List ℕ) → Result Bool Halt → Type 0
IsPut piece told ended out new_out (Ok last) =
    (reply : List ℕ) × IsPieceReply piece told reply × IsReplyPut reply ended out new_out (Ok last)
IsPut piece told ended out new_out (Err Memory) = new_out ≡ out
IsPut piece told ended out new_out (Err Write) =
    (reply : List ℕ) × IsPieceReply piece told reply × (piece ≢ End) × AppendsPart out new_out reply
IsPut piece told ended out new_out (Err Read) = ⊥
IsPut piece told ended out new_out (Err TooLong) = ⊥

-- the halt at a line that can't be read
abbrev pub halt_of : LineFault → Halt
halt_of Fault = Read
halt_of PastLimit = TooLong
halt_of NoMemory = Memory

-- what is noted at a halt, and its status
abbrev pub note_of : Halt → List ℕ
note_of Read = read_fault_note
note_of TooLong = too_long_note
note_of Write = write_fault_note
note_of Memory = out_of_memory_note

abbrev pub status_of : Halt → ℕ
status_of Read = 3
status_of TooLong = 2
status_of Write = 4
status_of Memory = 6

-- how the lines end
abbrev pub IsEnd : Option (List ℕ) → Option (List ℕ) → Option (List ℕ) → Option (List ℕ) → Result (Unit {0}) Halt → Type 0
IsEnd before left out new_out (Ok u) = IsDone before left out new_out
IsEnd before left out new_out (Err halt) = IsHalted before left out new_out halt
