-- Why a command has no reply.
use Rattle.std.specs.Prelude.{◌≡◌, ℕ, List, ⊤}
use Rattle.elk_engine.specs.declared.words.Command.{Command}
use Rattle.elk_engine.specs.declared.reply.Stop.{Stop}
use Rattle.elk_engine.specs.declared.reply.Stop.TheVariants as stop
use Rattle.elk_json.specs.declared.fault.DocFault.{DocFault}
use Rattle.elk_json.specs.declared.fault.DocFault.TheVariants as fault
use Rattle.elk_engine.specs.Notes.{refused_note}
use Rattle.elk_engine.specs.Command.{Refuses}

-- the input is refused with the note; out of memory says nothing
abbrev pub IsCause : Command → List ℕ → Stop → Type 0
IsCause command input (stop.Refused note) = Refuses command input note.items
IsCause command input stop.Memory = ⊤

-- the stop at a document that isn't read has the note of its refusal
abbrev pub IsStop : Stop → DocFault → Type 0
IsStop (stop.Refused note) (fault.Refused r) = note.items ≡ refused_note r
IsStop (stop.Refused note) fault.Memory = ⊥
IsStop stop.Memory f = ⊤
