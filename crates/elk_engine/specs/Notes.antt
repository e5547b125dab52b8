-- What goes to the notes.
use Rattle.std.specs.Prelude.{ℕ, List, ◌++◌, codes, Option, Some, None}
use Rattle.std.specs.Fmt.{decimal}
use Rattle.elk_doc.specs.declared.document.Id.{Id}
use Rattle.elk_json.specs.declared.fault.Refusal.{Refusal}
use Rattle.elk_json.specs.Refused.{rule_name, rule_number}
use Rattle.elk_write.specs.Text.{id_spelling}

-- an id as JSON text, and `-` where there is none
abbrev pub place_text : Option Id → List ℕ
place_text None = codes "-"
place_text (Some id) = id_spelling id

-- the rule by number and by name, and the place
abbrev pub refused_note : Refusal → List ℕ
refused_note r =
    codes "refused " ++ decimal (rule_number r.rule) ++ codes " " ++ rule_name r.rule ++ codes " " ++ place_text r.place ++ codes "\n"

abbrev pub too_long_note : List ℕ
too_long_note = codes "refused 0 TooLong -\n"

abbrev pub read_fault_note : List ℕ
read_fault_note = codes "read fault\n"

abbrev pub write_fault_note : List ℕ
write_fault_note = codes "write fault\n"

abbrev pub usage_note : List ℕ
usage_note = codes "usage: elk layout\n" ++ codes "       elk check\n" ++ codes "       elk demo <n>\n" ++ codes "       elk batch\n"

abbrev pub out_of_memory_note : List ℕ
out_of_memory_note = codes "out of memory\n"
