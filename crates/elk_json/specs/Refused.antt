-- Refusals, and the rules with their numbers and names.
use Rattle.std.specs.Prelude.{ℕ, List, codes}
use Rattle.elk_json.specs.declared.fault.Rule.{Rule}
use Rattle.elk_json.specs.declared.fault.Rule.TheVariants as rules
use Rattle.elk_json.specs.declared.fault.DocFault.{DocFault}
use Rattle.elk_json.specs.declared.fault.DocFault.TheVariants.{Refused, Memory}
use Rattle.elk_json.specs.declared.fault.Refusal.{Refusal}

-- what holds of a refusal; out of memory says nothing
abbrev pub MatchFault : DocFault → (Refusal → Type 0) → Type 0
MatchFault (Refused r) P = P r
MatchFault Memory P = Unit {0}

-- the number of a rule, from 1
abbrev pub rule_number : Rule → ℕ
rule_number rules.NotJson = 1
rule_number rules.NotWhole = 2
rule_number rules.BadShape = 3
rule_number rules.OutOfRange = 4
rule_number rules.TooMany = 5
rule_number rules.TooDeep = 6
rule_number rules.DoubleId = 7
rule_number rules.UnknownEnd = 8
rule_number rules.Hyperedge = 9
rule_number rules.CrossLevel = 10
rule_number rules.OptionValue = 11
rule_number rules.PortInside = 12
rule_number rules.NotPlaced = 13

abbrev pub rule_name : Rule → List ℕ
rule_name rules.NotJson = codes "NotJson"
rule_name rules.NotWhole = codes "NotWhole"
rule_name rules.BadShape = codes "BadShape"
rule_name rules.OutOfRange = codes "OutOfRange"
rule_name rules.TooMany = codes "TooMany"
rule_name rules.TooDeep = codes "TooDeep"
rule_name rules.DoubleId = codes "DoubleId"
rule_name rules.UnknownEnd = codes "UnknownEnd"
rule_name rules.Hyperedge = codes "Hyperedge"
rule_name rules.CrossLevel = codes "CrossLevel"
rule_name rules.OptionValue = codes "OptionValue"
rule_name rules.PortInside = codes "PortInside"
rule_name rules.NotPlaced = codes "NotPlaced"
