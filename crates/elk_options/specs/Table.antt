-- The values of each option, and its default.
use Rattle.std.specs.Prelude.{ℕ, ◌-◌, ◌^◌, List, Bool, true, false, ◌||◌, bytes_eq, codes, if◌then◌else◌, Option, Some, None}
use Rattle.std.specs.Prelude.{find, option_and_then, option_map, ℤ, pos, neg_ℤ, nat_abs}
use Rattle.std.specs.Option.{option_or}
use Rattle.serde_json.specs.Data.{Data}
use Rattle.serde_json.specs.Find.{as_bool, as_str}
use Rattle.elk_doc.specs.declared.document.Direction.{Direction}
use Rattle.elk_doc.specs.declared.document.Direction.TheVariants as direction
use Rattle.elk_doc.specs.declared.document.PortRule.{PortRule}
use Rattle.elk_doc.specs.declared.document.PortRule.TheVariants as rule
use Rattle.drawing_types.specs.declared.shape.Side.{Side}
use Rattle.drawing_types.specs.declared.shape.Side.TheVariants as side
use Rattle.drawing_types.specs.declared.sweep.Sweep.{Sweep}
use Rattle.drawing_types.specs.declared.sweep.Sweep.TheVariants as sweep
use Rattle.elk_doc.specs.declared.document.Placing.{Placing}
use Rattle.elk_doc.specs.declared.document.Placing.TheVariants as placing
use Rattle.elk_doc.specs.declared.document.Slotting.{Slotting}
use Rattle.elk_doc.specs.declared.document.Slotting.TheVariants as slotting
use Rattle.level_choices.specs.Choices.{Form, Words, Whole}
use Rattle.elk_doc.specs.declared.document.Padding.{Padding}
use Rattle.elk_options.specs.Values.{says, whole_within}
use Rattle.elk_options.specs.PaddingText.{padding_text}

-- ---- texts

-- whether the level is one of boxes; the case of letters counts here
abbrev pub boxes_text : List ℕ → Option Bool
boxes_text s =
    if bytes_eq s (codes "layered") || bytes_eq s (codes "elk.layered") || bytes_eq s (codes "org.eclipse.elk.layered") then Some false
    else (if bytes_eq s (codes "box") || bytes_eq s (codes "elk.box") || bytes_eq s (codes "org.eclipse.elk.box") then Some true
    else None)

abbrev pub direction_text : List ℕ → Option Direction
direction_text s =
    if says (codes "UNDEFINED") s || says (codes "RIGHT") s then Some direction.Right
    else (if says (codes "LEFT") s then Some direction.Left
    else (if says (codes "DOWN") s then Some direction.Down
    else (if says (codes "UP") s then Some direction.Up
    else None)))

abbrev pub rule_text : List ℕ → Option PortRule
rule_text s =
    if says (codes "UNDEFINED") s || says (codes "FREE") s then Some rule.Free
    else (if says (codes "FIXED_SIDE") s then Some rule.FixedSide
    else (if says (codes "FIXED_ORDER") s then Some rule.FixedOrder
    else (if says (codes "FIXED_POS") s then Some rule.FixedPos
    else None)))

abbrev pub side_text : List ℕ → Option (Option Side)
side_text s =
    if says (codes "UNDEFINED") s then Some None
    else (if says (codes "NORTH") s then Some (Some side.North)
    else (if says (codes "EAST") s then Some (Some side.East)
    else (if says (codes "SOUTH") s then Some (Some side.South)
    else (if says (codes "WEST") s then Some (Some side.West)
    else None))))

-- orthogonal is the only routing
abbrev pub routing_text : List ℕ → Option Bool
routing_text s = if says (codes "UNDEFINED") s || says (codes "ORTHOGONAL") s then Some true else None

abbrev pub sweep_text : List ℕ → Option (Option Sweep)
sweep_text s =
    if says (codes "NONE") s then Some None
    else (if says (codes "LEFTUP") s then Some (Some sweep.LeftUp)
    else (if says (codes "LEFTDOWN") s then Some (Some sweep.LeftDown)
    else (if says (codes "RIGHTUP") s then Some (Some sweep.RightUp)
    else (if says (codes "RIGHTDOWN") s then Some (Some sweep.RightDown)
    else None))))

abbrev pub truth_text : List ℕ → Option Bool
truth_text s = if says (codes "true") s then Some true else (if says (codes "false") s then Some false else None)

abbrev pub placing_text : List ℕ → Option Placing
placing_text s =
    if says (codes "NETWORK_SIMPLEX") s then Some placing.NetworkSimplex
    else (if says (codes "BRANDES_KOEPF") s || says (codes "SIMPLE") s || says (codes "LINEAR_SEGMENTS") s || says (codes "INTERACTIVE") s
    then Some placing.BrandesKoepf
    else None)

abbrev pub slots_text : List ℕ → Option Slotting
slots_text s =
    if says (codes "FEWEST") s then Some slotting.Fewest else (if says (codes "UNCROSSED") s then Some slotting.Uncrossed else None)

-- the number of the first of these words that the text is
abbrev pub word_number : List (List ℕ × ℕ) → List ℕ → Option ℕ
word_number words s = option_map (λ word. word.1) (find (λ word. says word.0 s) words)

-- ---- values

abbrev pub to_boxes : Data → Option Bool
to_boxes d = option_and_then boxes_text (as_str d)

abbrev pub to_direction : Data → Option Direction
to_direction d = option_and_then direction_text (as_str d)

abbrev pub to_rule : Data → Option PortRule
to_rule d = option_and_then rule_text (as_str d)

abbrev pub to_side : Data → Option (Option Side)
to_side d = option_and_then side_text (as_str d)

abbrev pub to_index : Data → Option ℤ
to_index d = whole_within (neg_ℤ (pos (2 ^ 31))) (pos (2 ^ 31 - 1)) d

abbrev pub to_routing : Data → Option Bool
to_routing d = option_and_then routing_text (as_str d)

abbrev pub to_padding : Data → Option Padding
to_padding d = option_and_then padding_text (as_str d)

abbrev pub to_distance : Data → Option ℤ
to_distance d = whole_within (pos 0) (pos (2 ^ 20)) d

abbrev pub to_sweep : Data → Option (Option Sweep)
to_sweep d = option_and_then sweep_text (as_str d)

abbrev pub to_shortness : Data → Option ℤ
to_shortness d = whole_within (neg_ℤ (pos (2 ^ 31))) (pos (2 ^ 20)) d

-- a truth value, or a text that writes one
abbrev pub to_truth : Data → Option Bool
to_truth d = option_or (as_bool d) (option_and_then truth_text (as_str d))

abbrev pub to_placing : Data → Option Placing
to_placing d = option_and_then placing_text (as_str d)

abbrev pub to_slots : Data → Option Slotting
to_slots d = option_and_then slots_text (as_str d)

-- the number of a choice with such values
abbrev pub to_number : Form → Data → Option ℕ
to_number (Words words) d = option_and_then (word_number words) (as_str d)
to_number (Whole low high) d = option_map nat_abs (whole_within (pos low) (pos high) d)

-- a position is there where it is given
abbrev pub to_position : Data → Option (Option ℤ)
to_position d = option_map Some (whole_within (neg_ℤ (pos (2 ^ 31))) (pos (2 ^ 31 - 1)) d)
