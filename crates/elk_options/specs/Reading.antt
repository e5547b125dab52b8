-- The options of an element.
use Rattle.std.specs.Prelude.{◌≡◌, ℕ, List, [], ◌∷◌, ◌++◌, map, Bool, true, false, not, ◌&&◌, is_some, find, Option, Some, None, option_map}
use Rattle.std.specs.Prelude.{unwrap_or, ℤ, pos, nat_abs, Result, MatchResult}
use Rattle.std.specs.Option.{option_map_or, option_and_then}
use Rattle.std.specs.Int.{int_max}
use Rattle.serde_json.specs.Data.{Data}
use Rattle.elk_doc.specs.declared.document.Direction.TheVariants as direction
use Rattle.elk_doc.specs.declared.document.PortRule.{PortRule}
use Rattle.elk_doc.specs.declared.document.PortRule.TheVariants as rule
use Rattle.elk_doc.specs.declared.document.Placing.TheVariants as placing
use Rattle.elk_doc.specs.declared.document.Slotting.TheVariants as slotting
use Rattle.elk_doc.specs.declared.document.Choices.{Choices}
use Rattle.elk_doc.specs.declared.document.Padding.{Padding}
use Rattle.elk_doc.specs.declared.document.Spacing.{Spacing}
use Rattle.elk_doc.specs.declared.document.LevelOptions.{LevelOptions}
use Rattle.level_choices.specs.declared.choices.Choice.{Choice}
use Rattle.level_choices.specs.Choices.{all_choices, choices_with, form_of}
use Rattle.elk_options.specs.declared.names.OptionName.{OptionName}
use Rattle.elk_options.specs.declared.names.OptionName.TheVariants as name
use Rattle.elk_options.specs.declared.options.Role.{Role}
use Rattle.elk_options.specs.declared.options.Role.TheVariants.{Level, Leaf, Port, Edge}
use Rattle.elk_options.specs.declared.options.Options.{Options}
use Rattle.elk_options.specs.declared.options.BadValue.{BadValue}
use Rattle.elk_options.specs.declared.options.FrontValues.{FrontValues}
use Rattle.elk_options.specs.declared.options.BackValues.{BackValues}
use Rattle.elk_options.specs.declared.options.ChosenValues.{ChosenValues}
use denote.Bor.{Bor}
use Rattle.serde_json.specs.View.{view}
use Rattle.serde_json.specs.declared.value.Value.{Value}
use Rattle.elk_options.specs.Names.{asked, or_empty}
use Rattle.elk_options.specs.Table.{to_boxes, to_direction, to_rule, to_side, to_index, to_routing, to_padding, to_distance, to_sweep}
use Rattle.elk_options.specs.Table.{to_shortness, to_truth, to_placing, to_slots, to_number, to_position}

unfoldable pub front_names : List OptionName
front_names = name.Algorithm ∷ name.Direction ∷ name.PortConstraints ∷ name.EdgeRouting ∷ name.Padding ∷ []

unfoldable pub spacing_names : List OptionName
spacing_names = name.NodeNode ∷ name.EdgeNode ∷ name.EdgeEdge ∷ name.NodeLayers ∷ name.EdgeNodeLayers ∷ name.EdgeEdgeLayers ∷ []

unfoldable pub back_names : List OptionName
back_names = name.FixedAlignment ∷ name.SeparateParts ∷ name.ComponentComponent ∷ name.NodePlacement ∷ []

-- what a level chooses, and the position of its node
unfoldable pub choice_names : List OptionName
choice_names = name.Slots ∷ (map name.Choice all_choices ++ (name.Position ∷ []))

-- the options that are read in a role, in order
abbrev pub names_of : Role → List OptionName
names_of Level = front_names ++ (spacing_names ++ (back_names ++ choice_names))
names_of Leaf = name.PortConstraints ∷ name.Position ∷ []
names_of Port = name.PortSide ∷ name.PortIndex ∷ []
names_of Edge = name.Shortness ∷ []

-- a value of the option's table
abbrev pub is_valued : OptionName → Data → Bool
is_valued name.Algorithm d = is_some (to_boxes d)
is_valued name.Direction d = is_some (to_direction d)
is_valued name.PortConstraints d = is_some (to_rule d)
is_valued name.PortSide d = is_some (to_side d)
is_valued name.PortIndex d = is_some (to_index d)
is_valued name.EdgeRouting d = is_some (to_routing d)
is_valued name.Padding d = is_some (to_padding d)
is_valued name.NodeNode d = is_some (to_distance d)
is_valued name.EdgeNode d = is_some (to_distance d)
is_valued name.EdgeEdge d = is_some (to_distance d)
is_valued name.NodeLayers d = is_some (to_distance d)
is_valued name.EdgeNodeLayers d = is_some (to_distance d)
is_valued name.EdgeEdgeLayers d = is_some (to_distance d)
is_valued name.FixedAlignment d = is_some (to_sweep d)
is_valued name.Shortness d = is_some (to_shortness d)
is_valued name.SeparateParts d = is_some (to_truth d)
is_valued name.ComponentComponent d = is_some (to_distance d)
is_valued name.NodePlacement d = is_some (to_placing d)
is_valued name.Slots d = is_some (to_slots d)
is_valued (name.Choice choice) d = is_some (to_number (form_of choice) d)
is_valued name.Position d = is_some (to_position d)

-- the option is there, with a value outside its table
unfoldable pub is_bad : Data → OptionName → Bool
is_bad d option = option_map_or (λ v. not (is_valued option v)) (asked option d) false

-- the first option read in the role whose value is outside its table
unfoldable pub first_bad : Role → Data → Option OptionName
first_bad role d = find (is_bad d) (names_of role)

-- the option's value, or its default
abbrev pub value_or : {T : Type 0} → (Data → Option T) → T → OptionName → Data → T
value_or to default option d = unwrap_or (option_and_then to (asked option d)) default

-- a distance counts as at least 1
abbrev pub distance_or : ℕ → OptionName → Data → ℤ
distance_or default option d = int_max (value_or to_distance (pos default) option d) (pos 1)

unfoldable pub spacing_of : Data → Spacing
spacing_of d = record {
  node_node = distance_or 20 name.NodeNode d;
  edge_node = distance_or 10 name.EdgeNode d;
  edge_edge = distance_or 10 name.EdgeEdge d;
  node_layers = distance_or 20 name.NodeLayers d;
  edge_node_layers = distance_or 10 name.EdgeNodeLayers d;
  edge_edge_layers = distance_or 10 name.EdgeEdgeLayers d;
}

abbrev pub usual_padding : Padding
usual_padding = record { top = pos 12; left = pos 12; bottom = pos 12; right = pos 12 }

-- the number of a choice, or 0 where it is not asked
unfoldable pub number_of : Data → Choice → ℕ
number_of d choice = value_or (to_number (form_of choice)) 0 (name.Choice choice) d

-- the position of a node, which it has where one is given
unfoldable pub position_of : Data → Option ℤ
position_of d = value_or to_position None name.Position d

unfoldable pub choices_of : Data → Choices
choices_of d = choices_with (value_or to_slots slotting.Fewest name.Slots d) (number_of d)

unfoldable pub rule_of : Data → PortRule
rule_of d = value_or to_rule rule.Free name.PortConstraints d

-- a weight is at least 1
unfoldable pub weight_of : Data → ℕ
weight_of d = nat_abs (int_max (value_or to_shortness (pos 0) name.Shortness d) (pos 1))

-- ---- the parts of a level's options

-- what a node asks before the distances
abbrev pub front_of : Data → FrontValues
front_of d =
    record {
      boxes = value_or to_boxes false name.Algorithm d;
      direction = value_or to_direction direction.Right name.Direction d;
      rule = rule_of d;
      padding = value_or to_padding usual_padding name.Padding d;
    }

-- what a level asks between the distances and the choices
abbrev pub back_of : Data → BackValues
back_of d =
    record {
      sweep = value_or to_sweep None name.FixedAlignment d;
      split = value_or to_truth false name.SeparateParts d;
      component = distance_or 20 name.ComponentComponent d;
      placing = value_or to_placing placing.BrandesKoepf name.NodePlacement d;
    }

-- the choices of a level, and the position of its node
abbrev pub chosen_of : Data → ChosenValues
chosen_of d = record { choices = choices_of d; position = position_of d }

-- a level of its parts; one of boxes is never split
abbrev pub level_from : FrontValues → Spacing → BackValues → Choices → LevelOptions
level_from front spacing back choices = record {
  direction = front.direction;
  spacing = spacing;
  padding = front.padding;
  fixed = back.sweep;
  split = not front.boxes && back.split;
  component = back.component;
  placing = back.placing;
  boxes = front.boxes;
  choices = choices;
}

-- ---- the options of an element

unfoldable pub level_of : Data → LevelOptions
level_of d = level_from (front_of d) (spacing_of d) (back_of d) (choices_of d)

-- what an element has where its role reads nothing
abbrev pub usual_options : Options
usual_options = record { level = None; rule = rule.Free; position = None; side = None; index = pos 0; weight = 1 }

unfoldable pub options_of : Role → Data → Options
options_of Level d = record usual_options { level = Some (level_of d); rule = rule_of d; position = position_of d }
options_of Leaf d = record usual_options { rule = rule_of d; position = position_of d }
options_of Port d = record usual_options {
  side = value_or to_side None name.PortSide d;
  index = value_or to_index (pos 0) name.PortIndex d;
}
options_of Edge d = record usual_options { weight = weight_of d }

-- ---- for private clauses

-- the options handed in are read: the value, or the first of these names whose value is outside its table
abbrev pub ReadsAll : {T : Type 0} → List OptionName → Data → T → Result T BadValue → Type 0
ReadsAll names d value r =
    MatchResult r (λ v. (find (is_bad d) names ≡ None) × (v ≡ value)) (λ e. find (is_bad d) names ≡ Some e.option)

-- one option is read

-- the option's value or default, or its name where its value is outside the table
abbrev pub Reads : {T : Type 0} → OptionName → Data → T → Result T BadValue → Type 0
Reads option d value r =
    MatchResult r (λ v. (is_bad d option ≡ false) × (v ≡ value)) (λ e. (e ≡ record { option = option }) × (is_bad d option ≡ true))

-- the options that are handed in
abbrev pub given : Option (Bor Value) → Data
given o = or_empty (option_map (λ v. view v.now) o)
