-- What holds where none of the options is there.
use Rattle.std.proofs.Common.{◌≡◌, List, [], ◌∷◌, false, None, refl, ap}
use Rattle.std.specs.Prelude.{find, length, map, replicate}
use Rattle.level_choices.specs.declared.choices.Choice.{Choice}
use Rattle.level_choices.specs.Choices.{all_choices, filled}
use Rattle.serde_json.specs.Data.{Data}
use Rattle.elk_doc.specs.declared.document.Direction.TheVariants as direction
use Rattle.elk_doc.specs.declared.document.Slotting.TheVariants.{Fewest}
use Rattle.elk_doc.specs.Defaults.{default_choices, default_options}
use Rattle.elk_options.specs.declared.names.OptionName.{OptionName}
use Rattle.elk_options.specs.declared.names.OptionName.TheVariants as name
use Rattle.elk_options.specs.declared.options.Role.{Role}
use Rattle.elk_options.specs.Names.{asked, or_empty}
use Rattle.elk_options.specs.Laws.{AsksNothing}
use Rattle.elk_options.specs.Reading.{is_bad, first_bad, names_of, level_of, spacing_of, choices_of, number_of}

pub none_asked : (option : OptionName) → asked option (or_empty None) ≡ None
none_asked option = refl

good : (d : Data) → AsksNothing d → (option : OptionName) → is_bad d option ≡ false
unfolding is_bad
good d none option = rw (none option) refl

all_good : (d : Data) → AsksNothing d → (options : List OptionName) → find (is_bad d) options ≡ None
all_good d none [] = refl
all_good d none (option ∷ more) = rw (good d none option) (all_good d none more)

pub not_bad : (d : Data) (role : Role) → AsksNothing d → first_bad role d ≡ None
unfolding first_bad
not_bad d role none = all_good d none (names_of role)

usual_numbers : (d : Data) → AsksNothing d → (choices : List Choice) → map (number_of d) choices ≡ replicate (length choices) 0
unfolding number_of
usual_numbers d none [] = refl
usual_numbers d none (choice ∷ more) = rw (none (name.Choice choice), usual_numbers d none more) refl

usual_choices : (d : Data) → AsksNothing d → choices_of d ≡ default_choices
unfolding choices_of
usual_choices d none =
    rw (none name.Slots) (ap (λ numbers. record { slots = Fewest; numbers = filled numbers }) (usual_numbers d none all_choices))

pub default_level : (d : Data) → AsksNothing d → level_of d ≡ default_options direction.Right
unfolding level_of spacing_of
default_level d none =
    rw (
      none name.Algorithm,
      none name.Direction,
      none name.Padding,
      none name.NodeNode,
      none name.EdgeNode,
      none name.EdgeEdge,
      none name.NodeLayers,
      none name.EdgeNodeLayers,
      none name.EdgeEdgeLayers,
      none name.FixedAlignment,
      none name.SeparateParts,
      none name.ComponentComponent,
      none name.NodePlacement,
      usual_choices d none,
    ) refl
