-- Ranges that options keep, whatever is asked, and what holds where nothing is.
use Rattle.std.specs.Prelude.{◌≡◌, ◌-◌, ◌^◌, ◌≤◌, pos, neg_ℤ, None}
use Rattle.serde_json.specs.Data.{Data}
use Rattle.elk_doc.specs.declared.document.Direction.TheVariants as direction
use Rattle.elk_doc.specs.Defaults.{default_options}
use Rattle.elk_doc.specs.Sound.{IsDistance, IsSoundSpacing, IsSoundPadding}
use Rattle.drawing_types.specs.Ranges.{IsWithin}
use Rattle.elk_options.specs.declared.names.OptionName.{OptionName}
use Rattle.elk_options.specs.declared.names.OptionName.TheVariants as name
use Rattle.elk_options.specs.declared.options.Role.{Role}
use Rattle.elk_options.specs.Names.{asked, or_empty}
use Rattle.elk_options.specs.Table.{to_index, to_padding}
use Rattle.elk_options.specs.Reading.{spacing_of, value_or, distance_or, usual_padding, weight_of, first_bad, level_of}

abbrev pub SpacingIsSound : Type 0
SpacingIsSound = (d : Data) → IsSoundSpacing (spacing_of d)

abbrev pub ComponentIsSound : Type 0
ComponentIsSound = (d : Data) → IsDistance (distance_or 20 name.ComponentComponent d)

abbrev pub PaddingIsSound : Type 0
PaddingIsSound = (d : Data) → IsSoundPadding (value_or to_padding usual_padding name.Padding d)

abbrev pub IndexIsSound : Type 0
IndexIsSound = (d : Data) → IsWithin (neg_ℤ (pos (2 ^ 31))) (pos (2 ^ 31 - 1)) (value_or to_index (pos 0) name.PortIndex d)

abbrev pub WeightIsSound : Type 0
WeightIsSound = (d : Data) → (1 ≤ weight_of d) × (weight_of d ≤ 2 ^ 20)

-- none of the options is there
abbrev pub AsksNothing : Data → Type 0
AsksNothing d = (option : OptionName) → asked option d ≡ None

abbrev pub NoOptionsAskNothing : Type 0
NoOptionsAskNothing = AsksNothing (or_empty None)

abbrev pub NothingAskedIsNotBad : Type 0
NothingAskedIsNotBad = (d : Data) (role : Role) → AsksNothing d → first_bad role d ≡ None

-- the level that they give flows to the right
abbrev pub NothingAskedIsDefault : Type 0
NothingAskedIsDefault = (d : Data) → AsksNothing d → level_of d ≡ default_options direction.Right
