use Rattle.elk_options.specs.declared.names.OptionName.TheVariants as name
use Rattle.elk_options.proofs.OptionBounds.{distance, twenty, sound_spacing, sound_padding, sound_index, sound_weight}
use Rattle.elk_options.proofs.laws.options_keep_ranges.Goals as goal

pub returns-clause-spacing : goal.returns-clause-spacing
returns-clause-spacing c = λ d. sound_spacing d

pub returns-clause-component : goal.returns-clause-component
returns-clause-component c = λ d. distance 20 name.ComponentComponent d twenty

pub returns-clause-padding : goal.returns-clause-padding
returns-clause-padding c = λ d. sound_padding name.Padding d

pub returns-clause-index : goal.returns-clause-index
returns-clause-index c = λ d. sound_index name.PortIndex d

pub returns-clause-weight : goal.returns-clause-weight
returns-clause-weight c = λ d. sound_weight d
