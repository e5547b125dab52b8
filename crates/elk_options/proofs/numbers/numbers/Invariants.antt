use Rattle.std.proofs.Common.{◌≡◌, None, map, take}
use Rattle.std.specs.Prelude.{find}
use Rattle.level_choices.specs.Choices.{all_choices, filled}
use Rattle.elk_options.specs.declared.names.OptionName.TheVariants as name
use Rattle.elk_options.specs.Reading.{given, is_bad, number_of}
use Rattle.elk_options.proofs.numbers.numbers.Given as goal

abbrev pub invariant-loop-place : goal.invariant-loop-place
invariant-loop-place l = record {
  good : find (is_bad (given l.options)) (map name.Choice (take l.place all_choices)) ≡ None;
  read : l.numbers ≡ filled (map (number_of (given l.options)) (take l.place all_choices));
}
