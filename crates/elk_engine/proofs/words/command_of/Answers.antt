use Rattle.std.proofs.Common.{◌≡◌, ◌∙◌, ap₂, codes}
use Rattle.std.specs.Prelude.{option_map}
use Rattle.clap.specs.Words.{found_of}
use Rattle.clap.proofs.WalkLemmas.{first_value-rows}
use Rattle.elk_engine.specs.Words.{chosen_of}
use Rattle.elk_engine.proofs.words.command_of.Goals as goal

pub returns-in-Ok-clause-asked : goal.returns-in-Ok-clause-asked
returns-in-Ok-clause-asked c =
    let name : option_map (λ s. s.now) c.get_str.result ≡ _ = c.get_str.ensures ∙ first_value-rows (found_of c.in-Ok.matches) (codes "command") in
    let number : option_map (λ s. s.now) c.get_str-in-Ok.result ≡ _ = c.get_str-in-Ok.ensures ∙ first_value-rows (found_of c.in-Ok.matches) (codes "n") in
    c.chosen.ensures.value ∙ ap₂ chosen_of name number ∙ c.in-Ok.ensures.ok
