use Rattle.std.proofs.Common.{◌∙◌, FitsSigned, w64, refl, rules}
use Rattle.std.proofs.lemmas.Int.{to_z-of_z}
use Rattle.layer_units.specs.Reading.{link_with}
use Rattle.layer_units.proofs.RoomLemmas.{same_link}
use Rattle.layer_units.proofs.pins.fitted_link.Goals as goal

pub returns : goal.returns
unfolding link_with
returns c =
    let tail_fits : FitsSigned w64 c.pin_at-tail_at.result = search rules in
    let head_fits : FitsSigned w64 c.pin_at-head_at.result = search rules in
    same_link _ _ refl refl refl refl refl
    (to_z-of_z w64 c.pin_at-tail_at.result tail_fits ∙ c.pin_at-tail_at.ensures)
    (to_z-of_z w64 c.pin_at-head_at.result head_fits ∙ c.pin_at-head_at.ensures)
