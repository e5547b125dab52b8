use Rattle.elk_json.proofs.Soundness.{sound_document}
use Rattle.elk_json.proofs.laws.accepted_are_sound.Goals as goal

pub returns : goal.returns
returns c = λ d h. sound_document d h
