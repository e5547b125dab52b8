use Rattle.rotated_levels.proofs.WholeLemmas.{certificates_rotate_back}
use Rattle.rotated_levels.proofs.certificates.certificates_rotate_back.Goals as goal

pub returns : goal.returns
returns c = certificates_rotate_back
