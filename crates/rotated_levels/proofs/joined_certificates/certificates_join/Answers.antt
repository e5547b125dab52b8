use Rattle.rotated_levels.proofs.CertificateWholeLemmas.{certificates_join}
use Rattle.rotated_levels.proofs.joined_certificates.certificates_join.Goals as goal

pub returns : goal.returns
returns c = certificates_join
