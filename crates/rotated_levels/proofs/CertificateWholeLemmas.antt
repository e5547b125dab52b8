-- Certificates of the parts are a certificate of the level.
use Rattle.rotated_levels.specs.CertificateJoined.{CertificatesJoin}
use Rattle.rotated_levels.proofs.NetLemmas.{loops, solves}
use Rattle.rotated_levels.proofs.RotateLemmas.{are_reversed}

pub certificates_join : CertificatesJoin
certificates_join l numbers count own c are joined =
    record {
      reversed = are_reversed l numbers count own c are joined;
      layer_for_each = joined.layer_for_each;
      flow_for_each = joined.flow_for_each;
      loops = loops l numbers count own c are joined;
      solves = solves l numbers count own c are joined;
    }
