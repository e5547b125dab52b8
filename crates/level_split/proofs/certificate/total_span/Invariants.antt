use Rattle.std.proofs.Common.{◌≡◌}
use Rattle.rotated_levels.specs.CertificateJoined.{spans_to}
use Rattle.level_split.specs.Gathered.{certificate_at}
use Rattle.level_split.proofs.certificate.total_span.Given as goal

abbrev pub invariant-loop-i : goal.invariant-loop-i
invariant-loop-i l = l.total ≡ spans_to (certificate_at l.outs) l.i
