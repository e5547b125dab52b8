use Rattle.std.proofs.Common.{rules}
use Rattle.std.proofs.lemmas.Bool.{both_ways}
use Rattle.layout_check.proofs.ports.port_kept.Goals as goal

pub returns-then-not-keeps_port : goal.returns-then-not-keeps_port
returns-then-not-keeps_port c =
    (λ t. absurd (search rules), λ h. absurd (both_ways c.keeps_port.result c.if-not-keeps_port.true (c.keeps_port.ensures.1 h.alone)))

pub returns : goal.returns
returns c = (
  λ t. record { alone = c.keeps_port.ensures.0 c.if-not-keeps_port.false; lower = c.lower_hold.ensures.0 t },
  λ h. c.lower_hold.ensures.1 h.lower,
)
