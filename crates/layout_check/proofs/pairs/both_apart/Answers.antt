use Rattle.std.proofs.Common.{rules}
use Rattle.std.proofs.lemmas.Bool.{both_ways}
use Rattle.layout_check.proofs.pairs.both_apart.Goals as goal

pub returns-then-not-apart : goal.returns-then-not-apart
returns-then-not-apart c = (
  λ t. absurd (search rules),
  λ h. absurd (both_ways c.layers_apart-apart.result c.if-not-apart.true (c.layers_apart-apart.ensures.1 h.0)),
)

pub returns : goal.returns
returns c = (
  λ t. (c.layers_apart-apart.ensures.0 c.if-not-apart.false, c.layers_apart.ensures.0 t),
  λ h. c.layers_apart.ensures.1 h.1,
)
