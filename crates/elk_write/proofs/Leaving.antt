-- Tokens that are written one after the other.
use Rattle.std.proofs.Common.{List, ◌++◌, ap, ◌∙◌, append_assoc}
use Rattle.json.specs.Token.{Token}
use Rattle.json.specs.Written.{Written}
use Rattle.elk_write.specs.Tokens.{Adds, Leaves}

-- some tokens more
pub further : (a b c : Written) (all vs left : List Token) → Leaves a all b (vs ++ left) → Adds b c vs → Leaves a all c left
further a b c all vs left h g = (g.0 ∙ h.0, ap (λ ts. ts ++ left) g.1 ∙ append_assoc b.tokens vs left ∙ h.1)

-- the last tokens
pub ended : (a b c : Written) (all left : List Token) → Leaves a all b left → Adds b c left → Adds a c all
ended a b c all left h g = (g.0 ∙ h.0, g.1 ∙ h.1)

-- two runs of tokens
pub both : (a b c : Written) (ts us : List Token) → Adds a b ts → Adds b c us → Adds a c (ts ++ us)
both a b c ts us h g = (g.0 ∙ h.0, g.1 ∙ ap (λ s. s ++ us) h.1 ∙ append_assoc a.tokens ts us)

-- first up to one place, and then up to another
pub onward : (a b c : Written) (all middle left : List Token) → Leaves a all b middle → Leaves b middle c left → Leaves a all c left
onward a b c all middle left h g = (g.0 ∙ h.0, g.1 ∙ h.1)
