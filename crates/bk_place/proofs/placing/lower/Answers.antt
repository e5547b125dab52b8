use Rattle.std.proofs.Common.{arith}
use Rattle.std.proofs.lemmas.Int.{ints}
use Rattle.bk_place.proofs.HeightLemmas.{first_of_both, first_stays}
use Rattle.bk_place.proofs.placing.lower.Goals as goal

pub returns-then-second-first : goal.returns-then-second-first
returns-then-second-first c = λ l rows a b d p q.
    first_of_both l rows a b d c.args.first.lines.top.items c.args.second.lines.top.items c.args.first.height c.args.second.height p q (let h = c.if-second-first.true in omega (arith, ints, h))

pub returns-else-second-first : goal.returns-else-second-first
returns-else-second-first c = λ l rows a b d p q.
    first_stays l rows a b d c.args.first.lines.top.items c.args.second.lines.top.items c.args.first.height c.args.second.height p q (let h = c.if-second-first.false in omega (arith, ints, h))
