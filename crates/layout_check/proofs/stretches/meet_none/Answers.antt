use Rattle.std.proofs.Common.{IsTrue, rules, w64}
use Rattle.std.proofs.lemmas.Int.{to_z-of_z}
use Rattle.layout_check.proofs.EndLaws.{none_in_part}
use Rattle.layout_check.proofs.stretches.meet_none.Goals as goal

pub returns : goal.returns
returns c =
    let says = rw (to_z-of_z w64 c.args.a c.ranges.a, to_z-of_z w64 c.args.b c.ranges.b) at c.any_meets.ensures in
    λ t. none_in_part c.args.lo.now c.args.hi.now c.args.from c.args.to c.args.a c.args.b c.requires.inside (λ m. let yes : IsTrue c.any_meets.result = says.1 m in absurd (search rules))
