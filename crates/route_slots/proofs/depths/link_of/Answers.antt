use Rattle.std.proofs.Common.{rules}
use Rattle.route_slots.specs.Numbers.{across}
use Rattle.route_slots.proofs.depths.link_of.Goals as goal

pub returns-in-Some : goal.returns-in-Some
returns-in-Some c =
    across c.in-Some.sides.left c.in-Some.sides.right (search rules) (search rules) (search rules)
