use Rattle.std.proofs.Common.{◌≡◌, ◌<◌, ◌-◌, length, arith, rules}
use Rattle.std.proofs.lemmas.Bool.Decides.{nat_tests}
use Rattle.route_lines.proofs.PuttingBefore.{nothing_tidied, begin_tidied}
use Rattle.route_lines.proofs.tidying.tidy.Goals as goal

pub returns-then-is_empty : goal.returns-then-is_empty
returns-then-is_empty c =
    let none : length c.args.points.now ≡ 0 = grind (arith, nat_tests) in
    nothing_tidied c.args.points.now c.new.result.items none (search rules)

pub points-init : goal.points-init
points-init c =
    let some : 0 < length c.args.points.now = grind (arith, nat_tests) in
    record {
      in_list = omega arith;
      tidied = begin_tidied c.args.points.now _ (length c.args.points.now - 1) _ (omega arith) c.new-path.ensures;
    }
