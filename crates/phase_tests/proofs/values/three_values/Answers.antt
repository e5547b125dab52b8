use Rattle.std.proofs.Common.{◌≡◌, rules}
use Rattle.phase_tests.proofs.ThreeValues.{numbers, floors, three_bounds, three_solvable}
use Rattle.phase_tests.proofs.values.three_values.Goals as goal

pub least_lines-requires : goal.least_lines-requires
least_lines-requires g c =
    let order : c.push-3.new.self.items ≡ numbers = search rules in
    let floor : c.push-6.new.self.items ≡ floors = search rules in
    let bounds : c.push-9.new.self.items ≡ three_bounds = search rules in
    rw (order, floor, bounds) three_solvable
