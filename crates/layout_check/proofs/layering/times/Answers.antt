use Rattle.std.proofs.Common.{◌≤◌, ◌^◌, arith}
use Rattle.std.proofs.Math.Nat.{mul-le-mul}
use Rattle.layout_check.proofs.layering.times.Goals as goal

pub returns-clause-small : goal.returns-clause-small
returns-clause-small c =
    let weight : c.from.result ≤ 2 ^ 20 = omega arith in
    let rise : c.from-2.result ≤ 2 ^ 32 = omega arith in
    let product = mul-le-mul weight rise in
    omega (arith, product)
