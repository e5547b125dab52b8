use Rattle.std.proofs.Common.{◌≤ℤ◌, arith, refl, rules}
use Rattle.std.proofs.lemmas.Int.{ints, to_z-of_z}
use Rattle.std.specs.Int.{w128}
use Rattle.layout_check.proofs.BoxBoundsLaws.{above}
use Rattle.layout_check.proofs.FrontLaws as laws
use Rattle.layout_check.proofs.framed.in_new_layer.Goals as goal

pub returns : goal.returns
returns c =
    let f = c.args.front in
    let s = c.args.child in
    let right = to_z-of_z w128 f.right (search rules) in
    let left = to_z-of_z w128 s.left (search rules) in
    let test = rw (left, right) at c.if-child-front.false in
    let near : f.right ≤ℤ s.left = omega (arith, ints, test) in
    let past = c.further.ensures in
    laws.in_new_layer f _ s c.requires.part c.requires.layer near refl refl right (to_z-of_z w128 s.bottom (search rules))
    (above c.further.result f.right (search rules) (search rules) past.one)
    (above c.further.result s.right (search rules) (search rules) past.other)
