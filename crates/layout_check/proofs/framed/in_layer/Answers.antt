use Rattle.std.proofs.Common.{◌≤ℤ◌, arith, refl, rules}
use Rattle.std.proofs.lemmas.Int.{ints, to_z-of_z}
use Rattle.std.specs.Int.{w128}
use Rattle.layout_check.proofs.BoxBoundsLaws.{above}
use Rattle.layout_check.proofs.FrontLaws as laws
use Rattle.layout_check.proofs.framed.in_layer.Goals as goal

pub returns : goal.returns
returns c =
    let f = c.args.front in
    let s = c.args.child in
    let behind = to_z-of_z w128 f.behind (search rules) in
    let left = to_z-of_z w128 s.left (search rules) in
    let test = rw (left, behind) at c.if-child-front.false in
    let near : f.behind ≤ℤ s.left = omega (arith, ints, test) in
    let bottom = to_z-of_z w128 f.bottom (search rules) in
    let top = to_z-of_z w128 s.top (search rules) in
    let test_below = rw (top, bottom) at c.if-child-front-2.false in
    let under : f.bottom ≤ℤ s.top = omega (arith, ints, test_below) in
    let right = c.further.ensures in
    let below = c.further-2.ensures in
    laws.in_layer f _ s c.requires.part c.requires.layer near under refl refl behind
    (above c.further.result f.right (search rules) (search rules) right.one)
    (above c.further.result s.right (search rules) (search rules) right.other)
    (above c.further-2.result f.bottom (search rules) (search rules) below.one)
    (above c.further-2.result s.bottom (search rules) (search rules) below.other)
