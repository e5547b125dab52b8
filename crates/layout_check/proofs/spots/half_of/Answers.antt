use Rattle.std.proofs.Common.{◌≤ℤ◌, pos, sym, subst, ℤ}
use Rattle.elk_doc.proofs.ShapeLaws.{half_of-bits, half_of-bounds}
use Rattle.layout_check.proofs.spots.half_of.Goals as goal

pub returns-clause-value : goal.returns-clause-value
returns-clause-value c = half_of-bits c.args.length c.requires c.ranges.length

pub returns-clause-least : goal.returns-clause-least
returns-clause-least c =
    let P : ℤ → Type 0 = λ z. pos 0 ≤ℤ z in
    subst P (sym (returns-clause-value c)) (half_of-bounds c.args.length c.requires).0

pub returns-clause-most : goal.returns-clause-most
returns-clause-most c =
    let P : ℤ → Type 0 = λ z. z ≤ℤ c.args.length in
    subst P (sym (returns-clause-value c)) (half_of-bounds c.args.length c.requires).1
