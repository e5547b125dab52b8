use Rattle.std.proofs.Common.{◌<◌, ℤ, SFits, length, rules, subst, w64}
use Rattle.std.proofs.lemmas.Int.{to_z-of_z}
use Rattle.layout_check.specs.BoxBounds.{Encloses}
use Rattle.layout_check.proofs.BoxBoundsLaws.{set_keeps, set_holds}
use Rattle.layout_check.proofs.box_bounds.add.Goals as goal

pub returns-clause-kept : goal.returns-clause-kept
returns-clause-kept c =
    let inside : c.args.part < length c.args.bounds.now = search rules in
    set_keeps c.args.options.now c.args.bounds.now c.args.part c.join.result inside c.join.ensures.one

pub returns-clause-held : goal.returns-clause-held
returns-clause-held c =
    let o = c.args.options.now in
    let inside : c.args.part < length c.args.bounds.now = search rules in
    let fits : SFits w64 o.component = search rules in
    let P : ℤ → Type 0 = λ z. Encloses z o.direction c.bounds_of-around.result c.args.r in
    let around = subst P (to_z-of_z w64 o.component fits) c.bounds_of-around.ensures in
    λ _. set_holds o c.args.bounds.now c.args.part c.join.result c.bounds_of-around.result c.args.r inside c.join.ensures.other around
