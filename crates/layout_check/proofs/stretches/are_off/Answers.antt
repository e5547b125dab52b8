use Rattle.std.proofs.Common.{◌≤ℤ◌, ◌-◌, ◌^◌, SFits, false, inl, inr, pos, rules, true, w64}
use Rattle.std.proofs.lemmas.Int.{to_z-of_z}
use Rattle.layout_check.proofs.EndLaws.{off_in_part}
use Rattle.layout_check.proofs.stretches.are_off.Goals as goal

pub returns-then-meet_none : goal.returns-then-meet_none
returns-then-meet_none c =
    let b = c.args.bounds in
    let low : SFits w64 b.left = search rules in
    let high : SFits w64 b.right = search rules in
    let most : b.left ≤ℤ pos (2 ^ 63 - 1) = search rules in
    let none = rw (c.as_slice-left.ensures.value, c.as_slice-right.ensures.value, to_z-of_z w64 b.left low, to_z-of_z w64 b.right high) at (c.meet_none.ensures c.if-meet_none.true) in
    λ _ a above below. inl (off_in_part c.args._doc.now c.args._placed.now false c.args.ends.now.left.items c.args.ends.now.right.items c.args.from c.args.to b.left b.right c.requires.ends.left c.requires.ends.right c.requires.inside most none a above below)

pub returns : goal.returns
returns c =
    let b = c.args.bounds in
    let low : SFits w64 b.top = search rules in
    let high : SFits w64 b.bottom = search rules in
    let most : b.top ≤ℤ pos (2 ^ 63 - 1) = search rules in
    λ t a above below.
    let none = rw (c.as_slice-top.ensures.value, c.as_slice-bottom.ensures.value, to_z-of_z w64 b.top low, to_z-of_z w64 b.bottom high) at (c.meet_none-2.ensures t) in
    inr (off_in_part c.args._doc.now c.args._placed.now true c.args.ends.now.top.items c.args.ends.now.bottom.items c.args.from c.args.to b.top b.bottom c.requires.ends.top c.requires.ends.bottom c.requires.inside most none a above below)
