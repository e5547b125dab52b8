use Rattle.std.proofs.Common.{◌↔◌, IsTrue, ap, refl, rules, subst}
use Rattle.std.proofs.lemmas.Bool.{both_ways}
use Rattle.layout_check.specs.declared.spots.SideSpot.{SideSpot}
use Rattle.layout_check.specs.Spots.{IsRoomy}
use Rattle.layout_check.proofs.ends.end_kept.Goals as goal

pub returns-then-not-keeps_end : goal.returns-then-not-keeps_end
returns-then-not-keeps_end c =
    (λ t. absurd (search rules), λ h. absurd (both_ways c.keeps_end.result c.if-not-keeps_end.true (c.keeps_end.ensures.1 h.alone)))

pub returns-then-is_apart : goal.returns-then-is_apart
returns-then-is_apart c =
    (λ t. record { alone = c.keeps_end.ensures.0 c.if-not-keeps_end.false; apart = c.is_apart.ensures.holds c.if-is_apart.true }, λ h. refl)

pub returns : goal.returns
returns c =
    let side = ap (λ (x : SideSpot). x.side) c.end_spot-spot.ensures in
    let room = subst (λ s. IsTrue c.is_roomy-roomy.result ↔ IsRoomy c.args.scene.now.doc.now c.args.scene.now.placed.now c.args.node s) side c.is_roomy-roomy.ensures in
    let apart = c.is_apart-2.ensures in
    (λ t. record { alone = c.keeps_end.ensures.0 c.if-not-keeps_end.false; apart = apart.holds t }, λ h. apart.fails room.0 h.apart)
