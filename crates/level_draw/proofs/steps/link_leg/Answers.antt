use Rattle.std.proofs.Common.{◌∙◌, ℕ, true, arith, ap₂}
use Rattle.std.proofs.lemmas.Grind.{get_or_default_zero}
use Rattle.route_lines.specs.declared.Step.TheVariants.{Leg}
use Rattle.level_nets.specs.Read.{gap_named}
use Rattle.level_draw.proofs.steps.link_leg.Goals as goal

pub returns : goal.returns
unfolding gap_named
returns c =
    let link = c.requires.link in
    let many = c.requires.legs.links in
    ap₂ (λ (g k : ℕ). Leg g k true)
    c.link_gap.ensures.value
    (c.at.ensures ∙ get_or_default_zero c.args.routing.now.links c.args.link _ (omega (arith, link, many)))
