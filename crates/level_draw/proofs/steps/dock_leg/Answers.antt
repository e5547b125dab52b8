use Rattle.std.proofs.Common.{◌<◌, ◌∙◌, ℕ, length, slice_index, sym, subst, ap, ap₂}
use Rattle.std.proofs.lemmas.Grind.{get_or_default_zero}
use Rattle.route_lines.specs.declared.Step.TheVariants.{Leg}
use Rattle.level_nets.specs.Read.{gap_named}
use Rattle.level_draw.proofs.RangeLemmas.{end_there}
use Rattle.level_draw.proofs.steps.dock_leg.Goals as goal

pub at-requires : goal.at-requires
at-requires c =
    subst (λ i. i < length c.args.routing.now.docks) (sym c.end_number.ensures) (end_there c.args.edge c.args.at_source _ _ c.requires.edge c.requires.legs.docks)

pub returns : goal.returns
unfolding gap_named
returns c =
    let inside = subst (λ i. i < length c.args.routing.now.docks) (sym c.end_number.ensures) (end_there c.args.edge c.args.at_source _ _ c.requires.edge c.requires.legs.docks) in
    ap₂ (λ (g k : ℕ). Leg g k c.args.from_a)
    c.dock_gap.ensures.value
    (c.at.ensures ∙ get_or_default_zero c.args.routing.now.docks c.end_number.result _ inside ∙ ap (slice_index c.args.routing.now.docks) c.end_number.ensures)
