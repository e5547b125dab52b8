use Rattle.std.proofs.Common.{◌∙◌, ℕ, true, arith, sym, subst, ap, ap₂}
use Rattle.std.proofs.lemmas.List.{get_or_default}
use Rattle.drawing_types.specs.declared.shape.Side.TheVariants.{East}
use Rattle.route_lines.specs.declared.Step.TheVariants.{Leg}
use Rattle.level_model.specs.declared.table.EndAt.{EndAt}
use Rattle.level_nets.specs.declared.pushing.LoopLegs.{LoopLegs}
use Rattle.level_nets.specs.Read.{gap_at}
use Rattle.level_nets.specs.Reach.{parts_in, IsDockIn}
use Rattle.level_draw.proofs.loops.east_leg.Goals as goal

pub gap_at-requires-clause-dock : goal.gap_at-requires-clause-dock
gap_at-requires-clause-dock c =
    subst (λ (v : EndAt). IsDockIn (parts_in c.args.sheet.now) v.dock) (sym c.end_at.ensures) (c.requires.sheet.reach.ends c.args.edge true c.requires.edge).dock

pub returns : goal.returns
returns c =
    let s = parts_in c.args.sheet.now in
    let edge = c.requires.edge in
    let many = c.requires.legs.loops in
    ap₂ (λ (g k : ℕ). Leg g k true)
    (c.gap_at.ensures.value ∙ ap (λ (v : EndAt). gap_at s v.dock East) c.end_at.ensures)
    (ap (λ (v : LoopLegs). v.east) (c.at.ensures ∙ get_or_default c.args.routing.now.loops c.args.edge _ _ (omega (arith, edge, many))))
