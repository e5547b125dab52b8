use Rattle.std.proofs.Common.{ℕ, subst}
use Rattle.elk_layers.specs.declared.units.Lines.{Lines}
use Rattle.elk_layers.specs.Layered.{plain, rows_of}
use Rattle.unit_blocks.specs.Constraints.{EndsWithinStack}
use Rattle.bk_place.specs.Placement.{AreLinesOf}
use Rattle.level_layout.specs.Chosen.{AreLeastHigh, AreChosenLines, straightness_for}
use Rattle.level_layout.proofs.LayoutLemmas.{if_both}
use Rattle.level_layout.proofs.PlacedLemmas.{by_alignment, by_height}
use Rattle.level_layout.proofs.lines.lines_for.Goals as goal

pub returns-in-BrandesKoepf : goal.returns-in-BrandesKoepf
returns-in-BrandesKoepf c =
    if_both c.place.result
    (λ (v : Lines). AreLinesOf (plain c.args.layered.now) (rows_of c.args.order.now) c.args.level.now.fixed v.top.items)
    (λ (v : Lines). EndsWithinStack (plain c.args.layered.now) v.top.items)
    (λ (v : Lines). AreChosenLines (plain c.args.layered.now) (rows_of c.args.order.now) c.args.level.now.placing c.args.level.now.fixed (straightness_for c.args.level.now) v.top.items)
    c.place.ensures.lines c.place.ensures.within
    (λ v lines ends. by_alignment (plain c.args.layered.now) (rows_of c.args.order.now) c.args.level.now.placing c.args.level.now.fixed (straightness_for c.args.level.now) v.top.items c.in-BrandesKoepf.is lines ends)

pub returns-in-NetworkSimplex : goal.returns-in-NetworkSimplex
returns-in-NetworkSimplex c =
    if_both c.least_lines.result
    (λ (v : Lines). AreLeastHigh (plain c.args.layered.now) (rows_of c.args.order.now) c.straightness_for.result v.top.items)
    (λ (v : Lines). EndsWithinStack (plain c.args.layered.now) v.top.items)
    (λ (v : Lines). AreChosenLines (plain c.args.layered.now) (rows_of c.args.order.now) c.args.level.now.placing c.args.level.now.fixed (straightness_for c.args.level.now) v.top.items)
    c.least_lines.ensures.least c.least_lines.ensures.within
    (λ v lines ends. by_height (plain c.args.layered.now) (rows_of c.args.order.now) c.args.level.now.placing c.args.level.now.fixed (straightness_for c.args.level.now) v.top.items c.in-NetworkSimplex.is
    (subst (λ (s : ℕ). AreLeastHigh (plain c.args.layered.now) (rows_of c.args.order.now) s v.top.items) c.straightness_for.ensures.is lines) ends)
