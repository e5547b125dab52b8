use Rattle.std.proofs.Common.{ℕ, List, [], ◌∙◌, ap, length, sym, subst}
use Rattle.elk_layers.specs.Layered.{rows_of}
use Rattle.level_model.specs.Conditions.{plain_level, plain_plan}
use Rattle.level_model.specs.Marks.{AreMarks}
use Rattle.level_model.specs.Units.{AreLinked}
use Rattle.layer_units.specs.Marks.{listed}
use Rattle.layer_units.specs.Tabled.{IsTableOf}
use Rattle.level_draw.specs.Drawing.{IsDrawn, IsMadeFrom, plan_from}
use Rattle.level_layout.specs.Chosen.{straightness_for}
use Rattle.level_layout.specs.Layout.{IsLaidOut}
use Rattle.layer_units.proofs.MarkLemmas.{marks_listed}
use Rattle.layer_units.proofs.UnitLemmas.{make_units}
use Rattle.level_layout.proofs.LayoutLemmas.{drawable, if_both, laid_out, pinned_by, pins_small, units_few}
use Rattle.level_layout.proofs.layout.layout_level.Goals as goal

pub pinned-requires-clause-is_reversed : goal.pinned-requires-clause-is_reversed
pinned-requires-clause-is_reversed c = record {
  marks = marks_listed c.as_slice-is_reversed.result.now (length c.args.level.now.edges) (ap length c.as_slice-is_reversed.ensures.value ∙ c.in_ok-marks.ensures.len);
  layers = c.in_ok-certificate.certificate.layers;
  linked = subst (λ (rs : List ℕ). AreLinked (plain_level c.args.level.now) (plain_plan c.in_ok-start.start.layered c.in_ok-order.order [] rs) c.in_ok-certificate.certificate.layers) c.in_ok-certificate.ensures.listed
      (c.in_ok-start.ensures.units.linked (rows_of c.in_ok-order.order) []);
}

pub lines_for-requires-clause-few : goal.lines_for-requires-clause-few
lines_for-requires-clause-few c =
    units_few (plain_level c.args.level.now) c.in_ok-certificate.certificate c.in_ok-start.start.layered c.in_ok-fitted.fitted.layered c.requires c.in_ok-certificate.ensures.certificate c.in_ok-start.ensures.units
    c.in_ok-fitted.ensures.kept

pub lines_for-requires-clause-low : goal.lines_for-requires-clause-low
lines_for-requires-clause-low c =
    pins_small (plain_level c.args.level.now) c.in_ok-certificate.certificate c.in_ok-start.start.layered c.in_ok-fitted.fitted.layered c.requires c.in_ok-start.ensures.units
    c.in_ok-fitted.ensures.kept c.in_ok-fitted.ensures.sound c.in_ok-fitted.ensures.low

pub draw_by_table-requires-clause-drawable : goal.draw_by_table-requires-clause-drawable
draw_by_table-requires-clause-drawable c =
    let pinned = pinned_by (plain_level c.args.level.now) c.in_ok-certificate.certificate c.in_ok-start.start.layered c.in_ok-fitted.fitted.layered c.in_ok-order.order (listed c.as_slice-is_reversed.result.now)
    (sym c.in_ok-certificate.ensures.listed) c.in_ok-fitted.ensures.fitted c.in_ok-fitted.ensures.sound c.in_ok-fitted.ensures.low c.in_ok-fitted.ensures.rows c.in_ok-fitted.ensures.kept
    in
    drawable (plain_level c.args.level.now) c.in_ok-certificate.certificate c.in_ok-start.start.layered c.in_ok-fitted.fitted.layered c.in_ok-order.order c.in_ok-lines.lines c.args.level.now.placing c.args.level.now.fixed (straightness_for c.args.level.now)
    make_units c.requires c.in_ok-certificate.ensures.certificate c.in_ok-start.ensures.units pinned c.in_ok-lines.ensures

pub draw_by_table-requires-clause-marked : goal.draw_by_table-requires-clause-marked
draw_by_table-requires-clause-marked c =
    let many = ap length c.as_slice-is_reversed.ensures.value ∙ c.in_ok-marks.ensures.len in
    subst (λ (ns : List ℕ). AreMarks ns (length c.args.level.now.edges) c.as_slice-is_reversed.result.now) (sym c.in_ok-certificate.ensures.listed)
    (marks_listed c.as_slice-is_reversed.result.now (length c.args.level.now.edges) many)

pub draw_by_table-requires-clause-table : goal.draw_by_table-requires-clause-table
draw_by_table-requires-clause-table c =
    subst (λ (rs : List ℕ). IsTableOf (plain_level c.args.level.now) (plain_plan c.in_ok-fitted.fitted.layered c.in_ok-order.order c.in_ok-lines.lines.top.items rs) c.in_ok-fitted.fitted.table) (sym c.in_ok-certificate.ensures.listed)
    (c.in_ok-fitted.ensures.table c.in_ok-lines.lines.top.items)

pub returns : goal.returns
returns c =
    let pinned = pinned_by (plain_level c.args.level.now) c.in_ok-certificate.certificate c.in_ok-start.start.layered c.in_ok-fitted.fitted.layered c.in_ok-order.order (listed c.as_slice-is_reversed.result.now)
    (sym c.in_ok-certificate.ensures.listed) c.in_ok-fitted.ensures.fitted c.in_ok-fitted.ensures.sound c.in_ok-fitted.ensures.low c.in_ok-fitted.ensures.rows c.in_ok-fitted.ensures.kept
    in
    if_both c.draw_by_table.result
    (IsMadeFrom c.in_ok-certificate.certificate c.in_ok-fitted.fitted.layered c.in_ok-start.start.rows c.in_ok-order.order c.in_ok-lines.lines)
    (IsDrawn (plain_level c.args.level.now) (plan_from c.in_ok-certificate.certificate c.in_ok-fitted.fitted.layered c.in_ok-order.order c.in_ok-lines.lines) c.in_ok-certificate.certificate.layers)
    (IsLaidOut c.args.level.now)
    c.draw_by_table.ensures.given c.draw_by_table.ensures.drawn
    (λ w given drawn. laid_out c.args.level.now c.in_ok-certificate.certificate c.in_ok-start.start.layered c.in_ok-fitted.fitted.layered c.in_ok-start.start.rows c.in_ok-order.order c.in_ok-lines.lines w
    make_units c.requires c.in_ok-certificate.ensures.certificate c.in_ok-start.ensures.units c.in_ok-start.ensures.start c.in_ok-order.ensures.chosen pinned
    c.in_ok-lines.ensures given drawn)
