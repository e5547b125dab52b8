use Rattle.std.proofs.Common.{ℕ, List, length, refl, sym, subst}
use Rattle.level_model.specs.Conditions.{plain_level, plain_plan}
use Rattle.level_model.specs.Marks.{AreMarks}
use Rattle.layer_units.specs.Tabled.{IsTableOf}
use Rattle.level_draw.specs.Drawing.{IsDrawable, plan_from}
use Rattle.level_draw.specs.Sketched.{IsSketch}
use Rattle.level_draw.proofs.Answering.{answered}
use Rattle.level_draw.proofs.drawing.draw_by_table.Goals as goal

pub sketch_of-requires-clause-drawable : goal.sketch_of-requires-clause-drawable
sketch_of-requires-clause-drawable c =
    let b = c.args.basis in
    (c.args.certificate.layers, subst (λ (rs : List ℕ). IsDrawable (plain_level c.args.level.now) (plain_plan b.layered b.order b.lines.top.items rs) c.args.certificate.layers) (sym c.as_slice.ensures.value) c.requires.drawable)

pub sketch_of-requires-clause-marked : goal.sketch_of-requires-clause-marked
sketch_of-requires-clause-marked c =
    subst (λ (rs : List ℕ). AreMarks rs (length c.args.level.now.edges) c.args.is_reversed.now) (sym c.as_slice.ensures.value) c.requires.marked

pub sketch_of-requires-clause-table : goal.sketch_of-requires-clause-table
sketch_of-requires-clause-table c =
    let b = c.args.basis in
    subst (λ (rs : List ℕ). IsTableOf (plain_level c.args.level.now) (plain_plan b.layered b.order b.lines.top.items rs) c.args.table) (sym c.as_slice.ensures.value) c.requires.table

pub returns-clause-drawn : goal.returns-clause-drawn
returns-clause-drawn c =
    let l = plain_level c.args.level.now in
    let b = c.args.basis in
    let p = plan_from c.args.certificate b.layered b.order b.lines in
    let sketch = subst (λ (rs : List ℕ). IsSketch l (plain_plan b.layered b.order b.lines.top.items rs) c.in_ok-sketch.sketch) c.as_slice.ensures.value c.in_ok-sketch.ensures in
    answered l p c.args.certificate.layers c.requires.drawable c.in_ok-sketch.sketch sketch _ c.from_vec.ensures c.from_vec-2.ensures c.from_vec-3.ensures c.from_vec-4.ensures c.from_vec-5.ensures refl
