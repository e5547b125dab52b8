use Rattle.std.proofs.Common.{◌≡◌, length, refl, subst, sym, arith}
use Rattle.elk_layers.specs.declared.units.Unit.{Unit as LayerUnit}
use Rattle.layer_units.specs.Reading.{AreFittedUnits, HasChildIn}
use Rattle.layer_units.proofs.ReadLemmas.{unit_fitted}
use Rattle.layer_units.proofs.heights.fit_units.Goals as goal

pub loop-u-init : goal.loop-u-init
loop-u-init c = record { as_many = refl; each = λ k h. absurd (omega (arith, h)); rest = λ k h. refl }

pub fitted_unit-requires-clause-child : goal.fitted_unit-requires-clause-child
fitted_unit-requires-clause-child c =
    let test = c.loop-u-test.true in
    let long = c.loop-u.auto.units in
    subst (λ (x : LayerUnit). HasChildIn c.args.fitting.now.table.now x) (sym (c.loop-u.invariant.rest c.loop-u.u (omega arith)))
    (c.requires.children c.loop-u.u (omega (arith, test, long)))

pub loop-u-preserved : goal.loop-u-preserved
loop-u-preserved c =
    let test = c.loop-u-test.true in
    let long = c.loop-u.auto.units in
    unit_fitted c.args.fitting.now.level.now.spacing c.args.fitting.now.table.now.children
    c.args.units.now c.loop-u.units c.loop-u.u c.fitted_unit.result (omega (arith, test, long)) c.fitted_unit.ensures c.loop-u.invariant

pub returns : goal.returns
returns c =
    let test = c.loop-u-test.false in
    let end = c.loop-u.auto.u-end in
    let all : c.loop-u.u ≡ length c.args.units.now = omega (arith, test, end) in
    subst (λ n. AreFittedUnits c.args.fitting.now.level.now.spacing c.args.fitting.now.table.now.children c.args.units.now n c.loop-u.units) all c.loop-u.invariant
