use Rattle.std.proofs.Common.{◌≡◌, ◌<◌, ◌+◌, ◌-◌, ℕ, List, length, refl, sym, subst, arith}
use Rattle.elk_layers.specs.Layered.{plain, unit_at}
use Rattle.dock_table.specs.Ends.{is_unit_of}
use Rattle.dock_table.specs.Courses.{AreFirstFrom}
use Rattle.dock_table.proofs.LoopLemmas.{unit_noted}
use Rattle.dock_table.proofs.units.note_units.Goals as goal

pub units-preserved : goal.units-preserved
units-preserved c =
    let some = c.units-test.true in
    let within = c.units.invariant.within in
    let inside : c.units.unit - 1 < length c.args.layered.now.units.items = omega (arith, some, within) in
    let next : c.units.unit ≡ c.units.unit - 1 + 1 = omega (arith, some) in
    record {
      within = omega (arith, within);
      firsts = subst (λ (us : List ℕ). AreFirstFrom (is_unit_of (plain c.args.layered.now)) (c.units.unit - 1) (length c.args.layered.now.units.items) (length c.args.units.now) us) (sym c.note_unit.ensures)
          (unit_noted (plain c.args.layered.now) (c.units.unit - 1) (length c.args.units.now) (unit_at (plain c.args.layered.now).units (c.units.unit - 1)).child c.units.units refl inside c.requires.children
          (subst (λ m. AreFirstFrom (is_unit_of (plain c.args.layered.now)) m (length c.args.layered.now.units.items) (length c.args.units.now) c.units.units) next c.units.invariant.firsts));
    }
