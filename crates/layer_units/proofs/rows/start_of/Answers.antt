use Rattle.std.proofs.Common.{◌≡◌, ◌∙◌, ℕ, ◌<◌, List, Vec, Global, length, sym, subst, ap, arith}
use Rattle.elk_layers.specs.declared.units.Unit.{Unit as LayerUnit}
use Rattle.elk_layers.specs.Layered.{plain, unit_at}
use Rattle.level_nets.proofs.RoutedLemmas.{written}
use Rattle.layer_units.specs.Started.{AreAscending, plain_rows}
use Rattle.layer_units.proofs.RowLemmas.{rows_long, are_rows}
use Rattle.layer_units.proofs.rows.start_of.Goals as goal

pub fill_rows-requires : goal.fill_rows-requires
fill_rows-requires c =
    let units = c.as_slice.result.now in
    let n = c.args.layered.now.layers in
    let empty = c.in_ok-rows.ensures c.as_slice.result.now in
    let long : length c.as_mut_slice.result.now ≡ c.args.layered.now.layers = ap length c.as_mut_slice.ensures.value ∙ rows_long c.as_slice.result.now c.args.layered.now.layers 0 c.in_ok-rows.rows.items empty in
    let many = ap length c.as_slice.ensures.value in
    let few = c.requires.few_units in
    record {
      few = omega (arith, many, few);
      layers = λ u h.
          let less = subst (λ (us : List LayerUnit). u < length us → (unit_at us u).layer < c.args.layered.now.layers) (sym c.as_slice.ensures.value) (c.requires.layers_are u) h in
          omega (arith, less, long);
      empty = subst (λ (m : ℕ). AreAscending c.as_slice.result.now m 0 (plain_rows c.as_mut_slice.result.now)) (sym long)
          (subst (λ (rs : List (Vec ℕ Global)). AreAscending c.as_slice.result.now c.args.layered.now.layers 0 (plain_rows rs)) (sym c.as_mut_slice.ensures.value) empty);
    }

pub returns : goal.returns
returns c =
    let empty = c.in_ok-rows.ensures c.as_slice.result.now in
    let whole = ap length c.as_mut_slice.ensures.value in
    let long : length c.as_mut_slice.result.now ≡ c.args.layered.now.layers = whole ∙ rows_long c.as_slice.result.now c.args.layered.now.layers 0 c.in_ok-rows.rows.items empty in
    let back = written c.in_ok-rows.rows.items c.fill_rows.new.rows c.in_ok-rows.rows.len (sym c.as_mut_slice.ensures.len ∙ whole) (c.fill_rows.auto.rows ∙ whole) in
    let filled =
    subst (λ (m : ℕ). AreAscending c.args.layered.now.units.items m (length c.args.layered.now.units.items) (plain_rows c.fill_rows.new.rows)) long
    (subst (λ (us : List LayerUnit). AreAscending us (length c.as_mut_slice.result.now) (length us) (plain_rows c.fill_rows.new.rows)) c.as_slice.ensures.value c.in_ok-fill_rows.ensures)
    in
    let all =
    subst (λ (rs : List (Vec ℕ Global)). AreAscending c.args.layered.now.units.items c.args.layered.now.layers (length c.args.layered.now.units.items) (plain_rows rs)) (sym back) filled
    in
    record { rows = are_rows (plain c.args.layered.now) c.requires _ all; ascending = all }
