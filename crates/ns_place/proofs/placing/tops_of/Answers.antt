use Rattle.std.proofs.Common.{ℕ, ◌<◌, ◌^◌, length, map, pos, ◌≤ℤ◌, arith, subst, sym, ap, ◌∙◌, rules, w64, FitsSigned, to_z-of_z, []}
use Rattle.std.proofs.lemmas.Int.{ints}
use Rattle.std.proofs.lemmas.Result.{IfOk-weaker}
use Rattle.std.specs.List.{All}
use Rattle.elk_layers.specs.Layered.{plain, unit_at}
use Rattle.elk_layers.proofs.HeightLemmas.{height_below}
use Rattle.network_laws.specs.Layering.{layer_of}
use Rattle.unit_blocks.specs.Constraints.{greatest_spacing}
use Rattle.ns_place.specs.Closing.{AreStandings}
use Rattle.ns_place.specs.Tops.{AreClosedTops}
use Rattle.ns_place.proofs.TopLemmas.{spacing_bounds, spans_small, closed_small, closed_tops}
use Rattle.ns_place.proofs.placing.tops_of.Goals as goal

pub standings-requires : goal.standings-requires
standings-requires c =
    let l = plain c.args.layered.now in
    let e = c.as_slice.ensures.value in
    let s = c.requires.sound in
    let b = spacing_bounds l s in
    let is = c.spacing.ensures in
    let few = s.few_units in
    record {
      few = rw e (omega (arith, few));
      as_many = rw e c.requires.as_many;
      layers = subst (λ us. (u : ℕ) → u < length us → pos 0 ≤ℤ layer_of c.args.layers.now u) (sym e) c.requires.layers;
      heights = subst (λ us. (u : ℕ) → u < length us → pos 0 ≤ℤ (unit_at us u).height) (sym e) s.heights;
      heights_small = subst (λ us. (u : ℕ) → u < length us → (unit_at us u).height ≤ℤ pos (2 ^ 57)) (sym e) (λ u h. let a = height_below l s u h in omega (arith, ints, a));
      spacing = omega (arith, ints, is, b.0, b.1);
      spacing_small = omega (arith, ints, is, b.0, b.1);
    }

pub close_up-requires : goal.close_up-requires
close_up-requires c =
    let l = plain c.args.layered.now in
    let fits : FitsSigned w64 c.spacing.result = search rules in
    let stands : AreStandings l.units c.args.layers.now (greatest_spacing l) c.in_ok-standing.standing.items =
    rw (to_z-of_z fits, c.spacing.ensures, c.as_slice.ensures.value) at c.in_ok-standing.ensures in
    let small = spans_small l c.args.layers.now c.in_ok-standing.standing.items [] c.requires.sound stands in
    record {
      numbered = λ u h. (stands.stands u (let a = stands.as_many in omega (arith, a, h))).unit_is;
      small = omega (arith, small);
    }

pub as_tops-requires : goal.as_tops-requires
as_tops-requires c =
    let l = plain c.args.layered.now in
    let fits : FitsSigned w64 c.spacing.result = search rules in
    let stands : AreStandings l.units c.args.layers.now (greatest_spacing l) c.in_ok-standing.standing.items =
    rw (to_z-of_z fits, c.spacing.ensures, c.as_slice.ensures.value) at c.in_ok-standing.ensures in
    subst (λ xs. All (λ n. n < 2 ^ 63) xs) (sym c.as_slice-2.ensures.value)
    (closed_small l c.args.layers.now c.in_ok-standing.standing.items c.in_ok-closed.closed.items c.requires.sound stands c.in_ok-closed.ensures)

pub returns : goal.returns
returns c =
    let l = plain c.args.layered.now in
    let fits : FitsSigned w64 c.spacing.result = search rules in
    let stands : AreStandings l.units c.args.layers.now (greatest_spacing l) c.in_ok-standing.standing.items =
    rw (to_z-of_z fits, c.spacing.ensures, c.as_slice.ensures.value) at c.in_ok-standing.ensures in
    let closed = closed_tops l c.args.layers.now c.in_ok-standing.standing.items c.in_ok-closed.closed.items c.requires.sound stands c.in_ok-closed.ensures in
    IfOk-weaker c.as_tops.result _ _ (λ v is. subst (λ xs. AreClosedTops l c.args.layers.now xs) (sym (is ∙ ap (map pos) c.as_slice-2.ensures.value)) closed) c.as_tops.ensures
