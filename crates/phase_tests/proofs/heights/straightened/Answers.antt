use Rattle.std.proofs.Common.{◌≤◌, ◌^◌, length, pos, ◌+ℤ◌, ◌<ℤ◌, arith, subst, sym}
use Rattle.std.proofs.lemmas.Int.{ints}
use Rattle.elk_layers.specs.Layered.{plain, rows_of, total_height}
use Rattle.ns_place.specs.Heights.{pins_together}
use Rattle.phase_tests.proofs.DoubledForks.{is_sound, are_rows}
use Rattle.phase_tests.proofs.heights.straightened.Goals as goal

pub place_straight-requires : goal.place_straight-requires
place_straight-requires c =
    record {
      sound = is_sound (plain c.in_ok-layered.layered) c.in_ok-layered.ensures;
      rows = are_rows (plain c.in_ok-layered.layered) (rows_of c.in_ok-rows.rows) c.in_ok-layered.ensures c.in_ok-rows.ensures;
      few_units = subst (λ l. length l.units ≤ 2 ^ 21) (sym c.in_ok-layered.ensures) (omega arith);
      few_links = subst (λ l. length l.links ≤ 2 ^ 21) (sym c.in_ok-layered.ensures) (omega arith);
      together = subst (λ l. (total_height l.units +ℤ pins_together l.links) <ℤ pos (2 ^ 60)) (sym c.in_ok-layered.ensures) (omega (arith, ints));
      straightness = c.requires;
    }
