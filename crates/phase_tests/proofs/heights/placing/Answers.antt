use Rattle.std.proofs.Common.{◌≤◌, ◌^◌, length, pos, ◌+ℤ◌, ◌<ℤ◌, arith, subst, sym}
use Rattle.std.proofs.lemmas.Int.{ints}
use Rattle.elk_layers.specs.Layered.{plain, rows_of, total_height}
use Rattle.elk_layers.proofs.ForkLemmas.{is_sound, are_rows}
use Rattle.ns_place.specs.Heights.{pins_together}
use Rattle.phase_tests.proofs.heights.placing.Goals as goal

pub place_least-requires-clause-sound : goal.place_least-requires-clause-sound
place_least-requires-clause-sound c = is_sound (plain c.in_ok-layered.layered) c.in_ok-layered.ensures

pub place_least-requires-clause-rows : goal.place_least-requires-clause-rows
place_least-requires-clause-rows c = are_rows (plain c.in_ok-layered.layered) (rows_of c.in_ok-rows.rows) c.in_ok-layered.ensures c.in_ok-rows.ensures

pub place_least-requires-clause-few_units : goal.place_least-requires-clause-few_units
place_least-requires-clause-few_units c = subst (λ l. length l.units ≤ 2 ^ 21) (sym c.in_ok-layered.ensures) (omega arith)

pub place_least-requires-clause-few_links : goal.place_least-requires-clause-few_links
place_least-requires-clause-few_links c = subst (λ l. length l.links ≤ 2 ^ 21) (sym c.in_ok-layered.ensures) (omega arith)

pub place_least-requires-clause-together : goal.place_least-requires-clause-together
place_least-requires-clause-together c = subst (λ l. (total_height l.units +ℤ pins_together l.links) <ℤ pos (2 ^ 60)) (sym c.in_ok-layered.ensures) (omega (arith, ints))
