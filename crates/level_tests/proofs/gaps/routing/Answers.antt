use Rattle.std.proofs.Common.{ℕ, Bool, List, [], length, sym, subst, refl}
use Rattle.level_model.specs.Marks.{AreMarks}
use Rattle.level_nets.specs.Parts.{IsGiven}
use Rattle.level_nets.proofs.WorkedLemmas.{worked_parts, parallel_given}
use Rattle.level_tests.proofs.gaps.routing.Goals as goal

pub gaps_of-requires-clause-given : goal.gaps_of-requires-clause-given
gaps_of-requires-clause-given c =
    worked_parts IsGiven _ _ _ _ _ c.in_ok-level.ensures c.in_ok-layered.ensures refl refl c.in_ok-table.ensures parallel_given

pub gaps_of-requires-clause-marked : goal.gaps_of-requires-clause-marked
gaps_of-requires-clause-marked c =
    subst (λ (ms : List Bool). AreMarks [] (length c.in_ok-level.level.edges) ms) (sym c.as_slice.ensures.value)
    (subst (λ (n : ℕ). AreMarks [] n c.in_ok-is_reversed.is_reversed.items) c.len.ensures c.in_ok-is_reversed.ensures)
