-- An order that no exchange makes better holds all units where none has a key.
use Rattle.std.proofs.Common.{ℕ, ℤ, Option, None, Some, List, [], ◌∷◌, length, get_or, IsFalse, refl, inl, inr, rules}
use Rattle.std.specs.Prelude.{IsNone, is_some}
use Rattle.std.specs.List.{All}
use Rattle.std.proofs.lemmas.Bool.{cases_lt, both_ways}
use Rattle.std.proofs.lemmas.List.{get_or_past}
use Rattle.std.proofs.lemmas.List.Elements.{All-get_or}
use Rattle.elk_layers.specs.Layered.{Plain, row_at}
use Rattle.cross_reduce.specs.Held.{is_held, IsHeldRow, IsNoneHeld}
use Rattle.cross_reduce.specs.Reduced.{IsReduced}
use Rattle.level_layout.specs.Chosen.{IsHeldOrder}

none_is : (o : Option ℤ) → IsNone o → IsFalse (is_some o)
none_is None h = refl
none_is (Some x) h = absurd (search rules)

pub none_held : (keys : List (Option ℤ)) → All (λ (k : Option ℤ). IsNone k) keys → IsNoneHeld keys
none_held keys all u =
    elim (cases_lt u (length keys)) [
      | inl less ↦ none_is (get_or keys u None) (All-get_or (λ (k : Option ℤ). IsNone k) keys u None less all)
      | inr past ↦ rw (get_or_past keys u None past) refl
    ]

held_row : (keys : List (Option ℤ)) (row : List ℕ) → IsNoneHeld keys → IsHeldRow keys row
held_row keys [] none = tt
held_row keys (u ∷ row) none = (λ yes. absurd (both_ways (is_held keys u) (none u) yes), held_row keys row none)

pub free_order : (l : Plain) (keys : List (Option ℤ)) (start rows : List (List ℕ)) → All (λ (k : Option ℤ). IsNone k) keys → IsReduced l start rows
    → IsHeldOrder l keys start rows
free_order l keys start rows all r =
    record {
      same_rows = r.same_rows;
      ascends = λ n less. held_row keys (row_at rows n) (none_held keys all);
      settled = λ n i h k free. r.settled n i h k;
    }
