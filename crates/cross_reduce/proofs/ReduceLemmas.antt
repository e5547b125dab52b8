-- The orders after sweeps are orders of the same rows.
use Rattle.std.proofs.Common.{◌≡◌, List, ℕ, sym, subst}
use Rattle.elk_layers.specs.Layered.{Plain, IsSound, AreRows}
use Rattle.elk_layers.specs.Crossings.{HasSameRows}
use Rattle.elk_layers.specs.Sweeps.{forward_sweep, backward_sweep}
use Rattle.cross_reduce.proofs.RowLemmas.{rows_permuted}
use Rattle.cross_reduce.proofs.SweepLaws.{forward_same, backward_same}
use Rattle.cross_reduce.proofs.StateLemmas.{same_trans}

pub is_forward_same : (l : Plain) (rows new : List (List ℕ)) → new ≡ forward_sweep l rows → HasSameRows rows new
is_forward_same l rows new e = subst (λ (xs : List (List ℕ)). HasSameRows rows xs) (sym e) (forward_same l rows)

pub is_forward_rows : (l : Plain) (rows new : List (List ℕ)) → IsSound l → AreRows l rows → new ≡ forward_sweep l rows → AreRows l new
is_forward_rows l rows new sound are e = rows_permuted l rows new sound.layers_are are (is_forward_same l rows new e)

pub is_two_same : (l : Plain) (rows new : List (List ℕ)) → new ≡ backward_sweep l (forward_sweep l rows) → HasSameRows rows new
is_two_same l rows new e =
    same_trans rows (forward_sweep l rows) new (forward_same l rows)
    (subst (λ (xs : List (List ℕ)). HasSameRows (forward_sweep l rows) xs) (sym e) (backward_same l (forward_sweep l rows)))

pub is_two_rows : (l : Plain) (rows new : List (List ℕ)) → IsSound l → AreRows l rows → new ≡ backward_sweep l (forward_sweep l rows) → AreRows l new
is_two_rows l rows new sound are e = rows_permuted l rows new sound.layers_are are (is_two_same l rows new e)
