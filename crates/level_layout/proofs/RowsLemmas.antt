-- The order that reduces the crossings of a start has its rows.
use Rattle.std.proofs.Common.{◌≡◌, ℕ, List, subst}
use Rattle.elk_layers.specs.Layered.{Plain, AreRows, IsSound}
use Rattle.elk_layers.specs.Crossings.{HasSameRows}
use Rattle.cross_reduce.proofs.RowLemmas.{rows_permuted}

pub rows_kept : (l : Plain) (start copy rows : List (List ℕ)) → IsSound l → AreRows l start → copy ≡ start → HasSameRows copy rows → AreRows l rows
rows_kept l start copy rows sound are e same = rows_permuted l start rows sound.layers_are are (subst (λ s. HasSameRows s rows) e same)
