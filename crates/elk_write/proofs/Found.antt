-- What `get` finds in a slice.
use Rattle.std.proofs.Common.{◌≡◌, ℕ, List, length, Option, Some, None, option_map, Bor, refl, sym}
use Rattle.std.specs.List.{slice_get}
use Rattle.std.specs.Slice.{IsItemAt}
use Rattle.std.proofs.lemmas.Option.{slice_get_past, slice_get_read}

pub item_found : {X : Type 0} (xs : List X) (i : ℕ) (r : Option (Bor X)) → IsItemAt xs i r → option_map (λ e. e.now) r ≡ slice_get xs i
item_found xs i None h = sym (slice_get_past xs i h.3)
item_found xs i (Some x) h = sym (slice_get_read xs (length xs) i x.now refl h.3.0 h.1)
