-- Lists of which a slice was written.
use Rattle.std.proofs.Common.{◌≡◌, ◌++◌, List, Vec, Global, length, take, drop}
use Rattle.std.proofs.lemmas.List.{take_at}

-- the list is what was written
pub written : {A : Type 0} → (v : Vec A Global) (new : List A) → length new ≡ v.len → take v.len (new ++ drop (length new) v.items) ≡ new
written v new e = take_at new (drop (length new) v.items) v.len e
