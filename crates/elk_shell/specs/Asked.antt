-- What arguments ask for.
use Rattle.std.specs.Prelude.{ℕ, List, [], ◌∷◌, Bool, false, codes, String, map, string_bytes}
use Rattle.std.specs.Str.{bytes_eq}
use Rattle.std.specs.declared.alloc.Global.{Global}

-- the texts of the words
abbrev pub texts : List (String Global) → List (List ℕ)
texts words = map string_bytes words

-- the words are `--plain` alone
abbrev pub asks_for_answer : List (List ℕ) → Bool
asks_for_answer (word ∷ []) = bytes_eq word (codes "--plain")
asks_for_answer _ = false
