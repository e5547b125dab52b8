-- Tests of the numbers below a bound.
use Rattle.std.proofs.Common.{◌≡◌, ℕ, ◌+◌, Bool, true, false, ◌||◌, [], ◌∷◌, refl, ap, ◌∙◌, arith}
use Rattle.std.specs.List.{list_any, range_with_len}
use Rattle.std.proofs.lemmas.List.Folds.{list_any-append}
use Rattle.level_nets.proofs.ListLemmas.{range_split}

pub or_false : (a : Bool) → (a || false) ≡ a
or_false true = refl
or_false false = refl

-- some number passes, with one more number
pub any_next : (f : ℕ → Bool) (n : ℕ) → list_any f (range_with_len 0 (n + 1)) ≡ (list_any f (range_with_len 0 n) || f n)
any_next f n =
    let e : 0 + n ≡ n = omega arith in
    ap (list_any f) (range_split 0 n 1)
    ∙ list_any-append f (range_with_len 0 n) (range_with_len (0 + n) 1)
    ∙ ap (λ m. list_any f (range_with_len 0 n) || list_any f (m ∷ [])) e
    ∙ ap (λ b. list_any f (range_with_len 0 n) || b) (or_false (f n))
