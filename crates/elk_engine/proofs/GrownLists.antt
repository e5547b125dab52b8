-- Lists that grow by the values of a function.
use Rattle.std.proofs.Common.{◌≡◌, ℕ, ◌+◌, ◌-◌, ◌≤◌, ◌++◌, List, [], ◌∷◌, map, sym, ◌∙◌, ap, arith}
use Rattle.std.specs.Prelude.{sum}
use Rattle.std.specs.List.{range_with_len}
use Rattle.std.proofs.lemmas.List.{append_assoc}
use Rattle.std.proofs.lemmas.List.FromFn.{map-range_with_len_more, sum_by-map-range_with_len_more}

-- the value at n stands behind those from a up to n
pub grown : {X : Type 0} → (f : ℕ → X) (before xs new : List X) (a n : ℕ) (x : X) → a ≤ n → xs ≡ before ++ map f (range_with_len a (n - a)) → x ≡ f n → new ≡ xs ++ x ∷ [] → new ≡ before ++ map f (range_with_len a (n + 1 - a))
grown f before xs new a n x above are is pushed =
    let more : n + 1 - a ≡ n - a + 1 = omega arith in
    let longer = ap (λ k. map f (range_with_len a k)) more ∙ map-range_with_len_more f a (n - a) n (omega arith) in
    pushed ∙ ap (λ ys. ys ++ x ∷ []) are ∙ ap (λ y. (before ++ map f (range_with_len a (n - a))) ++ y ∷ []) is
    ∙ append_assoc before (map f (range_with_len a (n - a))) (f n ∷ []) ∙ ap (λ ys. before ++ ys) (sym longer)

-- the same for the sum of such values
pub summed : (f : ℕ → ℕ) (base w more a n : ℕ) → a ≤ n → w ≡ base + sum (map f (range_with_len a (n - a))) → more ≡ f n → w + more ≡ base + sum (map f (range_with_len a (n + 1 - a)))
summed f base w more a n above are is =
    let next : n + 1 - a ≡ n - a + 1 = omega arith in
    let longer = ap (λ k. sum (map f (range_with_len a k))) next ∙ sum_by-map-range_with_len_more (λ (x : ℕ). x) f a (n - a) n (omega arith) in
    omega (arith, longer, are, is)
