-- How many elements a list holds, by numbers that tell them apart.
use Rattle.std.proofs.Common.{◌≡◌, inl, inr, ℕ, zero, suc, ◌+◌, ◌<◌, ◌≤◌, cond, Bool, true, false, List, [], ◌∷◌, map, length, refl, subst, arith}
use Rattle.std.proofs.lemmas.List.{length-map}
use Rattle.std.specs.List.{range_with_len}
use Rattle.elk_doc.specs.Numbers.{numbers_below, count_below}
use Rattle.elk_doc.proofs.NumberLaws.{numbers_below-at, count_below-lt, length-numbers_below}
use Rattle.level_model.proofs.Lists.{Has, map_has, has_at, range_has}
use Rattle.level_model.proofs.FirstPlaces.{Distinct, no_more}

pub distinct_range : (a n : ℕ) → Distinct (range_with_len a n)
distinct_range a zero = tt
distinct_range a (suc n) = (λ h. (let b = range_has (a + 1) n a h in absurd (omega (arith, b))), distinct_range (a + 1) n)

distinct_map : {X : Type 0} (f : X → ℕ) (xs : List X) → Distinct xs → ((x y : X) → Has xs x → Has xs y → f x ≡ f y → x ≡ y) → Distinct (map f xs)
distinct_map f [] h one = tt
distinct_map f (x ∷ xs) h one = (
  λ has. (let r = map_has f xs (f x) has in h.0 (subst (Has xs) (one r.0 x (inr r.1) (inl refl) r.2) r.1)),
  distinct_map f xs h.1 (λ y z hy hz. one y z (inr hy) (inr hz)),
)

-- Elements that stand once in a list, and whose different numbers are all in another, are no more than those.
pub no_more_by : {X : Type 0} (f : X → ℕ) (xs : List X) (ys : List ℕ) → Distinct xs → ((x y : X) → Has xs x → Has xs y → f x ≡ f y → x ≡ y) → ((x : X) → Has xs x → Has ys (f x)) → length xs ≤ length ys
no_more_by f xs ys h one known =
    subst (λ n. n ≤ length ys) (length-map xs f)
    (no_more (map f xs) ys (distinct_map f xs h one) (λ y has. let r = map_has f xs y has in subst (Has ys) r.2 (known r.0 r.1)))

pub has_number : (p : ℕ → Bool) (m x : ℕ) → x < m → p x ≡ true → Has (numbers_below p m) x
has_number p m x h e =
    let many = length-numbers_below p m in
    let less = count_below-lt p x m h e in
    subst (Has (numbers_below p m)) (numbers_below-at p x m 0 h e) (has_at (numbers_below p m) (count_below p x) 0 (omega (arith, many, less)))

-- a number for an edge and one of its ends
abbrev pub end_code : ℕ → Bool → ℕ
end_code e t = cond t (e + e + 1) (e + e)

pub codes_differ : (a b : ℕ) (s t : Bool) → end_code a s ≡ end_code b t → (a ≡ b) × (s ≡ t)
codes_differ a b true true e = (omega (arith, e), refl)
codes_differ a b true false e = absurd (omega (arith, e))
codes_differ a b false true e = absurd (omega (arith, e))
codes_differ a b false false e = (omega (arith, e), refl)
