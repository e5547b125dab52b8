use Rattle.std.proofs.Common.{◌≡◌, ℕ, ◌+◌, ◌-◌, ◌*◌, ◌<◌, ◌≤◌, ◌^◌, ◌%◌, List, length, take, drop, get_or, map, replicate, cond, Bool, ltb, ap, ◌∙◌, refl, arith, w32, suc, zero}
use Rattle.std.specs.List.{count_by}
use Rattle.std.specs.Simd.{first_chunks}
use lib.Count.{ones}
use lib.Lanes.{mask_l, zip2, top}
use mir.Val.{bits, hbits}
use Rattle.std.proofs.lemmas.Simd.{tops_compared, zip2_splat_left, mask_l-mod, ones-mask_l}
use Rattle.std.proofs.lemmas.List.{length-map, take_all}
use Rattle.std.proofs.lemmas.List.Sums.{sum_by-append, sum_by-take-drop}
use Rattle.std.proofs.Math.Seq.{take-add, drop-drop}

pub count_lanes : (xs : List ℕ) (b : ℕ) → length xs ≡ 16 → ones (mask_l (map (top (hbits w32)) (zip2 (λ x y. cond (ltb x y) (2 ^ bits w32 - 1) 0) (replicate 16 b) xs)) % 2 ^ 64) ≡ count_by (λ x. ltb b x) xs
count_lanes xs b h =
    let e = tops_compared w32 ltb (replicate 16 b) xs ∙ zip2_splat_left ltb b 16 xs h in
    let fits : length (map (λ x. ltb b x) xs) ≤ 64 = rw (length-map xs (λ x. ltb b x), h) (omega arith) in
    rw e (ap ones (mask_l-mod (map (λ x. ltb b x) xs) 64 fits) ∙ ones-mask_l (λ x. ltb b x) xs)

drops : {X : Type 0} (n m : ℕ) (xs : List X) → drop m (drop n xs) ≡ drop (m + n) xs
drops {X} n m xs = grind (arith, drop-drop {A = X})

pub chunk_at : {X : Type 0} (n k : ℕ) (xs : List X) (i : ℕ) (d : List X) → i < k → get_or (first_chunks n k xs) i d ≡ take n (drop (i * n) xs)
chunk_at n zero xs i d h = absurd (omega arith)
chunk_at n (suc k) xs zero d h = let e : 0 * n ≡ 0 = omega arith in rw e refl
chunk_at n (suc k) xs (suc i) d h =
    let e : suc i * n ≡ i * n + n = omega arith in
    let l : i < k = omega arith in
    rw e (chunk_at n k (drop n xs) i d l ∙ ap (take n) (drops n (i * n) xs))

-- the step of a count over a whole chunk
pub count_chunk_more : (p : ℕ → Bool) (xs : List ℕ) (i total : ℕ) (d : List ℕ) (k : ℕ) → i < k → total ≡ count_by p (take (i * 16) xs) → total + count_by p (get_or (first_chunks 16 k xs) i d) ≡ count_by p (take ((i + 1) * 16) xs)
count_chunk_more p xs i total d k h e =
    let s : (i + 1) * 16 ≡ i * 16 + 16 = omega arith in
    rw (s, take-add (i * 16) 16 xs, sum_by-append (λ x. cond (p x) 1 0) (take (i * 16) xs) (take 16 (drop (i * 16) xs)), chunk_at 16 k xs i d h, e) refl

pub count_rest : (p : ℕ → Bool) (xs rest : List ℕ) (m i total : ℕ) → rest ≡ drop m xs → length rest ≤ i → total ≡ count_by p (take m xs) + count_by p (take i rest) → total ≡ count_by p xs
count_rest p xs rest m i total e l t =
    let whole : take i rest ≡ rest = take_all i rest l in
    t ∙ (rw (whole, e) (sum_by-take-drop (λ x. cond (p x) 1 0) xs m))
