-- Sums over the first numbers.
use Rattle.std.proofs.Common.{◌≡◌, ◌≢◌, ◌∙◌, ⊎_elim, ℕ, zero, suc, ◌+◌, ◌<◌, ◌≤◌, refl, sym, ap, arith}
use Rattle.std.proofs.lemmas.Bool.{cases_eq}
use Rattle.net_routes.specs.Crossings.{sum_to}

pub sum_none : (f : ℕ → ℕ) → sum_to f 0 ≡ 0
unfolding sum_to
sum_none f = refl

pub sum_suc : (f : ℕ → ℕ) (n : ℕ) → sum_to f (suc n) ≡ sum_to f n + f n
unfolding sum_to
sum_suc f n = refl

pub sum_more : (f : ℕ → ℕ) (n : ℕ) → sum_to f (n + 1) ≡ sum_to f n + f n
sum_more f n = let e : n + 1 ≡ suc n = omega arith in ap (sum_to f) e ∙ sum_suc f n

-- sums of terms that differ by the same
pub sum_moved : (f g f' g' : ℕ → ℕ) (n : ℕ) → ((k : ℕ) → k < n → f k + g k ≡ f' k + g' k) → sum_to f n + sum_to g n ≡ sum_to f' n + sum_to g' n
sum_moved f g f' g' zero each =
    let a = sum_none f in let b = sum_none g in let c = sum_none f' in let d = sum_none g' in omega arith
sum_moved f g f' g' (suc n) each =
    let rest = sum_moved f g f' g' n (λ k h. each k (omega arith)) in
    let here = each n (omega arith) in
    let a = sum_suc f n in let b = sum_suc g n in let c = sum_suc f' n in let d = sum_suc g' n in omega arith

pub sum_same : (f g : ℕ → ℕ) (n : ℕ) → ((k : ℕ) → k < n → f k ≡ g k) → sum_to f n ≡ sum_to g n
sum_same f g zero each = sum_none f ∙ sym (sum_none g)
sum_same f g (suc n) each =
    let rest = sum_same f g n (λ k h. each k (omega arith)) in
    let here = each n (omega arith) in
    let a = sum_suc f n in let b = sum_suc g n in omega arith

pub sum_most : (f g : ℕ → ℕ) (n : ℕ) → ((k : ℕ) → k < n → f k ≤ g k) → sum_to f n ≤ sum_to g n
sum_most f g zero each = let a = sum_none f in let b = sum_none g in omega arith
sum_most f g (suc n) each =
    let rest = sum_most f g n (λ k h. each k (omega arith)) in
    let here = each n (omega arith) in
    let a = sum_suc f n in let b = sum_suc g n in omega arith

sum_both : (f g : ℕ → ℕ) (n : ℕ) → sum_to (λ k. f k + g k) n ≡ sum_to f n + sum_to g n
sum_both f g zero = let a = sum_none (λ k. f k + g k) in let b = sum_none f in let c = sum_none g in omega arith
sum_both f g (suc n) =
    let rest = sum_both f g n in
    let a = sum_suc (λ k. f k + g k) n in let b = sum_suc f n in let c = sum_suc g n in omega arith

-- all pairs of the first numbers
abbrev pub all_pairs : (ℕ → ℕ → ℕ) → ℕ → ℕ
all_pairs f n = sum_to (λ j. sum_to (f j) n) n

pairs_suc : (f : ℕ → ℕ → ℕ) (n : ℕ) → all_pairs f (suc n) ≡ all_pairs f n + sum_to (λ k. f k n + f n k) n + f n n
pairs_suc f n =
    let a = sum_suc (λ j. sum_to (f j) (suc n)) n in
    let b = sum_same (λ j. sum_to (f j) (suc n)) (λ j. sum_to (f j) n + f j n) n (λ j h. sum_suc (f j) n) in
    let c = sum_both (λ j. sum_to (f j) n) (λ j. f j n) n in
    let d = sum_suc (f n) n in
    let e = sum_both (λ k. f k n) (λ k. f n k) n in
    omega arith

-- sums over all pairs, where each two numbers have no more in the first both ways round
pub pairs_most : (f g : ℕ → ℕ → ℕ) (n : ℕ) → ((j k : ℕ) → j < n → k < n → j ≢ k → f j k + f k j ≤ g j k + g k j) → ((k : ℕ) → k < n → f k k ≤ g k k) → all_pairs f n ≤ all_pairs g n
pairs_most f g zero two one =
    let a = sum_none (λ j. sum_to (f j) 0) in let b = sum_none (λ j. sum_to (g j) 0) in omega arith
pairs_most f g (suc n) two one =
    let rest = pairs_most f g n (λ j k jl kl ne. two j k (omega arith) (omega arith) ne) (λ k l. one k (omega arith)) in
    let here = one n (omega arith) in
    let mixed = sum_most (λ k. f k n + f n k) (λ k. g k n + g n k) n (λ k l. two k n (omega arith) (omega arith) (omega arith)) in
    let a = pairs_suc f n in let b = pairs_suc g n in omega arith

-- sums of terms that differ by one at one number
pub sum_changed : (f g : ℕ → ℕ) (i n : ℕ) → i < n → f i ≡ g i + 1 → ((j : ℕ) → j < n → j ≢ i → f j ≡ g j) → sum_to f n ≡ sum_to g n + 1
sum_changed f g i zero l here each = absurd (omega arith)
sum_changed f g i (suc n) l here each =
    let a = sum_suc f n in
    let b = sum_suc g n in
    ⊎_elim
    (λ (e : n ≡ i).
    let rest = sum_same f g n (λ j h. each j (omega arith) (omega arith)) in
    let fs = ap f e in
    let gs = ap g e in
    omega arith)
    (λ (ne : n ≢ i).
    let rest = sum_changed f g i n (omega arith) here (λ j h. each j (omega arith)) in
    let last = each n (omega arith) ne in
    omega arith)
    (cases_eq n i)

pub sum_ones : (f : ℕ → ℕ) (n : ℕ) → ((k : ℕ) → k < n → f k ≡ 1) → sum_to f n ≡ n
sum_ones f zero each = sum_none f
sum_ones f (suc n) each =
    let rest = sum_ones f n (λ k h. each k (omega arith)) in
    let here = each n (omega arith) in
    let a = sum_suc f n in omega arith
