-- What lists hold that grow value by value.
use Rattle.std.proofs.Common.{◌≡◌, inl, inr, ℕ, zero, suc, ◌+◌, ◌<◌, List, [], ◌∷◌, ◌++◌, length, get_or, refl, sym, subst, ap, ◌∙◌, arith}
use Rattle.std.proofs.lemmas.Bool.{cases_eq}
use Rattle.std.proofs.lemmas.List.{length_push, get_or_push, get_or_append_left}
use Rattle.layer_units.specs.Numbered.{before}
use Rattle.layer_units.specs.Grown.{grown, all_grown}
use Rattle.layer_units.proofs.SumLemmas.{before_below}

pub grown_more : {X : Type 0} (f : ℕ → X) (xs : List X) (n : ℕ) → grown f xs (n + 1) ≡ grown f xs n ++ f n ∷ []
unfolding grown
grown_more f xs n = let next : n + 1 ≡ suc n = omega arith in ap (grown f xs) next

pub grown_none : {X : Type 0} (f : ℕ → X) (xs : List X) → grown f xs 0 ≡ xs
unfolding grown
grown_none f xs = refl

-- one value more is pushed
pub grown_push : {X : Type 0} (f : ℕ → X) (xs ys zs : List X) (n : ℕ) (x : X) → ys ≡ grown f xs n → x ≡ f n → zs ≡ ys ++ x ∷ [] → zs ≡ grown f xs (n + 1)
grown_push f xs ys zs n x old new push = push ∙ ap (λ us. us ++ x ∷ []) old ∙ ap (λ y. grown f xs n ++ y ∷ []) new ∙ sym (grown_more f xs n)

pub grown_length : {X : Type 0} (f : ℕ → X) (xs : List X) (n : ℕ) → length (grown f xs n) ≡ length xs + n
unfolding grown
grown_length f xs zero = omega arith
grown_length f xs (suc n) =
    let one = length_push (grown f xs n) (f n) in
    let rest = grown_length f xs n in
    omega (arith, one, rest)

pub grown_kept : {X : Type 0} (f : ℕ → X) (xs : List X) (n j : ℕ) (d : X) → j < length xs → get_or (grown f xs n) j d ≡ get_or xs j d
unfolding grown
grown_kept f xs zero j d h = refl
grown_kept f xs (suc n) j d h =
    get_or_append_left (grown f xs n) (f n ∷ []) d j (let long = grown_length f xs n in omega (arith, long, h)) ∙ grown_kept f xs n j d h

pub grown_new : {X : Type 0} (f : ℕ → X) (xs : List X) (n i k : ℕ) (d : X) → i < n → k ≡ length xs + i → get_or (grown f xs n) k d ≡ f i
unfolding grown
grown_new f xs zero i k d h e = absurd (omega (arith, h))
grown_new f xs (suc n) i k d h e =
    elim (cases_eq i n) [
      | inl same ↦ get_or_push (grown f xs n) (f n) d k (let long = grown_length f xs n in omega (arith, long, e, same)) ∙ ap f (sym same)
      | inr other ↦
          get_or_append_left (grown f xs n) (f n ∷ []) d k (let long = grown_length f xs n in omega (arith, long, e, h, other))
          ∙ grown_new f xs n i k d (omega (arith, h, other)) e
    ]

pub all_more : {X : Type 0} (f : ℕ → ℕ → X) (count : ℕ → ℕ) (xs : List X) (e : ℕ) → all_grown f count xs (e + 1) ≡ grown (f e) (all_grown f count xs e) (count e)
unfolding all_grown
all_more f count xs e = let next : e + 1 ≡ suc e = omega arith in ap (all_grown f count xs) next

pub all_none : {X : Type 0} (f : ℕ → ℕ → X) (count : ℕ → ℕ) (xs : List X) → all_grown f count xs 0 ≡ xs
unfolding all_grown
all_none f count xs = refl

pub all_length : {X : Type 0} (f : ℕ → ℕ → X) (count : ℕ → ℕ) (xs : List X) (e : ℕ) → length (all_grown f count xs e) ≡ length xs + before count e
unfolding all_grown before
all_length f count xs zero = omega arith
all_length f count xs (suc e) =
    let one = grown_length (f e) (all_grown f count xs e) (count e) in
    let rest = all_length f count xs e in
    omega (arith, one, rest)

pub all_kept : {X : Type 0} (f : ℕ → ℕ → X) (count : ℕ → ℕ) (xs : List X) (e j : ℕ) (d : X) → j < length xs → get_or (all_grown f count xs e) j d ≡ get_or xs j d
unfolding all_grown
all_kept f count xs zero j d h = refl
all_kept f count xs (suc e) j d h =
    grown_kept (f e) (all_grown f count xs e) (count e) j d (let long = all_length f count xs e in omega (arith, long, h)) ∙ all_kept f count xs e j d h

pub all_new : {X : Type 0} (f : ℕ → ℕ → X) (count : ℕ → ℕ) (xs : List X) (e c i k : ℕ) (d : X) → c < e → i < count c → k ≡ length xs + before count c + i
    → get_or (all_grown f count xs e) k d ≡ f c i
unfolding all_grown
all_new f count xs zero c i k d h less at = absurd (omega (arith, h))
all_new f count xs (suc e) c i k d h less at =
    let long = all_length f count xs e in
    elim (cases_eq c e) [
      | inl same ↦
          grown_new (f e) (all_grown f count xs e) (count e) i k d (subst (λ z. i < count z) same less)
          (let sums = ap (before count) same in omega (arith, long, at, sums))
          ∙ ap (λ z. f z i) (sym same)
      | inr other ↦
          grown_kept (f e) (all_grown f count xs e) (count e) k d (let below = before_below count c e (omega (arith, h, other)) in omega (arith, long, at, less, below))
          ∙ all_new f count xs e c i k d (omega (arith, h, other)) less at
    ]
