-- Members of a list by their places, and by their numbers among those that pass a test.
use Rattle.std.proofs.Common.{◌≡◌, ℕ, zero, suc, ◌<◌, ◌≤◌, ⊎_elim, List, [], ◌∷◌, length, take, Bool, true, false, cond, Option, Some, None, refl, ap, sym, ◌∙◌, arith}
use Rattle.std.specs.Prelude.{filter, find, slice_get}
use Rattle.std.proofs.lemmas.Bool.{cases_lt, cases_order}
use Rattle.std.proofs.lemmas.Option.{same_Some, none-some}

-- the number of a place: how many members before it pass
abbrev pub number : {X : Type 0} → (X → Bool) → List X → ℕ → ℕ
number test xs i = length (filter test (take i xs))

at_step : {X : Type 0} (b : Bool) (y : X) (zs ws : List X) (o : Option X) → slice_get zs (length ws) ≡ o
    → slice_get (cond b (y ∷ zs) zs) (length (cond b (y ∷ ws) ws)) ≡ o
at_step true y zs ws o h = h
at_step false y zs ws o h = h

-- a member that passes stands at its number among those that pass
pub at_number : {X : Type 0} (test : X → Bool) (xs : List X) (i : ℕ) (x : X) → slice_get xs i ≡ Some x → test x ≡ true
    → slice_get (filter test xs) (number test xs i) ≡ Some x
at_number test [] i x at passes = absurd (none-some x at)
at_number test (y ∷ ys) zero x at passes =
    let same : y ≡ x = same_Some y x at in
    rw (ap test same ∙ passes) at
at_number test (y ∷ ys) (suc i) x at passes =
    at_step (test y) y (filter test ys) (filter test (take i ys)) (Some x) (at_number test ys i x at passes)

-- a member that passes at a place
pub record IsAt {X : Type 0} (test : X → Bool) (xs : List X) (n : ℕ) (x : X) : Type 0 where
  pub place : ℕ
  pub at : slice_get xs place ≡ Some x
  pub passes : test x ≡ true
  pub is : number test xs place ≡ n

shifted : {X : Type 0} (test : X → Bool) (y : X) (ys : List X) (n : ℕ) (x : X) (b : Bool) → test y ≡ b → IsAt test ys n x → IsAt test (y ∷ ys) (cond b (suc n) n) x
shifted test y ys n x true e h = record { place = suc h.place; at = h.at; passes = h.passes; is = rw e (ap suc h.is) }
shifted test y ys n x false e h = record { place = suc h.place; at = h.at; passes = h.passes; is = rw e h.is }

place_by : {X : Type 0} (test : X → Bool) (y : X) (ys : List X) (n : ℕ) (x : X) (b : Bool) → test y ≡ b
    → ((m : ℕ) → slice_get (filter test ys) m ≡ Some x → IsAt test ys m x)
    → slice_get (cond b (y ∷ filter test ys) (filter test ys)) n ≡ Some x → IsAt test (y ∷ ys) n x
place_by test y ys n x false e rest at = shifted test y ys n x false e (rest n at)
place_by test y ys zero x true e rest at =
    let same : y ≡ x = same_Some y x at in
    record { place = zero; at = at; passes = ap test (sym same) ∙ e; is = refl }
place_by test y ys (suc n) x true e rest at = shifted test y ys n x true e (rest n at)

-- each number among those that pass is the number of a place
pub at_place : {X : Type 0} (test : X → Bool) (xs : List X) (n : ℕ) (x : X) → slice_get (filter test xs) n ≡ Some x → IsAt test xs n x
at_place test [] n x at = absurd (none-some x at)
at_place test (y ∷ ys) n x at = place_by test y ys n x (test y) refl (λ m. at_place test ys m x) at

more : (b : Bool) (m n : ℕ) → m ≤ n → cond b (suc m) m ≤ cond b (suc n) n
more true m n h = omega arith
more false m n h = h

length_cond : {X : Type 0} (b : Bool) (y : X) (ws : List X) → length (cond b (y ∷ ws) ws) ≡ cond b (suc (length ws)) (length ws)
length_cond true y ws = refl
length_cond false y ws = refl

number_next : {X : Type 0} (test : X → Bool) (y : X) (ys : List X) (i : ℕ) → number test (y ∷ ys) (suc i) ≡ cond (test y) (suc (number test ys i)) (number test ys i)
number_next test y ys i = length_cond (test y) y (filter test (take i ys))

-- numbers do not fall
pub number_rises : {X : Type 0} (test : X → Bool) (xs : List X) (i j : ℕ) → i ≤ j → number test xs i ≤ number test xs j
number_rises test [] zero j h = omega arith
number_rises test [] (suc i) j h = omega arith
number_rises test (y ∷ ys) zero j h = omega arith
number_rises test (y ∷ ys) (suc i) zero h = absurd (omega arith)
number_rises test (y ∷ ys) (suc i) (suc j) h =
    let rest : i ≤ j = omega arith in
    rw (number_next test y ys i, number_next test y ys j) (more (test y) (number test ys i) (number test ys j) (number_rises test ys i j rest))

less : (b : Bool) (m n : ℕ) → m < n → cond b (suc m) m < cond b (suc n) n
less true m n h = omega arith
less false m n h = h

-- and rise past a member that passes
pub number_less : {X : Type 0} (test : X → Bool) (xs : List X) (i j : ℕ) (x : X) → slice_get xs i ≡ Some x → test x ≡ true → i < j → number test xs i < number test xs j
number_less test [] i j x at passes h = absurd (none-some x at)
number_less test (y ∷ ys) i zero x at passes h = absurd (omega arith)
number_less test (y ∷ ys) zero (suc j) x at passes h =
    let same : y ≡ x = same_Some y x at in
    rw (number_next test y ys j, ap test same ∙ passes) (omega arith)
number_less test (y ∷ ys) (suc i) (suc j) x at passes h =
    let rest : i < j = omega arith in
    rw (number_next test y ys i, number_next test y ys j) (less (test y) (number test ys i) (number test ys j) (number_less test ys i j x at passes rest))

-- so a smaller number stands at an earlier place
pub place_less : {X : Type 0} (test : X → Bool) (xs : List X) (i j : ℕ) → number test xs i < number test xs j → i < j
place_less test xs i j h =
    ⊎_elim (λ (l : i < j). l) (λ (l : j ≤ i). let low : number test xs j ≤ number test xs i = number_rises test xs j i l in absurd (omega arith)) (cases_lt i j)

-- and two places of members that pass have two numbers
pub place_same : {X : Type 0} (test : X → Bool) (xs : List X) (i j : ℕ) (x y : X) → slice_get xs i ≡ Some x → test x ≡ true → slice_get xs j ≡ Some y → test y ≡ true
    → number test xs i ≡ number test xs j → i ≡ j
place_same test xs i j x y xat xp yat yp same =
    ⊎_elim (λ (e : i ≡ j). e)
    (⊎_elim (λ (l : i < j). let low : number test xs i < number test xs j = number_less test xs i j x xat xp l in absurd (omega arith))
    (λ (l : j < i). let low : number test xs j < number test xs i = number_less test xs j i y yat yp l in absurd (omega arith)))
    (cases_order i j)

-- what a search that finds nothing says
none_by : {X : Type 0} (test : X → Bool) (y : X) (o : Option X) (b : Bool) → test y ≡ b → cond b (Some y) o ≡ None → (test y ≡ false) × (o ≡ None)
none_by test y o true e none = absurd (none-some y (sym none))
none_by test y o false e none = (e, none)

pub none_found : {X : Type 0} (test : X → Bool) (xs : List X) (i : ℕ) (x : X) → find test xs ≡ None → slice_get xs i ≡ Some x → test x ≡ false
none_found test [] i x none at = absurd (none-some x at)
none_found test (y ∷ ys) zero x none at =
    let same : y ≡ x = same_Some y x at in
    ap test (sym same) ∙ (none_by test y (find test ys) (test y) refl none).0
none_found test (y ∷ ys) (suc i) x none at = none_found test ys i x (none_by test y (find test ys) (test y) refl none).1 at
