-- A list is changed one element after the other.
use Rattle.std.proofs.Common.{◌≡◌, ◌≢◌, ⊎_elim, ℕ, ◌+◌, ◌<◌, ◌≤◌, List, length, get_or, set, arith, refl, sym, ap, ◌∙◌, subst}
use Rattle.std.proofs.lemmas.Bool.{cases_lt}
use Rattle.std.proofs.lemmas.List.{get_or-set_same, get_or-set_other, length-set}
use Rattle.level_io.specs.Changed.{AreChangedTo, AreDistinct, number_at}

pub none_changed : {X : Type 0} (numbers : List ℕ) (change : ℕ → X → X) (none : X) (old : List X) → AreChangedTo 0 numbers change none old old
none_changed numbers change none old =
    record { as_many = refl; at = λ i h. absurd (omega (arith, h)); others = λ m h. refl }

pub one_more : {X : Type 0} (numbers : List ℕ) (change : ℕ → X → X) (none : X) (old now : List X) (i : ℕ) (x : X)
    → AreDistinct numbers (length old) → AreChangedTo i numbers change none old now → i < length numbers
    → x ≡ change i (get_or now (number_at numbers i) none) → AreChangedTo (i + 1) numbers change none old (set now (number_at numbers i) x)
one_more numbers change none old now i x distinct so_far h is =
    let k = number_at numbers i in
    let below = distinct.below i h in
    let long = so_far.as_many in
    let apart : (j : ℕ) → j < i → number_at numbers j ≢ k = λ j before same. let e = distinct.once j i (omega (arith, before, h)) h same in omega (arith, e, before) in
    let here : get_or (set now k x) k none ≡ change i (get_or old k none) =
    get_or-set_same now k x none (omega (arith, below, long)) ∙ is ∙ ap (change i) (so_far.others k apart) in
    record {
      as_many = length-set now k x ∙ long;
      at = λ j in_count.
          ⊎_elim
          (λ before. get_or-set_other now k (number_at numbers j) x none (apart j before) ∙ so_far.at j before)
          (λ (late : i ≤ j). let e : i ≡ j = omega (arith, in_count, late) in
          subst (λ m. get_or (set now k x) (number_at numbers m) none ≡ change m (get_or old (number_at numbers m) none)) e here)
          (cases_lt j i);
      others = λ m other.
          let not_here : number_at numbers i ≢ m = other i (omega arith) in
          get_or-set_other now k m x none (λ e. not_here (sym e)) ∙ so_far.others m (λ j before. other j (omega (arith, before)));
    }

-- changes that are the same at the first numbers
pub same_changes : {X : Type 0} (count : ℕ) (numbers : List ℕ) (change other : ℕ → X → X) (none : X) (old now : List X)
    → ((i : ℕ) (x : X) → i < count → change i x ≡ other i x) → AreChangedTo count numbers change none old now → AreChangedTo count numbers other none old now
same_changes count numbers change other none old now same c =
    record { as_many = c.as_many; at = λ i h. c.at i h ∙ same i _ h; others = c.others }
