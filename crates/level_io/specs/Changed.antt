-- Lists that are changed at some of their places.
use Rattle.std.specs.Prelude.{◌≡◌, ◌≢◌, ℕ, ◌<◌, List, length, slice_index_or}

-- the i-th of some numbers
abbrev pub number_at : List ℕ → ℕ → ℕ
number_at numbers i = slice_index_or numbers i 0

-- numbers below a bound, each once
pub record AreDistinct (numbers : List ℕ) (bound : ℕ) : Type 0 where
  pub below : (i : ℕ) → i < length numbers → number_at numbers i < bound
  pub once : (i j : ℕ) → i < length numbers → j < length numbers → number_at numbers i ≡ number_at numbers j → i ≡ j

-- The elements with the first of these numbers, up to this many, are changed: the i-th of them by the i-th change. All others
-- stay.
pub record AreChangedTo {X : Type 0} (count : ℕ) (numbers : List ℕ) (change : ℕ → X → X) (none : X) (old now : List X) : Type 0 where
  pub as_many : length now ≡ length old
  pub at : (i : ℕ) → i < count → slice_index_or now (number_at numbers i) none ≡ change i (slice_index_or old (number_at numbers i) none)
  pub others : (m : ℕ) → ((i : ℕ) → i < count → number_at numbers i ≢ m) → slice_index_or now m none ≡ slice_index_or old m none

-- all of these elements are changed
abbrev pub AreChanged : {X : Type 0} → List ℕ → (ℕ → X → X) → X → List X → List X → Type 0
AreChanged numbers change none old now = AreChangedTo (length numbers) numbers change none old now
