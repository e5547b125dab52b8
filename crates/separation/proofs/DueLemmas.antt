use Rattle.std.proofs.Common.{◌≡◌, ℕ, ◌+◌, ◌<◌, List, [], ◌∷◌, ◌++◌, length}
use Rattle.std.specs.List.{All}
use Rattle.std.specs.List.Sorted.{IsNonDecreasingBy, IsPermutation}
use Rattle.std.proofs.lemmas.List.Elements.{All-push, Contains-push, Contains-append_left}
use Rattle.std.proofs.lemmas.List.Sorted.{All-permutation, Contains-permutation}
use borrow.Author.Count.{below_more}
use Rattle.separation.specs.declared.bounds.Bound.{Bound}
use Rattle.separation.specs.declared.walk.Due.{Due}
use Rattle.separation.specs.Due.{IsDue, HasDue, DueBounds}

pub HasDue-push : (xs : List Due) (d : Due) (j : ℕ) → HasDue xs j → HasDue (xs ++ d ∷ []) j
HasDue-push xs d j h =
    record { entry = h.entry; is_there = Contains-append_left xs (d ∷ []) h.entry h.is_there; number_is = h.number_is }

pub due_more : (bounds : List Bound) (position : List ℕ) (xs : List Due) (k : ℕ) (d : Due) → IsDue bounds position d → d.bound ≡ k → All (IsDue bounds position) xs → ((j : ℕ) → j < k → HasDue xs j) → All (IsDue bounds position) (xs ++ d ∷ []) × ((j : ℕ) → j < k + 1 → HasDue (xs ++ d ∷ []) j)
due_more bounds position xs k d is n all has =
    (All-push (IsDue bounds position) xs d all is, below_more (λ j. HasDue (xs ++ d ∷ []) j) k (λ j h. HasDue-push xs d j (has j h)) (record { entry = d; is_there = Contains-push xs d; number_is = n }))

pub HasDue-permutation : (xs ys : List Due) → IsPermutation xs ys → (k : ℕ) → HasDue xs k → HasDue ys k
HasDue-permutation xs ys p k h =
    record { entry = h.entry; is_there = Contains-permutation xs ys h.entry p h.is_there; number_is = h.number_is }

pub due_sorted : (bounds : List Bound) (position : List ℕ) (xs ys : List Due) → IsPermutation xs ys → IsNonDecreasingBy (λ (d : Due). d.position) ys → All (IsDue bounds position) xs → ((j : ℕ) → j < length bounds → HasDue xs j) → DueBounds bounds position ys
due_sorted bounds position xs ys p up all has =
    record {
      sound = All-permutation (IsDue bounds position) xs ys p all;
      complete = λ k h. HasDue-permutation xs ys p k (has k h);
      rising = up;
    }
