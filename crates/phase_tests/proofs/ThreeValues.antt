-- Three numbers from 0, under three bounds that the values 0, 5 and 9 keep.
use Rattle.std.proofs.Common.{◌≡◌, ◌≢◌, ℕ, ◌<◌, ℤ, pos, ◌≤ℤ◌, ◌<ℤ◌, ◌^◌, get_or, List, [], ◌∷◌, refl, arith}
use Rattle.std.proofs.lemmas.Int.{ints}
use Rattle.drawing_types.proofs.SmallNumbers.{below3}
use Rattle.separation.specs.declared.bounds.Bound.{Bound}
use Rattle.separation.specs.Order.{GoesForward, bound_at}
use Rattle.separation.specs.Lines.{value_at, IsWithin, IsSolvable, KeepsBound}

abbrev pub leads : ℕ → ℕ → ℤ → Bound
leads a b gap = record { before = a; after = b; gap = gap }

abbrev pub numbers : List ℕ
numbers = 0 ∷ 1 ∷ 2 ∷ []

abbrev pub floors : List ℤ
floors = pos 0 ∷ pos 0 ∷ pos 0 ∷ []

abbrev pub three_bounds : List Bound
three_bounds = leads 0 1 (pos 5) ∷ leads 0 2 (pos 3) ∷ leads 1 2 (pos 4) ∷ []

abbrev values : List ℤ
values = pos 0 ∷ pos 5 ∷ pos 9 ∷ []

within : (z : ℤ) → pos 0 ≤ℤ z → z ≤ℤ pos 9 → IsWithin z
within z low high = record { low = omega (arith, ints); high = omega (arith, ints) }

abbrev number : ℕ → ℕ
number p = get_or numbers p 0

number_is : (p : ℕ) → p < 3 → number p ≡ p
number_is = below3 (λ p. number p ≡ p) refl refl refl

different : (p q : ℕ) → p < q → q < 3 → number p ≢ number q
different p q less small = omega (arith, number_is p (omega arith), number_is q small)

pub three_solvable : IsSolvable numbers floors three_bounds
three_solvable =
    record {
      is_order = record {
        as_long = refl;
        in_range = below3 (λ p. number p < 3) (omega arith) (omega arith) (omega arith);
        distinct = λ p q less small. different p q less small;
      };
      forward = below3 (λ k. GoesForward numbers (bound_at three_bounds k))
          (record { from = 0; to = 1; forward = omega arith; within = omega arith; from_is = refl; to_is = refl })
          (record { from = 0; to = 2; forward = omega arith; within = omega arith; from_is = refl; to_is = refl })
          (record { from = 1; to = 2; forward = omega arith; within = omega arith; from_is = refl; to_is = refl });
      few = omega arith;
      gaps = below3 (λ k. IsWithin (bound_at three_bounds k).gap) (within (pos 5) (omega (arith, ints)) (omega (arith, ints))) (within (pos 3) (omega (arith, ints)) (omega (arith, ints))) (within (pos 4) (omega (arith, ints)) (omega (arith, ints)));
      floors = below3 (λ k. IsWithin (value_at floors k)) (within (pos 0) (omega (arith, ints)) (omega (arith, ints))) (within (pos 0) (omega (arith, ints)) (omega (arith, ints))) (within (pos 0) (omega (arith, ints)) (omega (arith, ints)));
      can_keep = record {
        values = values;
        kept = record {
          floors = below3 (λ k. value_at floors k ≤ℤ value_at values k) (omega (arith, ints)) (omega (arith, ints)) (omega (arith, ints));
          bounds = below3 (λ k. KeepsBound values (bound_at three_bounds k)) (omega (arith, ints)) (omega (arith, ints)) (omega (arith, ints));
        };
        small = below3 (λ k. value_at values k <ℤ pos (2 ^ 60)) (omega (arith, ints)) (omega (arith, ints)) (omega (arith, ints));
      };
    }
