-- Sorted ranks give the order of a side.
use Rattle.std.proofs.Common.{◌≡◌, ◌<◌, ℕ, suc, zero, List, [], ◌∷◌, length, get_or, map, Bool, true, false, cond, not, arith, sym, refl, ◌∙◌, ap, inl, inr, ◌==◌, pos}
use Rattle.std.specs.Prelude.{◌≢◌, ◌&&◌, slice_index}
use Rattle.std.specs.List.{All, Contains, IsDistinct, AllByRecursion, filter}
use Rattle.std.specs.Ordering.{is_lt}
use Rattle.std.specs.List.Sorted.{IsPermutation, IsSorted}
use Rattle.std.proofs.lemmas.List.{get_or-map, get_or_default, length-map}
use Rattle.std.proofs.lemmas.Bool.{cases_order, eqb-false, ne_eqb, cases_eq}
use Rattle.std.proofs.lemmas.List.Elements.{All-nil, All-cons, All-map, All-filter, All-weaker, All-get_or, All-from_recursion, recursion_from_All}
use Rattle.std.proofs.lemmas.List.Sorted.{Contains-permutation, All-permutation, sorted_far, ranks_by}
use Rattle.std.proofs.lemmas.Map.Keys.{IsDistinct-cons, IsDistinct-head, IsDistinct-tail, IsDistinct-from_apart, IsDistinct-IsPermutation, apart_from_distinct}
use Rattle.drawing_types.specs.declared.shape.Side.{Side}
use Rattle.drawing_types.specs.declared.shape.Side.TheVariants.{North, East, South, West}
use Rattle.drawing_types.specs.Shapes.{is_side}
use Rattle.port_order.specs.declared.children.Child.{Child}
use Rattle.port_order.specs.declared.spots.Spot.{Spot}
use Rattle.port_order.specs.declared.ranks.Rank.{Rank}
use Rattle.port_order.specs.Child.{spot_at, no_spot, is_pinned_spot}
use Rattle.port_order.specs.Sides.{side_of}
use Rattle.port_order.specs.Conditions.{AreSpots}
use Rattle.port_order.specs.Places.{HoldsOnce}
use Rattle.port_order.specs.Order.{IsSpreadOn, ComesFirst, IsOrderOfSide}
use Rattle.port_order.specs.Ranks.{HaveCounts, rank_of, is_spread_on, ranks_of}
use Rattle.port_order.proofs.RankLemmas.{rank_cmp, rank_cmp_total, rank_decides, rank_number}

pub side_same : (a b : Side) → is_side a b ≡ true → a ≡ b
side_same North North h = refl
side_same North East h = absurd cc
side_same North South h = absurd cc
side_same North West h = absurd cc
side_same East North h = absurd cc
side_same East East h = refl
side_same East South h = absurd cc
side_same East West h = absurd cc
side_same South North h = absurd cc
side_same South East h = absurd cc
side_same South South h = refl
side_same South West h = absurd cc
side_same West North h = absurd cc
side_same West East h = absurd cc
side_same West South h = absurd cc
side_same West West h = refl

pub side_itself : (a : Side) → is_side a a ≡ true
side_itself North = refl
side_itself East = refl
side_itself South = refl
side_itself West = refl

pub spread_from_test : (c : Child) (side : Side) (s : Spot) → is_spread_on c side s ≡ true → IsSpreadOn c side s
spread_from_test c side s h = parts (is_pinned_spot c s) refl h
  where
    parts : (b : Bool) → is_pinned_spot c s ≡ b → (not b && is_side (side_of c s) side) ≡ true → IsSpreadOn c side s
    parts true e h = absurd cc
    parts false e h = record { spread = e; on_side = side_same (side_of c s) side h }

pub test_from_spread : (c : Child) (side : Side) (s : Spot) → IsSpreadOn c side s → is_spread_on c side s ≡ true
test_from_spread c side s h = rw (h.spread, h.on_side) (side_itself side)

-- ranks of spots come from spread spots of the side, and each of these has one
abbrev IsRanked : Child → Side → List Spot → Rank → Type 0
IsRanked c side spots r = (k : ℕ) × (k < length spots) × (is_spread_on c side (spot_at spots k) ≡ true) × (rank_of c side (spot_at spots k) ≡ r)

from_tail : (c : Child) (side : Side) (s : Spot) (ss : List Spot) (r : Rank) → IsRanked c side ss r → IsRanked c side (s ∷ ss) r
from_tail c side s ss r h = (suc h.0, omega (arith, h.1), h.2, h.3)

all_ranked : (c : Child) (side : Side) (spots : List Spot) → All (IsRanked c side spots) (ranks_of c side spots)
all_ranked c side [] = All-nil (IsRanked c side [])
all_ranked c side (s ∷ ss) = step (is_spread_on c side s) refl (All-weaker (IsRanked c side ss) (IsRanked c side (s ∷ ss)) (from_tail c side s ss) (ranks_of c side ss) (all_ranked c side ss))
  where
    step : (b : Bool) → is_spread_on c side s ≡ b → All (IsRanked c side (s ∷ ss)) (ranks_of c side ss)
        → All (IsRanked c side (s ∷ ss)) (map (rank_of c side) (cond b (s ∷ filter (is_spread_on c side) ss) (filter (is_spread_on c side) ss)))
    step true e rest = All-cons (IsRanked c side (s ∷ ss)) (rank_of c side s) (ranks_of c side ss) (0, omega arith, e, refl) rest
    step false e rest = rest

has_rank : (c : Child) (side : Side) (spots : List Spot) (k : ℕ) → k < length spots → is_spread_on c side (spot_at spots k) ≡ true → Contains (ranks_of c side spots) (rank_of c side (spot_at spots k))
has_rank c side [] k h t = absurd (omega (arith, h))
has_rank c side (s ∷ ss) zero h t = rw t (0, omega arith, refl)
has_rank c side (s ∷ ss) (suc k) h t = step (is_spread_on c side s) (has_rank c side ss k (omega (arith, h)) t)
  where
    step : (b : Bool) → Contains (ranks_of c side ss) (rank_of c side (spot_at ss k))
        → Contains (map (rank_of c side) (cond b (s ∷ filter (is_spread_on c side) ss) (filter (is_spread_on c side) ss))) (rank_of c side (spot_at ss k))
    step true r = (suc r.0, omega (arith, r.1), r.2)
    step false r = r

-- numbers that differ
abbrev same_spot : Spot → Spot → Bool
same_spot s t = s.number == t.number

abbrev same_rank : Rank → Rank → Bool
same_rank r q = r.number == q.number

distinct_spots : (c : Child) (spots : List Spot) → AreSpots c spots → IsDistinct same_spot spots
distinct_spots c spots h = IsDistinct-from_apart same_spot spots (λ i j d less in'. apart i j d less in')
  where
    apart : (i j : ℕ) (d : Spot) → i < j → j < length spots → same_spot (get_or spots i d) (get_or spots j d) ≡ false
    apart i j d less in' =
        rw (get_or_default spots i d no_spot (omega (arith, less, in')), get_or_default spots j d no_spot in')
        (ne_eqb (spot_at spots i).number (spot_at spots j).number (λ e. let same = h.differ i j (omega (arith, less, in')) in' e in omega (arith, same, less)))

distinct_ranks : (c : Child) (side : Side) (spots : List Spot) → IsDistinct same_spot spots → IsDistinct same_rank (ranks_of c side spots)
distinct_ranks c side [] h = IsDistinct-from_apart same_rank [] (λ i j d less in'. absurd (omega (arith, in')))
distinct_ranks c side (s ∷ ss) h = step (is_spread_on c side s) (distinct_ranks c side ss (IsDistinct-tail same_spot s ss h))
  where
    numbers : (t : Spot) → same_spot s t ≡ false → same_rank (rank_of c side s) (rank_of c side t) ≡ false
    numbers t e = rw (rank_number c.rule c side s, rank_number c.rule c side t) e

    head : AllByRecursion (λ r. same_rank (rank_of c side s) r ≡ false) (ranks_of c side ss)
    head =
        recursion_from_All (λ r. same_rank (rank_of c side s) r ≡ false) (ranks_of c side ss)
        (All-map (λ r. same_rank (rank_of c side s) r ≡ false) (rank_of c side) (filter (is_spread_on c side) ss)
        (All-filter (is_spread_on c side) (λ t. same_rank (rank_of c side s) (rank_of c side t) ≡ false) ss
        (All-weaker (λ t. same_spot s t ≡ false) (λ t. same_rank (rank_of c side s) (rank_of c side t) ≡ false) numbers ss
        (All-from_recursion (λ t. same_spot s t ≡ false) ss (IsDistinct-head same_spot s ss h)))))

    step : (b : Bool) → IsDistinct same_rank (ranks_of c side ss) → IsDistinct same_rank (map (rank_of c side) (cond b (s ∷ filter (is_spread_on c side) ss) (filter (is_spread_on c side) ss)))
    step true rest = IsDistinct-cons same_rank (rank_of c side s) (ranks_of c side ss) head rest
    step false rest = rest

flips : (m n : ℕ) → (m == n) ≡ (n == m)
flips m n =
    elim (cases_eq m n) [
      | inl e ↦ rw e refl
      | inr differ ↦ ne_eqb m n differ ∙ sym (ne_eqb n m (λ e. differ (sym e)))
    ]

abbrev no_rank : Rank
no_rank = record { group = 0; index = pos 0; given = pos 0; mean = 0; tie = pos 0; number = 0 }

abbrev numbers_of : List Rank → List ℕ
numbers_of rs = map (λ r. r.number) rs

module _ (c : Child) (side : Side) (spots : List Spot) (rs : List Rank) (sound : AreSpots c spots)
    (counted : HaveCounts c side spots)
    (moved : IsPermutation (ranks_of c side spots) rs) (up : IsSorted rank_cmp rs) where
  ranked : All (IsRanked c side spots) rs
  ranked = All-permutation (IsRanked c side spots) (ranks_of c side spots) rs moved (all_ranked c side spots)

  distinct : IsDistinct same_rank rs
  distinct = IsDistinct-IsPermutation same_rank (λ x y. flips x.number y.number) (ranks_of c side spots) rs moved (distinct_ranks c side spots (distinct_spots c spots sound))

  number_at : (i : ℕ) (d : Rank) → i < length rs → get_or (numbers_of rs) i 0 ≡ (get_or rs i d).number
  number_at i d h = get_or-map (λ (r : Rank). r.number) rs i d 0 h

  -- the rank at a place is that of the spot whose number stands there, and the spot is spread
  rank_there : (i k : ℕ) (d : Rank) → i < length rs → k < length spots → (spot_at spots k).number ≡ get_or (numbers_of rs) i 0
      → (is_spread_on c side (spot_at spots k) ≡ true) × (rank_of c side (spot_at spots k) ≡ get_or rs i d)
  rank_there i k d h hk e =
      let found = All-get_or (IsRanked c side spots) rs i d h ranked in
      let n : (spot_at spots found.0).number ≡ (spot_at spots k).number = sym (rank_number c.rule c side (spot_at spots found.0)) ∙ ap (λ (r : Rank). r.number) found.3 ∙ sym (number_at i d h) ∙ sym e in
      let same = sound.differ found.0 k found.1 hk n in
      rw (← same) (found.2, found.3)

  -- numbers at two places differ
  apart : (i j : ℕ) → i < j → j < length rs → get_or (numbers_of rs) i 0 ≢ get_or (numbers_of rs) j 0
  apart i j less hj e =
      eqb-false (get_or rs i no_rank).number (get_or rs j no_rank).number (apart_from_distinct same_rank rs i j no_rank distinct less hj)
      (sym (number_at i no_rank (omega (arith, less, hj))) ∙ e ∙ number_at j no_rank hj)

  spread : (i : ℕ) → i < length (numbers_of rs) → (k : ℕ) × (k < length spots) × ((spot_at spots k).number ≡ slice_index (numbers_of rs) i) × IsSpreadOn c side (spot_at spots k)
  spread i hi =
      let h : i < length rs = omega (arith, hi, length-map rs (λ (r : Rank). r.number)) in
      let found = All-get_or (IsRanked c side spots) rs i no_rank h ranked in
      (found.0, found.1, sym (rank_number c.rule c side (spot_at spots found.0)) ∙ ap (λ (r : Rank). r.number) found.3 ∙ sym (number_at i no_rank h), spread_from_test c side (spot_at spots found.0) found.2)

  once : (k : ℕ) → k < length spots → IsSpreadOn c side (spot_at spots k) → HoldsOnce (numbers_of rs) (spot_at spots k).number
  once k hk s =
      let there = Contains-permutation (ranks_of c side spots) rs (rank_of c side (spot_at spots k)) moved (has_rank c side spots k hk (test_from_spread c side (spot_at spots k) s)) in
      let n : get_or (numbers_of rs) there.0 0 ≡ (spot_at spots k).number = number_at there.0 (rank_of c side (spot_at spots k)) there.1 ∙ ap (λ (r : Rank). r.number) there.2 ∙ rank_number c.rule c side (spot_at spots k) in
      record { place = there.0; inside = rw (length-map rs (λ (r : Rank). r.number)) there.1; there = n; alone = λ j hj e. alone there.0 j there.1 (omega (arith, hj, length-map rs (λ (r : Rank). r.number))) (n ∙ sym e) }
    where
      alone : (i j : ℕ) → i < length rs → j < length rs → get_or (numbers_of rs) i 0 ≡ get_or (numbers_of rs) j 0 → j ≡ i
      alone i j hi hj e =
          elim (cases_order i j) [
            | inl same ↦ sym same
            | inr (inl less) ↦ absurd (apart i j less hj e)
            | inr (inr less) ↦ absurd (apart j i less hi (sym e))
          ]

  sorted : (i j k l : ℕ) → i < j → j < length (numbers_of rs) → k < length spots → l < length spots → (spot_at spots k).number ≡ slice_index (numbers_of rs) i → (spot_at spots l).number ≡ slice_index (numbers_of rs) j → ComesFirst c.rule c side (spot_at spots k) (spot_at spots l)
  sorted i j k l less hj' hk hl ek el =
      let hj : j < length rs = omega (arith, hj', length-map rs (λ (r : Rank). r.number)) in
      let hi : i < length rs = omega (arith, hj, less) in
      let first = rank_there i k no_rank hi hk ek in
      let second = rank_there j l no_rank hj hl el in
      let differ : (spot_at spots k).number ≢ (spot_at spots l).number = λ e. apart i j less hj (sym ek ∙ e ∙ el) in
      let far = sorted_far (λ x y. is_lt (rank_cmp x y)) (ranks_by rank_cmp_total (λ r. r)) rs up i j no_rank (omega (arith, less)) hj in
      rank_decides c.rule c side (spot_at spots k) (spot_at spots l) (counted k hk first.0) (counted l hl second.0) differ (rw (first.1, second.1) far)

  pub order_of_ranks : IsOrderOfSide c side spots (numbers_of rs)
  order_of_ranks = record { spread = spread; once = once; sorted = sorted }
