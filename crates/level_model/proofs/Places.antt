-- The place of a line among lanes, and how far lanes stand from an outline.
use Rattle.std.proofs.Common.{◌≡◌, inl, inr, ℕ, zero, suc, ◌+◌, ◌-◌, ◌<◌, ℤ, pos, ◌≤ℤ◌, ◌<ℤ◌, List, length, refl, arith}
use Rattle.std.proofs.lemmas.Int.{ints}
use Rattle.std.proofs.lemmas.Bool.{cases_order, ne_eqb}
use Rattle.level_model.specs.Stage.{Line}
use Rattle.level_model.specs.Lanes.{line_eq, place_of_line}
use Rattle.level_model.proofs.Lists.{Has}
use Rattle.level_model.proofs.FirstPlaces as places
use Rattle.level_model.proofs.SameLines.{line_eq-same, line_eq-self}
use Rattle.level_model.proofs.Widths.{outer_room, steps_less, steps_from_zero}

-- a line that a list holds stands at its place
pub place_within : (ls : List Line) (m : Line) → Has ls m → place_of_line ls m < length ls
place_within ls m h = places.place_within line_eq line_eq-same line_eq-self place_of_line (λ k ks n. refl) ls m h

-- lines at one place are one
pub one_place : (ls : List Line) (m n : Line) → Has ls m → Has ls n → place_of_line ls m ≡ place_of_line ls n → m ≡ n
one_place ls m n hm hn e = places.one_place line_eq line_eq-same line_eq-self place_of_line (λ k ks i. refl) ls m n hm hn e

-- more lanes take more room
pub room_more : (i j : ℕ) (a s : ℤ) → pos 1 ≤ℤ a → pos 1 ≤ℤ s → i < j → outer_room a s i <ℤ outer_room a s j
room_more i zero a s ha hs h = absurd (omega (arith, h))
room_more zero (suc j) a s ha hs h =
    rw (ne_eqb (suc j) 0 (λ e. absurd (omega (arith, e)))) (let some = steps_from_zero (suc j - 1) s (omega (arith, ints, hs)) in omega (arith, ints, some, ha))
room_more (suc i) (suc j) a s ha hs h =
    rw (ne_eqb (suc j) 0 (λ e. absurd (omega (arith, e))), ne_eqb (suc i) 0 (λ e. absurd (omega (arith, e))))
    (let more = steps_less (suc i - 1) (suc j - 1) s (omega (arith, h)) hs in omega (arith, ints, more))

pub room_some : (i : ℕ) (a s : ℤ) → pos 1 ≤ℤ a → pos 1 ≤ℤ s → pos 0 <ℤ outer_room a s (i + 1)
room_some i a s ha hs = room_more 0 (i + 1) a s ha hs (omega arith)

pub room_within : (i n : ℕ) (a s : ℤ) → pos 1 ≤ℤ a → pos 1 ≤ℤ s → i < n → outer_room a s (i + 1) ≤ℤ outer_room a s n
room_within i n a s ha hs h =
    elim (cases_order (i + 1) n) [
      | inl same ↦ rw same (omega (arith, ints))
      | inr (inl less) ↦ let more = room_more (i + 1) n a s ha hs less in omega (arith, ints, more)
      | inr (inr less) ↦ absurd (omega (arith, less, h))
    ]

-- rooms that are equal are those of equally many lanes
pub room_one : (i j : ℕ) (a s : ℤ) → pos 1 ≤ℤ a → pos 1 ≤ℤ s → outer_room a s (i + 1) ≡ outer_room a s (j + 1) → i ≡ j
room_one i j a s ha hs e =
    elim (cases_order i j) [
      | inl same ↦ same
      | inr (inl less) ↦ let more = room_more (i + 1) (j + 1) a s ha hs (omega (arith, less)) in absurd (omega (arith, ints, more, e))
      | inr (inr less) ↦ let more = room_more (j + 1) (i + 1) a s ha hs (omega (arith, less)) in absurd (omega (arith, ints, more, e))
    ]
