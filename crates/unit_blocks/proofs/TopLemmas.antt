-- Lists that are filled one element after the other, and floors.
use Rattle.std.proofs.Common.{◌≡◌, ◌≢◌, ℕ, ◌<◌, ◌≤◌, ◌+◌, ℤ, pos, ◌+ℤ◌, ◌-ℤ◌, ◌≤ℤ◌, List, length, get_or, set, arith, sym, ◌∙◌, ap, inl, inr, length-set, get_or-set_same, get_or-set_other}
use Rattle.std.proofs.lemmas.Int.{ints}
use Rattle.std.proofs.lemmas.Bool.{cases_eq}
use borrow.Author.Count.{below_more}
use Rattle.separation.specs.Lines.{value_at}
use Rattle.elk_layers.specs.Layered.{place_in}
use Rattle.unit_blocks.specs.Constraints.{block_at, offset_at}
use Rattle.unit_blocks.specs.Phases.{IsLowered, AreFloorsSoFar, AreRootNumbers}
use Rattle.elk_layers.specs.Occurring.{occurs, HasNoRepeat}
use Rattle.elk_layers.proofs.PlaceLemmas.{place_once, place_below, place_reads}

pub index_differ : (xs : List ℕ) → HasNoRepeat xs → (i j : ℕ) → i < j → j < length xs → get_or xs i 0 ≢ get_or xs j 0
index_differ xs once i j less h e =
    let a = place_once xs once i (omega (arith, less, h)) in
    let b = place_once xs once j h in
    let same : place_in xs (get_or xs i 0) ≡ place_in xs (get_or xs j 0) = ap (place_in xs) e in
    omega (arith, a, b, same, less)

pub numbers_more : (roots numbers : List ℕ) (b : ℕ) → HasNoRepeat roots → b < length roots → get_or roots b 0 < length numbers → AreRootNumbers roots b numbers → AreRootNumbers roots (b + 1) (set numbers (get_or roots b 0) b)
numbers_more roots numbers b once h within are =
    record {
      number_is = below_more (λ c. get_or (set numbers (get_or roots b 0) b) (get_or roots c 0) 0 ≡ c) b
          (λ c less. get_or-set_other numbers (get_or roots b 0) (get_or roots c 0) b 0 (index_differ roots once c b less h) ∙ are.number_is c less)
          (get_or-set_same numbers (get_or roots b 0) b 0 within);
    }

pub number_of : (roots numbers : List ℕ) (n : ℕ) → 1 ≤ occurs n roots → AreRootNumbers roots (length roots) numbers → get_or numbers n 0 ≡ place_in roots n
number_of roots numbers n h are =
    ap (λ m. get_or numbers m 0) (sym (place_reads n roots h)) ∙ are.number_is (place_in roots n) (place_below n roots h)

pub floors_start : (blocks : List ℕ) (offsets : List ℤ) (count : ℕ) (floor : List ℤ) → length floor ≡ count → ((b : ℕ) → value_at floor b ≡ pos 0) → AreFloorsSoFar blocks offsets count 0 floor
floors_start blocks offsets count floor long zero =
    record { as_many = long; from_zero = λ u h. absurd (omega (arith, h)); held = λ b h. inl (zero b) }

pub floors_more : (blocks : List ℕ) (offsets : List ℤ) (count done : ℕ) (floor floor' : List ℤ) → block_at blocks done < count → AreFloorsSoFar blocks offsets count done floor → IsLowered floor (block_at blocks done) (offset_at offsets done) floor' → AreFloorsSoFar blocks offsets count (done + 1) floor'
floors_more blocks offsets count done floor floor' h so (inl k) =
    rw k.1 (record {
      as_many = so.as_many;
      from_zero = below_more (λ u. pos 0 ≤ℤ (value_at floor (block_at blocks u) +ℤ offset_at offsets u)) done so.from_zero k.0;
      held = λ b hb. elim (so.held b hb) [
        | inl z ↦ inl z
        | inr p ↦ inr (p.0, (let q = p.1 in omega (arith, q)), p.2, p.3)
      ];
    })
floors_more blocks offsets count done floor floor' h so (inr k) =
    let at : ℕ = block_at blocks done in
    let low : ℤ = pos 0 -ℤ offset_at offsets done in
    let within : at < length floor = rw so.as_many h in
    let here : value_at (set floor at low) at ≡ low = get_or-set_same floor at low (pos 0) within in
    let other : (b : ℕ) → b ≢ at → value_at (set floor at low) b ≡ value_at floor b = λ b ne. get_or-set_other floor at b low (pos 0) ne in
    rw k.1 (record {
      as_many = length-set floor at low ∙ so.as_many;
      from_zero = below_more (λ u. pos 0 ≤ℤ (value_at (set floor at low) (block_at blocks u) +ℤ offset_at offsets u)) done
          (λ u less. let z = so.from_zero u less in elim (cases_eq (block_at blocks u) at) [
            | inl e ↦
                let v : value_at (set floor at low) (block_at blocks u) ≡ low = ap (value_at (set floor at low)) e ∙ here in
                let w : value_at floor (block_at blocks u) ≡ value_at floor at = ap (value_at floor) e in
                let lower = k.0 in
                omega (arith, ints, v, w, lower, z)
            | inr ne ↦ let v = other (block_at blocks u) ne in omega (arith, ints, v, z)
          ])
          (omega (arith, ints, here));
      held = λ b hb. elim (cases_eq b at) [
        | inl e ↦
            let v : value_at (set floor at low) b ≡ low = ap (value_at (set floor at low)) e ∙ here in
            inr (done, omega arith, sym e, omega (arith, ints, v))
        | inr ne ↦ elim (so.held b hb) [
          | inl z ↦ inl (other b ne ∙ z)
          | inr p ↦
              let v = other b ne in
              let z = p.3 in
              inr (p.0, (let q = p.1 in omega (arith, q)), p.2, omega (arith, ints, v, z))
        ]
      ];
    })
