-- A network has one numbering of its parts.
use Rattle.std.proofs.Common.{◌≡◌, ℕ, zero, suc, ◌<◌, List, slice_index, arith, sym, inl, inr, ◌∙◌}
use Rattle.std.proofs.lemmas.Bool.{cases_lt}
use Rattle.std.proofs.lemmas.List.{ext_get_or}
use Rattle.network_laws.specs.declared.network.NetEdge.{NetEdge}
use Rattle.network_laws.specs.Parts.{ArePartNumbers}
use Rattle.network_parts.specs.Solved.{OneNumbering}

-- where all earlier nodes have the same number in both, none is lower in one
not_lower : (nodes : ℕ) (edges : List NetEdge) (numbers others : List ℕ) (v : ℕ) → ArePartNumbers nodes edges numbers → ArePartNumbers nodes edges others → v < nodes → ((u : ℕ) → u < v → slice_index numbers u ≡ slice_index others u)
    → slice_index numbers v < slice_index others v → ⊥
not_lower nodes edges numbers others v one two h before less =
    let found = two.by_least v (slice_index numbers v) h less in
    let early = found.1 in
    let inside : found.0 < nodes = omega (arith, early, h) in
    let joined = (one.same_part found.0 v inside h).0 (before found.0 found.1 ∙ found.2) in
    let same = sym found.2 ∙ (two.same_part found.0 v inside h).1 joined in
    absurd (omega (arith, less, same))

agree : (nodes : ℕ) (edges : List NetEdge) (numbers others : List ℕ) → ArePartNumbers nodes edges numbers → ArePartNumbers nodes edges others → (n v : ℕ) → v < n → v < nodes → slice_index numbers v ≡ slice_index others v
agree nodes edges numbers others one two zero v less h = absurd (omega (arith, less))
agree nodes edges numbers others one two (suc n) v less h =
    let before : (u : ℕ) → u < v → slice_index numbers u ≡ slice_index others u = λ u early. agree nodes edges numbers others one two n u (omega (arith, early, less)) (omega (arith, early, h)) in
    elim (cases_lt (slice_index numbers v) (slice_index others v)) [
      | inl low ↦ absurd (not_lower nodes edges numbers others v one two h before low)
      | inr high ↦ elim (cases_lt (slice_index others v) (slice_index numbers v)) [
        | inl low ↦ absurd (not_lower nodes edges others numbers v two one h (λ u early. sym (before u early)) low)
        | inr most ↦ omega (arith, high, most)
      ]
    ]

pub one_numbering : OneNumbering
one_numbering nodes edges numbers others one two =
    let long = one.number_for_each in
    ext_get_or 0 numbers others (long ∙ sym two.number_for_each) (λ v h. agree nodes edges numbers others one two nodes v (omega (arith, h, long)) (omega (arith, h, long)))
