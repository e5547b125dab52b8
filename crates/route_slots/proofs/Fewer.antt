-- There are no more slots than segments.
use Rattle.std.proofs.Common.{◌≡◌, List, ℕ, ◌<◌, ◌≤◌, length, get_or, ap, subst, arith}
use Rattle.route_slots.specs.declared.slotting.Segment.{Segment}
use Rattle.route_slots.specs.Slotting.{AreSlots}
use Rattle.net_routes.proofs.Lists.{one_each, few_below}

module _ (ps : List Segment) (ss : List ℕ) (count : ℕ) (slots : AreSlots ps ss count) where
  abbrev In : ℕ → ℕ → Type 0
  In s i = (i < length ps) × (get_or ss i 0 ≡ s)

  pub few_slots : count ≤ length ps
  few_slots =
      let is = one_each In count (λ s l. let w = slots.used s l in (w.0, (w.1.0, w.2))) count (omega arith) in
      let len = is.1 in
      subst (λ z. z ≤ length ps) is.1
      (few_below is.0 (length ps) (λ i l. (is.2 i (omega arith)).0)
      (λ i j lt l e.
      let a = (is.2 i (omega arith)).1 in
      let b = (is.2 j (omega arith)).1 in
      let same = ap (λ z. get_or ss z 0) e in omega arith))
