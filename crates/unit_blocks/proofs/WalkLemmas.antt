-- The walk along a linked list, and why it ends: a list of different numbers below a bound is no longer than the bound.
use Rattle.std.proofs.Common.{◌≡◌, ◌≢◌, ℕ, zero, suc, ◌+◌, ◌<◌, ◌≤◌, List, [], ◌∷◌, ◌++◌, length, get_or, take, arith, refl, sym, ◌∙◌, ap, inl, inr, take_all}
use Rattle.std.proofs.lemmas.Bool.{cases_lt}
use Rattle.std.proofs.lemmas.List.{take_more, get_or_past, get_or_default}
use Rattle.unit_blocks.specs.Chains.{IsChain, HoldList, IsWalked, WalksTo}
use Rattle.elk_layers.proofs.OccursLemmas.{occurs_at, length_below}

first_next : (next : List ℕ) (x : ℕ) (ys : List ℕ) (end : ℕ) → IsChain next x ys end → get_or next x 0 ≡ get_or ys 0 end
first_next next x [] end c = c
first_next next x (y ∷ ys) end c = c.0

chain_next : (next : List ℕ) (x : ℕ) (ys : List ℕ) (end i : ℕ) → IsChain next x ys end → i < length ys → get_or next (get_or ys i end) 0 ≡ get_or ys (i + 1) end
chain_next next x [] end i c h = absurd (omega (arith, h))
chain_next next x (y ∷ ys) end zero c h = first_next next y ys end c.1
chain_next next x (y ∷ ys) end (suc i) c h =
    let n : suc i + 1 ≡ suc (i + 1) = omega arith in
    rw n (chain_next next y ys end i c.1 (omega (arith, h)))

module _ (next : List ℕ) (end : ℕ) (order : List ℕ) (holds : HoldList next end order) where
  pub walk_start : IsWalked order end 0 (get_or next end 0) []
  walk_start = record { found_is = refl; at_is = first_next next end order end holds.chain }

  pub walk_below : (i at : ℕ) (found : List ℕ) → IsWalked order end i at found → at < end + 1
  walk_below i at found w = elim (cases_lt i (length order)) [
    | inl k ↦
        let b = holds.below (get_or order i 0) (occurs_at order i k) in
        let e : get_or order i end ≡ get_or order i 0 = get_or_default order i end 0 k in
        let a = w.at_is in
        omega (arith, b, e, a)
    | inr k ↦
        let e : get_or order i end ≡ end = get_or_past order i end k in
        let a = w.at_is in
        omega (arith, e, a)
  ]

  pub walk_more : (i at : ℕ) (found : List ℕ) → at ≢ end → IsWalked order end i at found → IsWalked order end (i + 1) (get_or next at 0) (found ++ at ∷ [])
  walk_more i at found ne w = elim (cases_lt i (length order)) [
    | inr k ↦ absurd (ne (w.at_is ∙ get_or_past order i end k))
    | inl k ↦
        record {
          found_is = ap (λ xs. xs ++ at ∷ []) w.found_is ∙ ap (λ x. take i order ++ x ∷ []) w.at_is ∙ sym (take_more order i end k);
          at_is = ap (λ x. get_or next x 0) w.at_is ∙ chain_next next end order end i holds.chain k;
        }
  ]

  pub walk_stays : (i at : ℕ) (found : List ℕ) → at ≡ end → IsWalked order end i at found → IsWalked order end (i + 1) at found
  walk_stays i at found e w = elim (cases_lt i (length order)) [
    | inl k ↦
        let b = holds.below (get_or order i 0) (occurs_at order i k) in
        let d : get_or order i end ≡ get_or order i 0 = get_or_default order i end 0 k in
        let a = w.at_is in
        absurd (omega (arith, b, d, a, e))
    | inr k ↦
        record {
          found_is = w.found_is ∙ take_all i order k ∙ sym (take_all (i + 1) order (omega (arith, k)));
          at_is = e ∙ sym (get_or_past order (i + 1) end (omega (arith, k)));
        }
  ]

  pub walk_end : (i at : ℕ) (found : List ℕ) → end ≤ i → IsWalked order end i at found → found ≡ order
  walk_end i at found h w =
      let few = length_below end order holds.once holds.below in
      w.found_is ∙ take_all i order (omega (arith, few, h))

  pub walk_step : (i at to : ℕ) (found found' : List ℕ) → WalksTo next end at found to found' → IsWalked order end i at found → IsWalked order end (i + 1) to found'
  walk_step i at to found found' (inl k) w = rw (k.1, k.2) (walk_stays i at found k.0 w)
  walk_step i at to found found' (inr k) w = rw (k.1, k.2) (walk_more i at found k.0 w)
