-- An edge has at most one lane in a layer.
use Rattle.std.proofs.Common.{◌≡◌, inl, inr, ℕ, zero, suc, ◌+◌, ◌≤◌, ◌==◌, cond, List, [], ◌∷◌, ◌++◌, refl, ◌∙◌, arith}
use Rattle.std.proofs.lemmas.Bool.{cases_eq, eq-eqb, ne_eqb}
use Rattle.std.proofs.lemmas.List.Sums.{sum_by-append}
use Rattle.std.specs.List.{count_by}
use Rattle.elk_layers.specs.declared.units.Unit.{Unit as LayerUnit}
use Rattle.layer_units.specs.declared.runs.Run.{Run}
use Rattle.layer_units.specs.Numbered.{lane_on}
use Rattle.layer_units.specs.Grown.{grown, all_grown}

abbrev pub in_layer : ℕ → List LayerUnit → ℕ
in_layer g us = count_by (λ (u : LayerUnit). u.layer == g) us

one_more : (g : ℕ) (us : List LayerUnit) (u : LayerUnit) → u.layer ≡ g → in_layer g (us ++ u ∷ []) ≡ in_layer g us + 1
one_more g us u e = sum_by-append (λ (v : LayerUnit). cond (v.layer == g) 1 0) us (u ∷ []) ∙ rw (eq-eqb u.layer g e) (omega arith)

none_more : (g : ℕ) (us : List LayerUnit) (u : LayerUnit) → (u.layer ≡ g → ⊥) → in_layer g (us ++ u ∷ []) ≡ in_layer g us
none_more g us u e = sum_by-append (λ (v : LayerUnit). cond (v.layer == g) 1 0) us (u ∷ []) ∙ rw (ne_eqb u.layer g e) (omega arith)

pub lanes_count : (g : ℕ) (run : Run) (us : List LayerUnit) (n : ℕ)
    → (in_layer g (grown (lane_on run) us n) ≤ in_layer g us + 1) × (run.layer + 1 + n ≤ g → in_layer g (grown (lane_on run) us n) ≡ in_layer g us)
unfolding grown
lanes_count g run us zero = (omega arith, λ _. refl)
lanes_count g run us (suc n) =
    let rest = lanes_count g run us n in
    elim (cases_eq (run.layer + 1 + n) g) [
      | inl same ↦ (let more = one_more g (grown (lane_on run) us n) (lane_on run n) same in let equal = rest.1 (omega (arith, same)) in (omega (arith, more, equal), λ h. absurd (omega (arith, h, same))))
      | inr other ↦ (let more = none_more g (grown (lane_on run) us n) (lane_on run n) other in let low = rest.0 in (omega (arith, more, low), λ h. more ∙ rest.1 (omega (arith, h))))
    ]

pub all_count : (g : ℕ) (run : ℕ → Run) (count : ℕ → ℕ) (us : List LayerUnit) (e : ℕ) → in_layer g (all_grown (λ d i. lane_on (run d) i) count us e) ≤ in_layer g us + e
unfolding all_grown
all_count g run count us zero = omega arith
all_count g run count us (suc e) =
    let one = (lanes_count g (run e) (all_grown (λ d i. lane_on (run d) i) count us e) (count e)).0 in
    let rest = all_count g run count us e in
    omega (arith, one, rest)
