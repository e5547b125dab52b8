-- The sources that wait: each node with a surplus is one, from the first on until none is left.
use Rattle.std.proofs.Common.{◌≡◌, ℕ, zero, suc, ◌+◌, ◌<◌, ◌≤◌, ◌⊎◌, ℤ, pos, negsuc, Bool, ◌≤ℤ◌, ◌<ℤ◌, List, [], ◌∷◌, ◌++◌, arith, sym, ap, subst, ◌∙◌, inl, inr}
use Rattle.std.proofs.lemmas.Int.{ints}
use Rattle.std.proofs.lemmas.Bool.{cases_eq, cases_lt}
use Rattle.std.specs.List.{Contains}
use Rattle.std.specs.List.Sorted.{IsPermutation}
use Rattle.std.proofs.lemmas.List.Elements.{Contains-append_cases, Contains-append_left, Contains-push}
use Rattle.std.proofs.lemmas.List.Sorted.{Contains-permutation, IsPermutation-sym}
use Rattle.network_laws.specs.declared.network.NetEdge.{NetEdge}
use Rattle.network_laws.specs.Layering.{layer_of}
use Rattle.flow_dual.specs.declared.Label.{Label}
use Rattle.flow_dual.specs.declared.sources.Source.{Source}
use Rattle.flow_dual.specs.Augmented.{AreWaiting, IsDrained, IsDrainingAll}

-- the nodes below a number with a surplus are listed, and no others
pub record AreListed (nodes : ℕ) (excess : List ℤ) (i : ℕ) (sources : List Source) : Type 0 where
  pub in_range : (s : Source) → Contains sources s → s.node < nodes
  pub waits : (v : ℕ) → v < i → pos 0 <ℤ layer_of excess v → (s : Source) × Contains sources s × (s.node ≡ v)

one_of : (x s : Source) → Contains (x ∷ []) s → x ≡ s
one_of x s (zero, l, e) = e
one_of x s (suc k, l, e) = absurd (omega (arith, l))

-- a node more, which is listed
pub one_listed : (nodes : ℕ) (excess : List ℤ) (i : ℕ) (old new : List Source) (s : Source) → i < nodes → s.node ≡ i → new ≡ old ++ s ∷ [] → AreListed nodes excess i old → AreListed nodes excess (i + 1) new
one_listed nodes excess i old new s l n e a = subst (AreListed nodes excess (i + 1)) (sym e) (record {
  in_range = λ t h. elim (Contains-append_cases old (s ∷ []) t h) [
    | inl was ↦ a.in_range t was
    | inr last ↦ let q = ap (λ (x : Source). x.node) (one_of s t last) in omega (arith, q, n, l)
  ];
  waits = λ v lv more. elim (cases_lt v i) [
    | inl before ↦ let w = a.waits v before more in (w.0, Contains-append_left old (s ∷ []) w.0 w.1, w.2)
    | inr after ↦ (s, Contains-push old s, omega (arith, n, lv, after))
  ];
})

-- a node more, which has no surplus
pub one_passed : (nodes : ℕ) (excess : List ℤ) (i : ℕ) (sources : List Source) → layer_of excess i ≤ℤ pos 0 → AreListed nodes excess i sources → AreListed nodes excess (i + 1) sources
one_passed nodes excess i sources none a = record {
  in_range = a.in_range;
  waits = λ v lv more. elim (cases_lt v i) [
    | inl before ↦ a.waits v before more
    | inr after ↦
        let q : v ≡ i = omega (arith, lv, after) in
        let x = ap (layer_of excess) q in
        absurd (omega (arith, ints, x, more, none))
  ];
}

-- in whatever order they stand
pub waiting_moved : (nodes : ℕ) (excess : List ℤ) (old new : List Source) → IsPermutation old new → AreWaiting nodes excess old → AreWaiting nodes excess new
waiting_moved nodes excess old new p w = record {
  in_range = λ s h. w.in_range s (Contains-permutation new old s (IsPermutation-sym old new p) h);
  waits = λ v l more. let x = w.waits v l more in (x.0, Contains-permutation old new x.0 p x.1, x.2);
}

more_or_none : (x : ℤ) → (pos 0 <ℤ x) ⊎ (x ≤ℤ pos 0)
more_or_none (pos zero) = inr (omega (arith, ints))
more_or_none (pos (suc n)) = inl (omega (arith, ints))
more_or_none (negsuc n) = inr (omega (arith, ints))

-- the last source is drained, and the others wait on
pub all_more : (nodes : ℕ) (edges : List NetEdge) (all rest : List Source) (s : Source) (before excess : List ℤ) (layers : List ℤ) (flow : List ℕ) (reached : List Bool) (labels : List Label) (dist : List ℕ)
    → all ≡ rest ++ s ∷ [] → AreWaiting nodes before all → IsDrained nodes edges s.node before layers flow excess reached labels dist → IsDrainingAll nodes edges rest layers flow excess reached labels dist
all_more nodes edges all rest s before excess layers flow reached labels dist e w d = record {
  between = d.between;
  waiting = record {
    in_range = λ t h. w.in_range t (subst (λ xs. Contains xs t) (sym e) (Contains-append_left rest (s ∷ []) t h));
    waits = λ v l more. elim (cases_eq v s.node) [
      | inl q ↦ let x = ap (layer_of excess) q in let none = d.none_left in absurd (omega (arith, ints, x, more, none))
      | inr ne ↦ elim (more_or_none (layer_of before v)) [
        | inl had ↦
            let x = w.waits v l had in
            elim (Contains-append_cases rest (s ∷ []) x.0 (subst (λ xs. Contains xs x.0) e x.1)) [
              | inl h ↦ (x.0, h, x.2)
              | inr last ↦ absurd (ne (sym (ap (λ (y : Source). y.node) (one_of s x.0 last) ∙ x.2)))
            ]
        | inr none ↦ let now = d.others v ne none in absurd (omega (arith, ints, now, more))
      ]
    ];
  };
}
