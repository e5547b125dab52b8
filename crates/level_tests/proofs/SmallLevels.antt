-- Small levels of squares of 30 by 30 without ports are levels.
use Rattle.std.proofs.Common.{◌≡◌, ℕ, zero, suc, ◌<◌, [], arith, sym, subst}
use Rattle.std.proofs.lemmas.Int.{ints}
use Rattle.elk_doc.specs.declared.document.PortRule.TheVariants.{Free}
use Rattle.level_model.specs.Conditions.{IsLevel, IsLevelChild, IsLevelEdge}
use Rattle.level_model.specs.Examples.{square}
use Rattle.level_model.specs.Level.{PlainLevel, child_at}
use Rattle.level_parts.specs.Examples.{mixed}
use Rattle.drawing_types.proofs.SmallNumbers.{below3}

below_five : (P : ℕ → Type 0) → P 0 → P 1 → P 2 → P 3 → P 4 → (k : ℕ) → k < 5 → P k
below_five P a b c d e zero h = a
below_five P a b c d e (suc zero) h = b
below_five P a b c d e (suc (suc k)) h = below3 (λ n. P (suc (suc n))) c d e k (omega (arith, h))

below_four : (P : ℕ → Type 0) → P 0 → P 1 → P 2 → P 3 → (k : ℕ) → k < 4 → P k
below_four P a b c d zero h = a
below_four P a b c d (suc k) h = below3 (λ n. P (suc n)) b c d k (omega (arith, h))

a_child : IsLevelChild (square [] Free)
a_child =
    record {
      sound = record {
        size = record { width = record { above = omega (arith, ints); below = omega (arith, ints) }; height = record { above = omega (arith, ints); below = omega (arith, ints) } };
        ports = λ k h. absurd (omega (arith, h));
      };
      near = λ k h. absurd (omega (arith, h));
    }

mixed_is_level : IsLevel mixed
mixed_is_level =
    record {
      few_children = omega arith;
      few_ports = omega arith;
      few_edges = omega arith;
      children = below_five (λ c. IsLevelChild (child_at mixed c)) a_child a_child a_child a_child a_child;
      edges = below_four (IsLevelEdge mixed)
          (record { source = record { child = omega arith; port = tt }; target = record { child = omega arith; port = tt }; weight_above = omega arith; weight_below = omega arith })
          (record { source = record { child = omega arith; port = tt }; target = record { child = omega arith; port = tt }; weight_above = omega arith; weight_below = omega arith })
          (record { source = record { child = omega arith; port = tt }; target = record { child = omega arith; port = tt }; weight_above = omega arith; weight_below = omega arith })
          (record { source = record { child = omega arith; port = tt }; target = record { child = omega arith; port = tt }; weight_above = omega arith; weight_below = omega arith });
      spacing = omega (arith, ints);
      widths = omega (arith, ints);
      heights = omega (arith, ints);
    }

pub mixed_is : (l : PlainLevel) → l ≡ mixed → IsLevel l
mixed_is l same = subst IsLevel (sym same) mixed_is_level
