-- The level of four boxes is a level.
use Rattle.std.proofs.Common.{◌≡◌, ℕ, ◌≤◌, sym, subst, arith}
use Rattle.std.proofs.lemmas.Int.{ints}
use Rattle.elk_doc.specs.declared.document.Direction.{Direction}
use Rattle.elk_doc.specs.Sound.{IsSoundSpacing}
use Rattle.level_model.specs.Conditions.{IsLevel, IsLevelChild}
use Rattle.level_model.specs.Examples.{spacing}
use Rattle.level_model.specs.Level.{PlainLevel, child_at}
use Rattle.level_split.specs.Examples.{box_of, four_boxes}
use Rattle.plan_laws.proofs.ExampleLemmas.{below4}

a_box : (way : Direction) (width height : ℕ) → width ≤ 100 → height ≤ 100 → IsLevelChild (box_of way width height)
a_box way width height w h =
    record {
      sound = record {
        size = record { width = record { above = omega (arith, ints); below = omega (arith, ints, w) }; height = record { above = omega (arith, ints); below = omega (arith, ints, h) } };
        ports = λ k less. absurd (omega (arith, less));
      };
      near = λ k less. absurd (omega (arith, less));
    }

distances : IsSoundSpacing spacing
distances = omega (arith, ints)

four_is : (way : Direction) → IsLevel (four_boxes way)
four_is way =
    record {
      few_children = omega arith;
      few_ports = omega arith;
      few_edges = omega arith;
      children = below4 (λ c. IsLevelChild (child_at (four_boxes way) c)) (a_box way 100 20 (omega arith) (omega arith)) (a_box way 30 30 (omega arith) (omega arith)) (a_box way 30 30 (omega arith) (omega arith)) (a_box way 40 10 (omega arith) (omega arith));
      edges = λ e less. absurd (omega (arith, less));
      spacing = distances;
      widths = omega (arith, ints);
      heights = omega (arith, ints);
    }

pub level_is : (way : Direction) (l : PlainLevel) → l ≡ four_boxes way → IsLevel l
level_is way l e = subst IsLevel (sym e) (four_is way)
