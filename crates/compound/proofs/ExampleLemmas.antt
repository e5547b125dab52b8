-- A root alone in its document is a document.
use Rattle.std.proofs.Common.{◌≡◌, ◌<◌, ◌≤◌, ◌^◌, Option, Some, None, IsSome, pos, neg_ℤ, refl, arith, rules}
use Rattle.std.proofs.lemmas.Int.{ints}
use Rattle.std.specs.Prelude.{IfSome}
use Rattle.drawing_types.specs.declared.shape.Side.{Side}
use Rattle.drawing_types.specs.declared.shape.Side.TheVariants.{North, East, South, West}
use Rattle.elk_doc.specs.declared.document.PortRule.{PortRule}
use Rattle.elk_doc.specs.declared.document.Direction.{Direction}
use Rattle.elk_doc.specs.Document.{node_at, node_of_port, parent_of, port_at}
use Rattle.elk_doc.specs.Examples.{options, point}
use Rattle.elk_doc.specs.Sides.{given_side}
use Rattle.elk_doc.specs.Sound.{HasParent, IsSound, IsSoundLevel, IsSoundNode, IsSoundPort, along, ancestor}
use Rattle.drawing_types.specs.Ranges.{IsWithin}
use Rattle.compound.specs.Examples.{rooted}
use Rattle.drawing_types.proofs.SmallNumbers.{below1, below2}

near_side : (side : Option Side) → IfSome side (λ s. IsWithin (neg_ℤ (pos (2 ^ 20))) (pos (2 ^ 20)) (along s (point (pos 0) (pos 100))))
near_side None = tt
near_side (Some North) = omega (arith, ints)
near_side (Some East) = omega (arith, ints)
near_side (Some South) = omega (arith, ints)
near_side (Some West) = omega (arith, ints)

root_options : (way : Direction) (rule : PortRule) (side : Option Side) → IsSoundLevel (rooted way rule side) 0 (options way)
root_options way rule side =
    record {
      spacing = omega (arith, ints);
      padding = omega (arith, ints);
      component = omega (arith, ints);
      boxes_not_split = λ h. absurd (search rules);
      boxes_no_edge = λ h. absurd (search rules);
    }

pub rooted_sound : (way : Direction) (rule : PortRule) (side : Option Side) → IsSound (rooted way rule side)
unfolding ancestor
rooted_sound way rule side =
    record {
      few_nodes = omega arith;
      few_ports = omega arith;
      few_edges = omega arith;
      tree =
          record {
            root = omega arith;
            root_alone = search rules;
            parents = λ n h k. below1 (λ n. 0 < n → HasParent (rooted way rule side) n) (λ h. absurd (omega arith)) n k h;
            order = λ n m h b k. below1 (λ n. parent_of (rooted way rule side) n < m → m < n → parent_of (rooted way rule side) n ≤ parent_of (rooted way rule side) m) (λ b k. absurd (omega arith)) n h b k;
          };
      levels =
          record {
            root = search rules;
            parents = λ n h k. absurd (omega (arith, h, k));
            only = λ n h k. absurd (omega (arith, h, k));
            depth = below1 (λ n. IsSome (node_at (rooted way rule side) n).level → ancestor (rooted way rule side) 49 n ≡ 0) (λ _. refl);
            options = below1 (λ n. IfSome (node_at (rooted way rule side) n).level (IsSoundLevel (rooted way rule side) n)) (root_options way rule side);
          };
      nodes = below1 (λ n. IsSoundNode (node_at (rooted way rule side) n)) (record { leaf = λ h. absurd (search rules); compound = λ _. refl });
      ports =
          record {
            nodes = below2 (λ k. node_of_port (rooted way rule side) k < 1) (omega arith) (omega arith);
            order = λ j k h l. below2 (λ j. node_of_port (rooted way rule side) j ≤ node_of_port (rooted way rule side) k) (omega arith) (omega arith) j (omega (arith, h, l));
            each = below2 (λ k. IsSoundPort (node_at (rooted way rule side) (node_of_port (rooted way rule side) k)) (port_at (rooted way rule side) k) (given_side (rooted way rule side) k))
                (record { size = omega (arith, ints); index = omega (arith, ints); near = λ h. absurd (search rules); outside = λ h. absurd (search rules); far = omega (arith, ints); pinned = λ _ _. near_side side })
                (record { size = omega (arith, ints); index = omega (arith, ints); near = λ h. absurd (search rules); outside = λ h. absurd (search rules); far = omega (arith, ints); pinned = λ _ _. tt });
          };
      edges = λ e h. absurd (omega (arith, h));
    }
