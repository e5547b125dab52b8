-- The example of a document that runs up, by computing.
use Rattle.std.proofs.Common.{◌≡◌, ℕ, ◌<◌, ◌≤◌, length, Bool, true, false, refl, arith, rules}
use Rattle.std.proofs.lemmas.Int.{ints}
use Rattle.std.specs.Prelude.{IsSome, IsNone, IfSome, IsTrue}
use Rattle.elk_doc.specs.declared.document.Direction.TheVariants.{Up}
use Rattle.elk_doc.specs.Document.{node_at, port_at, parent_of, node_of_port}
use Rattle.elk_doc.specs.Level.{is_child}
use Rattle.elk_doc.specs.Numbers.{numbers_below, count_below, any_below}
use Rattle.elk_doc.specs.Examples.{options, two_layers}
use Rattle.elk_doc.specs.Fits.{LeavesKept, KeepsSize}
use Rattle.elk_doc.specs.Sound.{IsSound, IsSoundLevel, IsSoundNode, IsSoundPort, IsSoundEdge, HasParent, ancestor}
use Rattle.elk_doc.specs.Sides.{given_side}
use Rattle.level_model.specs.Level.{child_at, end_at, spoke, port_place}
use Rattle.level_model.specs.FromPlan.{point_or, box_place, section_at, anchor}
use Rattle.level_model.specs.Apart.{drawn_port}
use Rattle.level_model.specs.PortsKept.{ArePortsPlaced}
use Rattle.rotated_levels.specs.BoxExamples.{upward, upward_drawn, upward_level, upward_move}
use Rattle.rotated_levels.proofs.BoxExampleLemmas.{upward_fits}
use Rattle.rotated_levels.specs.DockLaws.{IsFromLevel, IsAnchored}
use Rattle.rotated_levels.specs.PortExamples.{upward_plan, upward_orders, upward_gapped, UpwardStands}
use Rattle.drawing_types.proofs.SmallNumbers.{below1, below2, below3}

-- ---- the document

upward_options : (n : ℕ) → IsSoundLevel upward n (options Up)
upward_options n =
    record {
      spacing = omega (arith, ints);
      padding = omega (arith, ints);
      component = omega (arith, ints);
      boxes_not_split = λ h. absurd (search rules);
      boxes_no_edge = λ h. absurd (search rules);
    }

upward_sound : IsSound upward
unfolding ancestor
upward_sound =
    record {
      few_nodes = omega arith;
      few_ports = omega arith;
      few_edges = omega arith;
      tree =
          record {
            root = omega arith;
            root_alone = search rules;
            parents = λ n h k. below3 (λ n. 0 < n → HasParent upward n) (λ h. absurd (omega arith)) (λ _. record { parent = search rules; before = omega arith }) (λ _. record { parent = search rules; before = omega arith }) n k h;
            order = λ n m h b k. below3 (λ n. parent_of upward n < m → m < n → parent_of upward n ≤ parent_of upward m) (λ b k. absurd (omega arith)) (λ b k. absurd (omega arith)) (λ b k. omega arith) n h b k;
          };
      levels =
          record {
            root = search rules;
            parents = λ n h k. below3 (λ n. 0 < n → IsSome (node_at upward (parent_of upward n)).level) (λ h. absurd (omega arith)) (λ _. search rules) (λ _. search rules) n k h;
            only = λ n h k. below3 (λ n. 0 < n → IsSome (node_at upward n).level → (c : ℕ) × (c < 3) × IsTrue (is_child upward n c)) (λ h. absurd (omega arith)) (λ _ h. absurd (search rules)) (λ _ h. absurd (search rules)) n k h;
            depth = below3 (λ n. IsSome (node_at upward n).level → ancestor upward 49 n ≡ 0) (λ _. refl) (λ h. absurd (search rules)) (λ h. absurd (search rules));
            options = below3 (λ n. IfSome (node_at upward n).level (IsSoundLevel upward n)) (upward_options 0) tt tt;
          };
      nodes =
          below3 (λ n. IsSoundNode (node_at upward n))
          (record { leaf = λ h. absurd (search rules); compound = λ _. refl })
          (record { leaf = λ _. omega (arith, ints); compound = λ h. absurd (search rules) })
          (record { leaf = λ _. omega (arith, ints); compound = λ h. absurd (search rules) });
      ports =
          record {
            nodes = below1 _ (omega arith);
            order = λ j k h l. absurd (omega arith);
            each = below1 (λ k. IsSoundPort (node_at upward (node_of_port upward k)) (port_at upward k) (given_side upward k))
                (record { size = omega (arith, ints); index = omega (arith, ints); near = λ _. omega (arith, ints); outside = λ _ fixed. absurd cc; far = omega (arith, ints); pinned = λ h. absurd (search rules) });
          };
      edges =
          below1 (IsSoundEdge upward)
          (record { source_in = omega arith; target_in = omega arith; source_below = omega arith; target_below = omega arith; siblings = refl; weight_above = omega arith; weight_below = omega arith });
    }

upward_leaves : LeavesKept upward upward_drawn
upward_leaves =
    below3 (λ n. IsNone (node_at upward n).level → KeepsSize upward upward_drawn n) (λ h. absurd (search rules)) (λ _. record { width = refl; height = refl }) (λ _. record { width = refl; height = refl })

upward_from : IsFromLevel upward upward_drawn 0 (options Up) upward_plan upward_gapped upward_move
upward_from =
    record {
      sound = upward_sound;
      options = refl;
      leaves = upward_leaves;
      drawn = record {
        children = λ i h. (let t = upward_fits.rotated.children i h in record { box = t.box; ports = t.ports });
        sections = λ i h. (let t = upward_fits.rotated.sections i h in record { start = t.start; bends = t.bends; end = t.end });
      };
      certificate = two_layers;
      written = refl;
      numbered = refl;
      reversed_in = λ i h. absurd (search rules);
    }

-- ---- its level

upward_placed : ArePortsPlaced upward_level upward_plan upward_orders upward_gapped
unfolding numbers_below count_below any_below
upward_placed =
    record {
      ports = λ c k hc hk.
          below2 (λ c. (k : ℕ) → k < length (child_at upward_level c).ports → drawn_port upward_gapped c k ≡ port_place upward_level upward_plan upward_orders c k)
          (below1 (λ k. drawn_port upward_gapped 0 k ≡ port_place upward_level upward_plan upward_orders 0 k) refl)
          (λ k h. absurd (omega (arith, h)))
          c hc k hk;
      boxes = λ e t h. below1 (λ e. point_or upward_gapped.boxes (spoke upward_level (end_at e t)).child ≡ box_place upward_level upward_plan upward_orders upward_gapped (spoke upward_level (end_at e t)).child) (at_end t) e h;
    }
  where
    at_end : (t : Bool) → point_or upward_gapped.boxes (spoke upward_level (end_at 0 t)).child ≡ box_place upward_level upward_plan upward_orders upward_gapped (spoke upward_level (end_at 0 t)).child
    at_end true = refl
    at_end false = refl

upward_anchored : IsAnchored upward_level upward_plan upward_orders upward_gapped
unfolding numbers_below count_below any_below
upward_anchored =
    record {
      placed = upward_placed;
      from_source = below1 (λ i. (section_at upward_gapped i).start ≡ anchor upward_level upward_plan upward_orders upward_gapped (end_at i true)) refl;
      to_target = below1 (λ i. (section_at upward_gapped i).end ≡ anchor upward_level upward_plan upward_orders upward_gapped (end_at i false)) refl;
    }

pub upward_stands : UpwardStands
unfolding numbers_below count_below any_below
upward_stands = record { rotated = upward_from; anchored = upward_anchored; source = refl; source_framed = refl; target = refl; target_framed = refl }
