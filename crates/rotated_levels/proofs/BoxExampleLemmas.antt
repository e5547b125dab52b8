-- The example of a document that runs up, by computing.
use Rattle.std.proofs.Common.{◌≡◌, ◌≢◌, ℕ, ◌<◌, inl, ⊎_elim, ℤ, pos, ◌≤ℤ◌, refl, arith, IsTrue}
use Rattle.std.proofs.lemmas.Int.{ints}
use Rattle.elk_doc.specs.declared.document.Direction.TheVariants.{Up}
use Rattle.drawing_types.specs.declared.shape.Side.{Side}
use Rattle.drawing_types.specs.declared.shape.Side.TheVariants.{North, East, South, West}
use Rattle.elk_doc.specs.Level.{IsChild, is_child}
use Rattle.elk_doc.specs.Document.{port_at}
use Rattle.elk_doc.specs.Drawing.{box_of, port_place, section_of}
use Rattle.elk_doc.specs.Examples.{two_layers}
use Rattle.elk_doc.specs.Fits.{IsSolid}
use Rattle.elk_doc.specs.Fitted.{IsPinnedOn}
use Rattle.elk_doc.specs.Numbers.{numbers_below, count_below}
use Rattle.elk_doc.specs.PortsKept.{is_pinned}
use Rattle.working_frame.specs.Reach.{least, greatest, corners_of, points_of}
use Rattle.level_model.specs.FromPlan.{section_at}
use Rattle.level_model.specs.Apart.{ChildrenApart, drawn_port}
use Rattle.working_frame.specs.Rotated.{child_number, edge_number, port_number, rotated_place, box_size}
use Rattle.working_frame.specs.Drawing.{IsRotatedChild, IsRotatedSection}
use Rattle.rotated_levels.specs.BoxExamples.{upward, upward_drawn, upward_framed, upward_level, upward_move, UpwardFits}
use Rattle.drawing_types.proofs.SmallNumbers.{below1, below2, below3}

-- no port is pinned
none_pinned : (s t : Side) (k : ℕ) → IsPinnedOn upward upward_drawn 0 s t k → ⊥
none_pinned s t k h = below1 (λ j. IsTrue (is_pinned upward j) → ⊥) (λ e. absurd cc) k h.port_in h.pinned

up_to : (y z : ℤ) → y ≡ z → y ≤ℤ z
up_to y z e = omega (arith, ints, e)

upward_fits_child : (i : ℕ) → i < 2 → IsRotatedChild upward upward_drawn Up upward_framed upward_move i (child_number upward 0 i)
unfolding numbers_below count_below
upward_fits_child =
    below2 (λ i. IsRotatedChild upward upward_drawn Up upward_framed upward_move i (child_number upward 0 i))
    (record {
      box = refl;
      ports = below1
          (λ j. rotated_place Up (box_size upward_drawn 1) (port_at upward (port_number upward 1 j)).size (port_place upward_drawn (port_number upward 1 j)) ≡ drawn_port upward_framed 0 j)
          refl;
    })
    (record { box = refl; ports = λ j h. absurd (omega (arith, h)) })

upward_fits_section : (i : ℕ) → i < 1 → IsRotatedSection Up upward_move (section_of upward_drawn (edge_number upward 0 i)) (section_at upward_framed i)
unfolding numbers_below count_below
upward_fits_section =
    below1 (λ i. IsRotatedSection Up upward_move (section_of upward_drawn (edge_number upward 0 i)) (section_at upward_framed i))
    (record { start = refl; bends = refl; end = refl })

solid_child : (c : ℕ) → IsChild upward 0 c → IsSolid (box_of upward_drawn c)
solid_child c h =
    below3 (λ k. IsTrue (is_child upward 0 k) → IsSolid (box_of upward_drawn k))
    (λ t. absurd cc)
    (λ t. record { width = omega (arith, ints); height = omega (arith, ints) })
    (λ t. record { width = omega (arith, ints); height = omega (arith, ints) })
    c h.node_in h.child

apart_there : (i j : ℕ) → i < 2 → j < 2 → i ≢ j → ChildrenApart upward_level upward_framed two_layers.layers i j
unfolding numbers_below count_below
apart_there i j hi hj differ =
    below2 (λ a. (b : ℕ) → b < 2 → a ≢ b → ChildrenApart upward_level upward_framed two_layers.layers a b)
    (below2 (λ b. 0 ≢ b → ChildrenApart upward_level upward_framed two_layers.layers 0 b)
    (λ n. absurd (n refl))
    (λ n. record { same_layer = λ e. absurd cc; earlier_layer = λ _. omega (arith, ints) }))
    (below2 (λ b. 1 ≢ b → ChildrenApart upward_level upward_framed two_layers.layers 1 b)
    (λ n. record { same_layer = λ e. absurd cc; earlier_layer = λ h. absurd (omega (arith, h)) })
    (λ n. absurd (n refl)))
    i hi j hj differ

pub upward_fits : UpwardFits
unfolding numbers_below count_below least greatest corners_of points_of
upward_fits =
    record {
      rotated = record { children = upward_fits_child; sections = upward_fits_section };
      fills = record { left = refl; top = refl; right = refl; bottom = refl };
      framed = record {
        section_count = refl;
        move = refl;
        width = record {
          itself = inl refl;
          bound = λ y h. ⊎_elim (λ e. up_to y (pos 55) e) (λ k. absurd (none_pinned North South k.0 k.1)) h;
        };
        height = record {
          itself = inl refl;
          bound = λ y h. ⊎_elim (λ e. up_to y (pos 89) e) (λ k. absurd (none_pinned East West k.0 k.1)) h;
        };
        solid = solid_child;
      };
      apart = apart_there;
    }
