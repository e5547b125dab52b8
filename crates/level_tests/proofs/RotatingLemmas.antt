-- The document of one node is sound, and the drawing of its level can be written.
use Rattle.std.proofs.Common.{◌≡◌, ◌∙◌, ap, sym, subst, refl, ℕ, ◌<◌, ◌≤◌, [], ◌∷◌, length, get_or, All, IsSome, IfSome, IsTrue, arith, rules}
use Rattle.std.proofs.lemmas.Int.{ints}
use Rattle.std.proofs.lemmas.List.{length-map}
use Rattle.std.proofs.lemmas.List.Elements.{All-nil, All-cons}
use Rattle.std.specs.Prelude.{Vec, pos}
use Rattle.std.specs.declared.alloc.Global.{Global}
use Rattle.elk_doc.specs.declared.document.Direction.{Direction}
use Rattle.elk_doc.specs.declared.drawing.Placed.{Placed}
use Rattle.elk_doc.specs.Document.{Document, node_at, node_of_port, parent_of, port_at}
use Rattle.elk_doc.specs.Drawing.{box_of}
use Rattle.elk_doc.specs.Level.{IsChild, children, edges_of, is_child}
use Rattle.elk_doc.specs.Numbers.{numbers_below}
use Rattle.elk_doc.specs.Sides.{given_side}
use Rattle.elk_doc.specs.Sound.{HasParent, IsSound, IsSoundEdge, IsSoundLevel, IsSoundNode, IsSoundPort, ancestor}
use Rattle.elk_doc.specs.Examples.{point}
use Rattle.working_frame.specs.Ranges.{IsFarPoint, IsFarSection}
use Rattle.working_frame.specs.Rotated.{ports_of}
use Rattle.level_io.specs.Canvas.{blank_drawing}
use Rattle.level_io.specs.Ranges.{IsLongBox}
use Rattle.level_io.specs.declared.figure.LevelFigure.{LevelFigure}
use Rattle.level_io.specs.declared.writing.LevelNumbers.{LevelNumbers}
use Rattle.level_io.specs.Written.{AreNumbersAt, ArePortPlaces, IsWritable, rows_in}
use Rattle.level_tests.specs.Rotating.{figure, padded, port_rows, rotating}
use Rattle.drawing_types.proofs.SmallNumbers.{below1, below2}

root_options : (way : Direction) → IsSoundLevel (rotating way) 0 (padded way)
root_options way =
    record {
      spacing = omega (arith, ints);
      padding = omega (arith, ints);
      component = omega (arith, ints);
      boxes_not_split = λ h. absurd (search rules);
      boxes_no_edge = λ h. absurd (search rules);
    }

pub rotating_sound : (way : Direction) → IsSound (rotating way)
unfolding ancestor
rotating_sound way =
    record {
      few_nodes = omega arith;
      few_ports = omega arith;
      few_edges = omega arith;
      tree =
          record {
            root = omega arith;
            root_alone = search rules;
            parents = λ n h k. below2 (λ n. 0 < n → HasParent (rotating way) n) (λ h. absurd (omega arith)) (λ _. record { parent = search rules; before = omega arith }) n k h;
            order = λ n m h b k. below2 (λ n. parent_of (rotating way) n < m → m < n → parent_of (rotating way) n ≤ parent_of (rotating way) m) (λ b k. absurd (omega arith)) (λ b k. absurd (omega arith)) n h b k;
          };
      levels =
          record {
            root = search rules;
            parents = λ n h k. below2 (λ n. 0 < n → IsSome (node_at (rotating way) (parent_of (rotating way) n)).level) (λ h. absurd (omega arith)) (λ _. search rules) n k h;
            only = λ n h k. below2 (λ n. 0 < n → IsSome (node_at (rotating way) n).level → (c : ℕ) × (c < 2) × IsTrue (is_child (rotating way) n c)) (λ h. absurd (omega arith)) (λ _ h. absurd (search rules)) n k h;
            depth = below2 (λ n. IsSome (node_at (rotating way) n).level → ancestor (rotating way) 49 n ≡ 0) (λ _. refl) (λ h. absurd (search rules));
            options = below2 (λ n. IfSome (node_at (rotating way) n).level (IsSoundLevel (rotating way) n)) (root_options way) tt;
          };
      nodes =
          below2 (λ n. IsSoundNode (node_at (rotating way) n))
          (record { leaf = λ h. absurd (search rules); compound = λ _. refl })
          (record { leaf = λ _. omega (arith, ints); compound = λ h. absurd (search rules) });
      ports =
          record {
            nodes = below1 (λ k. node_of_port (rotating way) k < 2) (omega arith);
            order = λ j k h l. absurd (omega (arith, h, l));
            each = below1 (λ k. IsSoundPort (node_at (rotating way) (node_of_port (rotating way) k)) (port_at (rotating way) k) (given_side (rotating way) k))
                (record { size = omega (arith, ints); index = omega (arith, ints); near = λ _. omega (arith, ints); outside = λ _ bad. absurd cc; far = omega (arith, ints); pinned = λ h. absurd (search rules) });
          };
      edges =
          below1 (IsSoundEdge (rotating way))
          (record { source_in = omega arith; target_in = omega arith; source_below = omega arith; target_below = omega arith; siblings = refl; weight_above = omega arith; weight_below = omega arith });
    }

one_child : (way : Direction) → 1 ∷ [] ≡ children (rotating way) 0
unfolding numbers_below
one_child way = refl

one_edge : (way : Direction) → 0 ∷ [] ≡ edges_of (rotating way) 0
unfolding numbers_below
one_edge way = refl

no_port : (way : Direction) → [] ≡ ports_of (rotating way) 0
unfolding numbers_below
no_port way = refl

one_port : (way : Direction) → 0 ∷ [] ≡ ports_of (rotating way) 1
unfolding numbers_below
one_port way = refl

pub are_numbers : (way : Direction) (d : Document) (numbers : LevelNumbers) → d ≡ rotating way → numbers.children.now ≡ 1 ∷ [] → numbers.edges.now ≡ 0 ∷ []
    → rows_in numbers.ports.now ≡ port_rows → AreNumbersAt d 0 numbers
are_numbers way d numbers same listed edges rows =
    subst (λ (e : Document). AreNumbersAt e 0 numbers) (sym same) (record {
      children = listed ∙ one_child way;
      edges = edges ∙ one_edge way;
      ports = record {
        nodes = sym (length-map numbers.ports.now (λ (row : Vec ℕ Global). row.items)) ∙ ap length rows;
        each = below2 (λ c. get_or (rows_in numbers.ports.now) c [] ≡ ports_of (rotating way) c) (ap (λ rs. get_or rs 0 []) rows ∙ no_port way) (ap (λ rs. get_or rs 1 []) rows ∙ one_port way);
      };
    })

-- a point whose coordinates are below 256
near_point : (x y : ℕ) → x < 256 → y < 256 → IsFarPoint (point (pos x) (pos y))
near_point x y h k =
    record { x = record { above = omega (arith, ints); below = omega (arith, ints, h) }; y = record { above = omega (arith, ints); below = omega (arith, ints, k) } }

only_child : (way : Direction) (P : ℕ → Type 0) → P 1 → (c : ℕ) → IsChild (rotating way) 0 c → P c
only_child way P a c h = below2 (λ k. IsTrue (is_child (rotating way) 0 k) → P k) (λ t. absurd (search rules)) (λ _. a) c h.node_in h.child

port_places : (way : Direction) (x y : ℕ) → x < 256 → y < 256 → ArePortPlaces (rotating way) (1 ∷ []) (figure x y).ports
unfolding numbers_below
port_places way x y h k =
    record {
      as_many = refl;
      each = below1 (λ i. length (get_or (figure x y).ports i []) ≡ length (ports_of (rotating way) (get_or (1 ∷ []) i 0))) refl;
      far = below1 (λ i. All IsFarPoint (get_or (figure x y).ports i [])) (All-cons IsFarPoint (point (pos x) (pos y)) [] (near_point x y h k) (All-nil IsFarPoint));
    }

section_is_far : (x y : ℕ) → All IsFarSection (figure x y).sections
section_is_far x y =
    All-cons IsFarSection _ []
    (record {
      start = near_point 1 2 (omega arith) (omega arith);
      bends = All-cons IsFarPoint (point (pos 5) (pos 2)) (point (pos 5) (pos 9) ∷ []) (near_point 5 2 (omega arith) (omega arith)) (All-cons IsFarPoint (point (pos 5) (pos 9)) [] (near_point 5 9 (omega arith) (omega arith)) (All-nil IsFarPoint));
      end = near_point 8 9 (omega arith) (omega arith);
    })
    (All-nil IsFarSection)

writable : (way : Direction) (x y : ℕ) → x < 256 → y < 256 → IsWritable (rotating way) (blank_drawing (rotating way)) 0 (figure x y)
writable way x y h k =
    record {
      extent = record { width = record { above = omega (arith, ints); below = omega (arith, ints) }; height = record { above = omega (arith, ints); below = omega (arith, ints) } };
      box_count = ap length (one_child way);
      boxes = All-cons IsFarPoint (point (pos 3) (pos 4)) [] (near_point 3 4 (omega arith) (omega arith)) (All-nil IsFarPoint);
      sizes = only_child way (λ c. IsLongBox (box_of (blank_drawing (rotating way)) c)) (record { width = record { above = omega (arith, ints); below = omega (arith, ints) }; height = record { above = omega (arith, ints); below = omega (arith, ints) } });
      ports = subst (λ cs. ArePortPlaces (rotating way) cs (figure x y).ports) (one_child way) (port_places way x y h k);
      section_count = ap length (one_edge way);
      sections = section_is_far x y;
      reversed = All-nil _;
    }

pub is_writable : (way : Direction) (d : Document) (p : Placed) (v : LevelFigure) (x y : ℕ) → d ≡ rotating way → p ≡ blank_drawing d → v ≡ figure x y
    → x < 256 → y < 256 → IsWritable d p 0 v
is_writable way d p v x y same blank drawn h k =
    subst (λ v. IsWritable d p 0 v) (sym drawn)
    (subst (λ p. IsWritable d p 0 (figure x y)) (sym blank)
    (subst (λ d. IsWritable d (blank_drawing d) 0 (figure x y)) (sym same) (writable way x y h k)))
