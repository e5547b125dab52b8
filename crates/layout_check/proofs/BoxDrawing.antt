-- The level of boxes, proved by computing.
use Rattle.std.proofs.Common.{◌≡◌, ◌≢◌, ⊎_elim, subst, Some, refl, ℕ, ◌<◌, ◌+ℤ◌, ◌≤ℤ◌, pos, inl, inr, [], ◌∷◌, IsTrue, IsNone, arith, rules}
use Rattle.std.proofs.lemmas.Int.{ints}
use Rattle.std.proofs.lemmas.List.Elements.{All-nil, All-cons}
use Rattle.drawing_types.specs.declared.shape.Rect.{Rect}
use Rattle.drawing_types.specs.declared.shape.Side.{Side}
use Rattle.elk_doc.specs.declared.document.PortRule.TheVariants.{FixedOrder}
use Rattle.elk_doc.specs.declared.document.LevelOptions.{LevelOptions}
use Rattle.elk_doc.specs.declared.drawing.Certificate.{Certificate}
use Rattle.elk_doc.specs.Document.{node_at}
use Rattle.elk_doc.specs.Numbers.{count_below, sum_below, total_below}
use Rattle.elk_doc.specs.Level.{IsChild, IsEdge, is_child, source_node, target_node}
use Rattle.elk_doc.specs.Drawing.{certificate_of, layer_in}
use Rattle.elk_doc.specs.Fits.{Fits, FitsBox, FitsLevel, FitsSection, KeepsSize, MayBeListed}
use Rattle.drawing_types.specs.Ranges.{IsNear}
use Rattle.drawing_types.specs.Shapes.{bottom_of, right_of}
use Rattle.elk_doc.specs.Paths.{Reaches, stay}
use Rattle.elk_doc.specs.Places.{outline_of, outline_to}
use Rattle.elk_doc.specs.Content.{SomeShape}
use Rattle.elk_doc.specs.Fitted.{IsPinnedOn, LevelFitted}
use Rattle.elk_doc.specs.Apart.{Apart, BoxesApart}
use Rattle.elk_doc.specs.Inside.{Inside, IsWithinPadding}
use Rattle.elk_doc.specs.PortsKept.{KeepsPorts, Spot, a_port, an_end, IsSpread}
use Rattle.elk_doc.specs.Reversed.{UnlistedStep}
use Rattle.elk_doc.specs.Layering.{Layering}
use Rattle.elk_doc.specs.FlowProof.{FlowProof}
use Rattle.elk_doc.specs.Drawn.{LevelDrawn}
use Rattle.elk_doc.specs.Examples.{rect}
use Rattle.layout_check.specs.BoxLevel.{box_level, box_options, boxes_drawn, no_layers, BoxLevelDrawn, BoxLevelSpoilt}
use Rattle.layout_check.proofs.Below.{below4}

at_children : (P : ℕ → Type 0) → P 1 → P 2 → P 3 → (c : ℕ) → IsChild box_level 0 c → P c
at_children P a b c k h = below4 (λ k. IsTrue (is_child box_level 0 k) → P k) (λ t. absurd (search rules)) (λ _. a) (λ _. b) (λ _. c) k h.node_in h.child

child1 : IsChild box_level 0 1
child1 = record { node_in = omega arith; child = search rules }

child2 : IsChild box_level 0 2
child2 = record { node_in = omega arith; child = search rules }

child3 : IsChild box_level 0 3
child3 = record { node_in = omega arith; child = search rules }

no_edge : (e : ℕ) → IsEdge box_level 0 e → ⊥
no_edge e h = let l = h.edge_in in omega (arith, l)

fits : Fits box_level boxes_drawn
unfolding count_below
fits =
    let box0 : FitsBox (rect 0 0 124 94) = omega (arith, ints) in
    let box1 : FitsBox (rect 12 12 100 20) = omega (arith, ints) in
    let box2 : FitsBox (rect 12 52 30 30) = omega (arith, ints) in
    let box3 : FitsBox (rect 62 52 30 30) = omega (arith, ints) in
    record {
      counts = record { boxes = refl; ports = refl; sections = refl; levels = refl };
      root = record { x = refl; y = refl };
      range =
          record {
            boxes = All-cons FitsBox (rect 0 0 124 94) (rect 12 12 100 20 ∷ rect 12 52 30 30 ∷ rect 62 52 30 30 ∷ []) box0 (All-cons FitsBox (rect 12 12 100 20) (rect 12 52 30 30 ∷ rect 62 52 30 30 ∷ []) box1 (All-cons FitsBox (rect 12 52 30 30) (rect 62 52 30 30 ∷ []) box2 (All-cons FitsBox (rect 62 52 30 30) [] box3 (All-nil FitsBox))));
            ports = All-nil IsNear;
            sections = All-nil FitsSection;
          };
      leaves =
          below4 (λ n. IsNone (node_at box_level n).level → KeepsSize box_level boxes_drawn n)
          (λ h. absurd (search rules))
          (λ _. record { width = refl; height = refl })
          (λ _. record { width = refl; height = refl })
          (λ _. record { width = refl; height = refl });
      certificates =
          below4 (λ n. FitsLevel box_level n (node_at box_level n).level (certificate_of boxes_drawn n))
          (record { layers = refl; flow = refl; parts = refl; ascending = λ i h. absurd (omega arith); listed = All-nil (MayBeListed box_level 0) })
          tt
          tt
          tt;
    }

-- two boxes by number are apart
boxes_apart : (a b : ℕ) → IsChild box_level 0 a → IsChild box_level 0 b → a ≢ b → BoxesApart box_level boxes_drawn box_options a b
unfolding outline_to
boxes_apart a b h k n =
    at_children (λ a. a ≢ b → BoxesApart box_level boxes_drawn box_options a b)
    (at_children (λ b. 1 ≢ b → BoxesApart box_level boxes_drawn box_options 1 b) (λ n. absurd (n refl)) (λ _. inl (inr (omega (arith, ints)))) (λ _. inl (inr (omega (arith, ints)))) b k)
    (at_children (λ b. 2 ≢ b → BoxesApart box_level boxes_drawn box_options 2 b) (λ _. inr (inr (omega (arith, ints)))) (λ n. absurd (n refl)) (λ _. inl (inl (omega (arith, ints)))) b k)
    (at_children (λ b. 3 ≢ b → BoxesApart box_level boxes_drawn box_options 3 b) (λ _. inr (inr (omega (arith, ints)))) (λ _. inr (inl (omega (arith, ints)))) (λ n. absurd (n refl)) b k)
    a h n

apart : Apart box_level boxes_drawn 0 box_options no_layers
apart = record { numbered = λ h. absurd (search rules); layers = λ h. absurd (search rules); parts = λ h. absurd (search rules); boxes = λ _. boxes_apart }

inside : Inside box_level boxes_drawn 0 box_options
unfolding outline_to
inside =
    record {
      outlines = λ c h _. at_children (λ c. IsWithinPadding (rect 0 0 124 94) box_options.padding (outline_of box_level boxes_drawn c)) (omega (arith, ints)) (omega (arith, ints)) (omega (arith, ints)) c h;
      points = λ e i h _ _. absurd (no_edge e h);
    }

keeps : (m : ℕ) → ((node_at box_level m).rule ≡ FixedOrder → ⊥) → KeepsPorts box_level boxes_drawn m
keeps m free =
    record {
      ports = λ k h _. absurd (omega (arith, h));
      ends = λ e at_source h _. absurd (omega (arith, h));
      order = λ h. absurd (free h);
      spread = λ s x y _ hx _ _. absurd (no_spot m s x hx);
    }
  where
    no_spot : (m : ℕ) (s : Side) (x : Spot) → IsSpread box_level boxes_drawn m s x → ⊥
    no_spot m s (a_port k) h = let l = h.0 in omega (arith, l)
    no_spot m s (an_end e at_source) h = let l = h.0 in omega (arith, l)

no_step : (a b : ℕ) → UnlistedStep box_level 0 no_layers a b → ⊥
no_step a b s = no_edge s.edge s.of_level

flow : FlowProof box_level boxes_drawn 0 no_layers
unfolding sum_below
flow = record { loops = λ e h _. absurd (no_edge e h); balance = λ a h. refl; sum = refl }

layering : Layering box_level boxes_drawn 0 no_layers
unfolding total_below
layering = record { layers = λ e h _. absurd (no_edge e h); span = refl }

level_drawn : LevelDrawn box_level boxes_drawn 0 box_options no_layers
level_drawn =
    record {
      apart = apart;
      inside = inside;
      ports_kept =
          record {
            children = at_children (KeepsPorts box_level boxes_drawn) (keeps 1 (λ h. cc)) (keeps 2 (λ h. cc)) (keeps 3 (λ h. cc));
            root = λ _. keeps 0 (λ h. cc);
          };
      routes = λ e h. absurd (no_edge e h);
      clear = λ e a h _. absurd (no_edge e h);
      sharing = λ e f h _ _. absurd (no_edge e h);
      reversed = record { closes = All-nil (λ e. Reaches (UnlistedStep box_level 0 no_layers) (target_node box_level e) (source_node box_level e)); acyclic = λ a b s _. no_step a b s };
      layering = layering;
      flow = flow;
    }

by_shape : (P : Rect → Type 0) (Q : Type 0) → (P (outline_of box_level boxes_drawn 1) → Q) → (P (outline_of box_level boxes_drawn 2) → Q) → (P (outline_of box_level boxes_drawn 3) → Q) → SomeShape box_level boxes_drawn 0 P → Q
by_shape P Q a b c (inl (k, h, s)) = at_children (λ k. P (outline_of box_level boxes_drawn k) → Q) a b c k h s
by_shape P Q a b c (inr (e, i, h, k, s)) = absurd (no_edge e h)

no_pins : (s t : Side) (k : ℕ) → IsPinnedOn box_level boxes_drawn 0 s t k → ⊥
no_pins s t k h = let l = h.port_in in omega (arith, l)

level_fitted : LevelFitted box_level boxes_drawn 0 box_options no_layers
unfolding outline_to count_below
level_fitted =
    record {
      left = λ _. record { itself = inl (1, child1, refl); bound = λ y. by_shape (λ r. y ≡ r.x) (pos 12 ≤ℤ y) (λ q. omega (arith, ints, q)) (λ q. omega (arith, ints, q)) (λ q. omega (arith, ints, q)) };
      top = λ _. record { itself = inl (1, child1, refl); bound = λ y. by_shape (λ r. y ≡ r.y) (pos 12 ≤ℤ y) (λ q. omega (arith, ints, q)) (λ q. omega (arith, ints, q)) (λ q. omega (arith, ints, q)) };
      width =
          record {
            itself = inl (inl (1, child1, refl));
            bound = λ y. ⊎_elim
                (by_shape (λ r. y ≡ right_of r +ℤ pos 12) (y ≤ℤ pos 124) (λ q. omega (arith, ints, q)) (λ q. omega (arith, ints, q)) (λ q. omega (arith, ints, q)))
                (⊎_elim (λ q. absurd (q.0 1 child1)) (λ q. absurd (no_pins _ _ q.0 q.1)));
          };
      height =
          record {
            itself = inl (inl (2, child2, refl));
            bound = λ y. ⊎_elim
                (by_shape (λ r. y ≡ bottom_of r +ℤ pos 12) (y ≤ℤ pos 94) (λ q. omega (arith, ints, q)) (λ q. omega (arith, ints, q)) (λ q. omega (arith, ints, q)))
                (⊎_elim (λ q. absurd (q.0 1 child1)) (λ q. absurd (no_pins _ _ q.0 q.1)));
          };
      layers = λ a h. (a, h, stay a, at_children (λ a. layer_in box_level 0 no_layers a ≡ 0) refl refl refl a h);
    }

at_level : (P : ℕ → LevelOptions → Certificate → Type 0) → P 0 box_options no_layers → (n : ℕ) (o : LevelOptions) (c : Certificate) → n < 4 → (node_at box_level n).level ≡ Some o → certificate_of boxes_drawn n ≡ Some c → P n o c
at_level P h n o c k =
    below4 (λ n. (node_at box_level n).level ≡ Some o → certificate_of boxes_drawn n ≡ Some c → P n o c)
    (λ eo ec.
    let same_options : box_options ≡ o = cc in
    let same_certificate : no_layers ≡ c = cc in
    subst (λ (o : LevelOptions). P 0 o c) same_options (subst (P 0 box_options) same_certificate h))
    (λ eo ec. absurd cc)
    (λ eo ec. absurd cc)
    (λ eo ec. absurd cc)
    n k

pub boxes_are_drawn : BoxLevelDrawn
boxes_are_drawn = record { drawn = record { fits = fits; levels = at_level (LevelDrawn box_level boxes_drawn) level_drawn }; fitted = at_level (LevelFitted box_level boxes_drawn) level_fitted }

pub boxes_are_spoilt : BoxLevelSpoilt
unfolding outline_to
boxes_are_spoilt =
    record {
      near = λ h. ⊎_elim (⊎_elim (λ q. omega (arith, ints, q)) (λ q. omega (arith, ints, q))) (⊎_elim (λ q. omega (arith, ints, q)) (λ q. omega (arith, ints, q))) (h.boxes (search rules) 2 3 child2 child3 (λ e. omega (arith, e)));
    }
