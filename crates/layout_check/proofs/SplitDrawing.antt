-- The split level, proved by computing.
use Rattle.std.proofs.Common.{◌≡◌, ◌≢◌, ◌⊎◌, ⊎_elim, ◌↔◌, subst, ◌∙◌, Bool, true, false, Some, refl, ℕ, ◌+◌, ◌<◌, ◌+ℤ◌, ◌≤ℤ◌, pos, inl, inr, [], ◌∷◌, IsTrue, ◌==◌, ◌&&◌, ap, IsNone, arith, rules}
use Rattle.std.proofs.lemmas.Int.{ints, clamps}
use Rattle.std.proofs.lemmas.List.Elements.{All-nil, All-cons}
use Rattle.drawing_types.specs.declared.shape.Dock.{Dock}
use Rattle.drawing_types.specs.declared.shape.Rect.{Rect}
use Rattle.drawing_types.specs.declared.shape.Side.{Side}
use Rattle.drawing_types.specs.declared.shape.Side.TheVariants.{North, West}
use Rattle.elk_doc.specs.declared.document.PortRule.TheVariants.{FixedOrder}
use Rattle.elk_doc.specs.declared.document.End.TheVariants.{Node as AtNode}
use Rattle.elk_doc.specs.declared.document.LevelOptions.{LevelOptions}
use Rattle.elk_doc.specs.declared.drawing.Certificate.{Certificate}
use Rattle.elk_doc.specs.Document.{node_at, node_of_port}
use Rattle.elk_doc.specs.Numbers.{any_below, count_below, sum_below, total_below}
use Rattle.elk_doc.specs.Level.{IsChild, IsEdge, is_child, is_loop, source_node, target_node}
use Rattle.elk_doc.specs.Drawing.{certificate_of, point_at, point_count, tail_node, head_node, flow_in, layer_in, part_in}
use Rattle.elk_doc.specs.Fits.{Fits, FitsBox, FitsLevel, FitsSection, KeepsSize, MayBeListed}
use Rattle.drawing_types.specs.Ranges.{IsNear}
use Rattle.drawing_types.specs.Shapes.{bottom_of, point_rect, right_of}
use Rattle.drawing_types.specs.Segments.{MeetsRect, EntersRect}
use Rattle.elk_doc.specs.Paths.{Reaches, stay, go}
use Rattle.elk_doc.specs.Places.{outline_of, outline_to}
use Rattle.elk_doc.specs.Content.{EachShapeOf, SomeShape}
use Rattle.drawing_types.specs.Clearance.{IsAboveBy}
use Rattle.elk_doc.specs.Fitted.{IsPinnedOn, LevelFitted}
use Rattle.std.proofs.lemmas.Bool.Decides.{nat_tests}
use Rattle.elk_doc.specs.Apart.{Apart, InOnePart, AreJoined, LayersApart, NumbersParts, PartIsAbove, PartsApart}
use Rattle.elk_doc.specs.Inside.{Inside, IsWithinPadding}
use Rattle.elk_doc.specs.Sides.{end_of, side_of_port}
use Rattle.elk_doc.specs.PortsKept.{ComesBefore, PortsKept, clockwise, port_offset, KeepsPort, KeepsPorts, KeepsEnd, Spot, a_port, an_end, IsSpread, is_spread_port, is_spread_end, spot_offset}
use Rattle.drawing_types.specs.Shapes.{is_side}
use Rattle.elk_doc.specs.Route.{Route, IsStep}
use Rattle.elk_doc.specs.Clear.{Clear}
use Rattle.elk_doc.specs.Reversed.{Reversed, UnlistedStep}
use Rattle.elk_doc.specs.Layering.{Layering, written_layer}
use Rattle.elk_doc.specs.FlowProof.{FlowProof}
use Rattle.elk_doc.specs.Drawn.{LevelDrawn}
use Rattle.drawing_types.proofs.SegmentBounds.{EntersRect-spans, MeetsRect-spans}
use Rattle.elk_doc.specs.Examples.{rect}
use Rattle.layout_check.specs.RoundTrip.{at_xy}
use Rattle.layout_check.specs.SplitLevel.{split_level, split_options, split_drawn, split_with, above_at, two_parts, SplitLevelDrawn, SplitLevelSpoilt}
use Rattle.layout_check.proofs.Below.{below4}
use Rattle.drawing_types.proofs.SmallNumbers.{below1, below2, below3}

at_children : (P : ℕ → Type 0) → P 1 → P 2 → P 3 → (c : ℕ) → IsChild split_level 0 c → P c
at_children P a b c k h = below4 (λ k. IsTrue (is_child split_level 0 k) → P k) (λ t. absurd (search rules)) (λ _. a) (λ _. b) (λ _. c) k h.node_in h.child

at_edge : (P : ℕ → Type 0) → P 0 → (e : ℕ) → IsEdge split_level 0 e → P e
at_edge P a e h = below1 P a e h.edge_in

child1 : IsChild split_level 0 1
child1 = record { node_in = omega arith; child = search rules }

child2 : IsChild split_level 0 2
child2 = record { node_in = omega arith; child = search rules }

child3 : IsChild split_level 0 3
child3 = record { node_in = omega arith; child = search rules }

edge0 : IsEdge split_level 0 0
edge0 = record { edge_in = omega arith; edge = search rules }

-- ---- Fits

fits : Fits split_level split_drawn
unfolding count_below
fits =
    let box0 : FitsBox (rect 0 0 114 119) = omega (arith, ints) in
    let box1 : FitsBox (rect 12 17 30 30) = omega (arith, ints) in
    let box2 : FitsBox (rect 72 12 30 30) = omega (arith, ints) in
    let box3 : FitsBox (rect 12 77 30 30) = omega (arith, ints) in
    let near0 : IsNear (at_xy 30 5) = omega (arith, ints) in
    let near1 : IsNear (above_at 15) = omega (arith, ints) in
    let near2 : IsNear (above_at 5) = omega (arith, ints) in
    let section0 : FitsSection (record { start = at_xy 52 27; bends = []; end = at_xy 72 27 }) = record { start = omega (arith, ints); bends = All-nil IsNear; end = omega (arith, ints) } in
    record {
      counts = record { boxes = refl; ports = refl; sections = refl; levels = refl };
      root = record { x = refl; y = refl };
      range =
          record {
            boxes = All-cons FitsBox (rect 0 0 114 119) (rect 12 17 30 30 ∷ rect 72 12 30 30 ∷ rect 12 77 30 30 ∷ []) box0 (All-cons FitsBox (rect 12 17 30 30) (rect 72 12 30 30 ∷ rect 12 77 30 30 ∷ []) box1 (All-cons FitsBox (rect 72 12 30 30) (rect 12 77 30 30 ∷ []) box2 (All-cons FitsBox (rect 12 77 30 30) [] box3 (All-nil FitsBox))));
            ports = All-cons IsNear (at_xy 30 5) (above_at 15 ∷ above_at 5 ∷ []) near0 (All-cons IsNear (above_at 15) (above_at 5 ∷ []) near1 (All-cons IsNear (above_at 5) [] near2 (All-nil IsNear)));
            sections = All-cons FitsSection (record { start = at_xy 52 27; bends = []; end = at_xy 72 27 }) [] section0 (All-nil FitsSection);
          };
      leaves =
          below4 (λ n. IsNone (node_at split_level n).level → KeepsSize split_level split_drawn n)
          (λ h. absurd (search rules))
          (λ _. record { width = refl; height = refl })
          (λ _. record { width = refl; height = refl })
          (λ _. record { width = refl; height = refl });
      certificates =
          below4 (λ n. FitsLevel split_level n (node_at split_level n).level (certificate_of split_drawn n))
          (record { layers = refl; flow = refl; parts = refl; ascending = λ i h. absurd (omega arith); listed = All-nil (MayBeListed split_level 0) })
          tt
          tt
          tt;
    }

-- ---- Apart

part : ℕ → ℕ
part = part_in split_level 0 two_parts

-- the only joined children are the first and the second
joined_are : (a b : ℕ) → AreJoined split_level 0 a b → ((a ≡ 1) × (b ≡ 2)) ⊎ ((a ≡ 2) × (b ≡ 1))
joined_are a b (e, h, inl ends) = at_edge (λ e. source_node split_level e ≡ a → target_node split_level e ≡ b → ((a ≡ 1) × (b ≡ 2)) ⊎ ((a ≡ 2) × (b ≡ 1))) (λ x y. inl (omega (arith, x), omega (arith, y))) e h ends.0 ends.1
joined_are a b (e, h, inr ends) = at_edge (λ e. source_node split_level e ≡ b → target_node split_level e ≡ a → ((a ≡ 1) × (b ≡ 2)) ⊎ ((a ≡ 2) × (b ≡ 1))) (λ x y. inr (omega (arith, y), omega (arith, x))) e h ends.0 ends.1

-- what one part holds
pub data Mates : ℕ → ℕ → Type 0 where
  same : (a : ℕ) → Mates a a
  pair : (a b : ℕ) → a < 3 → b < 3 → Mates a b

after : (a c b : ℕ) → a < 3 → c < 3 → Mates c b → Mates a b
after a c b l k (same _) = pair a c l k
after a c b l _ (pair _ _ _ k) = pair a b l k

mates : (a b : ℕ) → InOnePart split_level 0 a b → Mates a b
mates a b (stay _) = same a
mates a b (go _ c _ s r) =
    ⊎_elim (λ q. after a c b (let e = q.0 in omega (arith, e)) (let e = q.1 in omega (arith, e)) (mates c b r)) (λ q. after a c b (let e = q.0 in omega (arith, e)) (let e = q.1 in omega (arith, e)) (mates c b r)) (joined_are a c s)

far : (a b : ℕ) → Mates a b → a < 3 → b ≡ 3 → ⊥
far a b (same _) l e = omega (arith, l, e)
far a b (pair _ _ _ k) l e = omega (arith, k, e)

far_back : (a b : ℕ) → Mates a b → a ≡ 3 → b < 3 → ⊥
far_back a b (same _) e l = omega (arith, l, e)
far_back a b (pair _ _ k _) e l = omega (arith, k, e)

there : InOnePart split_level 0 1 2
there = go 1 2 2 (0, edge0, inl (refl, refl)) (stay 2)

back : InOnePart split_level 0 2 1
back = go 2 1 1 (0, edge0, inr (refl, refl)) (stay 1)

abbrev Agree : ℕ → ℕ → Type 0
Agree a b = (part_in split_level 0 two_parts a ≡ part_in split_level 0 two_parts b) ↔ InOnePart split_level 0 a b

agree : (a b : ℕ) → IsChild split_level 0 a → IsChild split_level 0 b → Agree a b
unfolding count_below
agree a b h k =
    at_children (λ a. Agree a b)
    (at_children (Agree 1) ((λ _. stay 1), (λ _. refl)) ((λ _. there), (λ _. refl)) ((λ e. absurd (omega (arith, e))), (λ r. absurd (far 1 3 (mates 1 3 r) (omega arith) refl))) b k)
    (at_children (Agree 2) ((λ _. back), (λ _. refl)) ((λ _. stay 2), (λ _. refl)) ((λ e. absurd (omega (arith, e))), (λ r. absurd (far 2 3 (mates 2 3 r) (omega arith) refl))) b k)
    (at_children (Agree 3) ((λ e. absurd (omega (arith, e))), (λ r. absurd (far_back 3 1 (mates 3 1 r) refl (omega arith)))) ((λ e. absurd (omega (arith, e))), (λ r. absurd (far_back 3 2 (mates 3 2 r) refl (omega arith)))) ((λ _. stay 3), (λ _. refl)) b k)
    a h

numbered : NumbersParts split_level 0 two_parts
unfolding count_below
numbered =
    record {
      same = agree;
      in_order = λ a i h l.
          at_children (λ a. i < part_in split_level 0 two_parts a → (b : ℕ) × IsChild split_level 0 b × (b < a) × (part_in split_level 0 two_parts b ≡ i))
          (λ l. absurd (omega (arith, l)))
          (λ l. absurd (omega (arith, l)))
          (λ l. (1, child1, omega arith, omega (arith, l)))
          a h l;
    }

abbrev LayersOk : ℕ → ℕ → Type 0
LayersOk a b =
    a ≢ b → part_in split_level 0 two_parts a ≡ part_in split_level 0 two_parts b → LayersApart split_level split_drawn 0 split_options two_parts a b

layers : (a b : ℕ) → IsChild split_level 0 a → IsChild split_level 0 b → LayersOk a b
unfolding count_below outline_to
layers a b h k =
    at_children (λ a. LayersOk a b)
    (at_children (LayersOk 1)
    (λ n _. absurd (n refl))
    (λ _ _. record { same_layer = λ e. absurd (omega arith); earlier_layer = λ _. omega (arith, ints) })
    (λ _ e. absurd (omega (arith, e)))
    b k)
    (at_children (LayersOk 2)
    (λ _ _. record { same_layer = λ e. absurd (omega arith); earlier_layer = λ l. absurd (omega (arith, l)) })
    (λ n _. absurd (n refl))
    (λ _ e. absurd (omega (arith, e)))
    b k)
    (at_children (LayersOk 3) (λ _ e. absurd (omega (arith, e))) (λ _ e. absurd (omega (arith, e))) (λ n _. absurd (n refl)) b k)
    a h

-- the shapes of the two parts, by their heights
abbrev IsUpper : Rect → Type 0
IsUpper r = bottom_of r ≤ℤ pos 47

abbrev IsLower : Rect → Type 0
IsLower r = pos 67 ≤ℤ r.y

upper : (r : Rect → Type 0) → ((s : Rect) → IsUpper s → r s) → EachShapeOf split_level split_drawn 0 (λ a. part_in split_level 0 two_parts a ≡ 0) r
unfolding count_below outline_to
upper Q h =
    record {
      outlines = λ c k e. at_children (λ c. part_in split_level 0 two_parts c ≡ 0 → Q (outline_of split_level split_drawn c)) (λ _. h _ (omega (arith, ints))) (λ _. h _ (omega (arith, ints))) (λ e. absurd (omega (arith, e))) c k e;
      points = λ e i k _ l.
          at_edge (λ e. (i : ℕ) → i < point_count split_drawn e → Q (point_rect (point_at split_drawn e i)))
          (below2 (λ i. Q (point_rect (point_at split_drawn 0 i))) (h _ (omega (arith, ints))) (h _ (omega (arith, ints))))
          e k i l;
    }

lower : (Q : Rect → Type 0) → ((s : Rect) → IsLower s → Q s) → EachShapeOf split_level split_drawn 0 (λ a. part_in split_level 0 two_parts a ≡ 1) Q
unfolding count_below outline_to
lower Q h =
    record {
      outlines = λ c k e. at_children (λ c. part_in split_level 0 two_parts c ≡ 1 → Q (outline_of split_level split_drawn c)) (λ e. absurd (omega (arith, e))) (λ e. absurd (omega (arith, e))) (λ _. h _ (omega (arith, ints))) c k e;
      points = λ e i k t l. at_edge (λ e. part_in split_level 0 two_parts (source_node split_level e) ≡ 1 → Q (point_rect (point_at split_drawn e i))) (λ t. absurd (omega (arith, t))) e k t;
    }

part_above : PartIsAbove split_level split_drawn 0 split_options two_parts 0 1
part_above =
    upper (λ r. EachShapeOf split_level split_drawn 0 (λ b. part_in split_level 0 two_parts b ≡ 1) (λ s. IsAboveBy (pos 20) r s))
    (λ r u. lower (λ s. IsAboveBy (pos 20) r s) (λ s l. omega (arith, ints, u, l)))

abbrev PartsOk : ℕ → ℕ → Type 0
PartsOk a b =
    part_in split_level 0 two_parts a ≢ part_in split_level 0 two_parts b → PartsApart split_level split_drawn 0 split_options two_parts (part_in split_level 0 two_parts a) (part_in split_level 0 two_parts b)

parts : (a b : ℕ) → IsChild split_level 0 a → IsChild split_level 0 b → PartsOk a b
unfolding count_below
parts a b h k =
    at_children (λ a. PartsOk a b)
    (at_children (PartsOk 1) (λ n. absurd (n refl)) (λ n. absurd (n refl)) (λ _. inl (inr part_above)) b k)
    (at_children (PartsOk 2) (λ n. absurd (n refl)) (λ n. absurd (n refl)) (λ _. inl (inr part_above)) b k)
    (at_children (PartsOk 3) (λ _. inr (inr part_above)) (λ _. inr (inr part_above)) (λ n. absurd (n refl)) b k)
    a h

apart : Apart split_level split_drawn 0 split_options two_parts
apart =
    record {
      numbered = λ _. numbered;
      layers = λ _ a b h k n e. layers a b h k n (e (search rules));
      parts = λ _ a b h k n. parts a b h k n;
      boxes = λ h. absurd (search rules);
    }

-- ---- Inside and PortsKept

abbrev IsIn : Rect → Type 0
IsIn = IsWithinPadding (rect 0 0 114 119) split_options.padding

inside : Inside split_level split_drawn 0 split_options
unfolding outline_to
inside =
    record {
      outlines = λ c h _. at_children (λ c. IsIn (outline_of split_level split_drawn c)) (omega (arith, ints)) (omega (arith, ints)) (omega (arith, ints)) c h;
      points = λ e i h _ k.
          at_edge (λ e. (i : ℕ) → i < point_count split_drawn e → IsIn (point_rect (point_at split_drawn e i)))
          (below2 (λ i. IsIn (point_rect (point_at split_drawn 0 i))) (omega (arith, ints)) (omega (arith, ints)))
          e h i k;
    }

ports_kept : (k : ℕ) → k < 3 → KeepsPort split_level split_drawn k
unfolding any_below
ports_kept =
    below3 (KeepsPort split_level split_drawn)
    (record { along_kept = λ _. refl; across_kept = λ _. refl; flush_outside = λ h. absurd (search rules); on_side = λ h. absurd (search rules) })
    (record { along_kept = λ h. absurd (search rules); across_kept = λ h. absurd (search rules); flush_outside = λ _. refl; on_side = λ _. omega (arith, ints) })
    (record { along_kept = λ h. absurd (search rules); across_kept = λ h. absurd (search rules); flush_outside = λ _. refl; on_side = λ _. omega (arith, ints) })

ends : (m e : ℕ) (at_source : Bool) → e < 1 → end_of split_level e at_source ≡ AtNode m → KeepsEnd split_level split_drawn m e at_source
ends m e true h = below1 (λ e. end_of split_level e true ≡ AtNode m → KeepsEnd split_level split_drawn m e true) (λ i. absurd cc) e h
ends m e false h =
    below1 (λ e. end_of split_level e false ≡ AtNode m → KeepsEnd split_level split_drawn m e false)
    (λ i. let same : 2 ≡ m = cc in subst (λ (m : ℕ). KeepsEnd split_level split_drawn m 0 false) same (record { on_line = refl; on_side = omega (arith, ints) }))
    e h

-- the ports of the third node stand in their order
abbrev OrderOk : ℕ → ℕ → Type 0
OrderOk j k =
    node_of_port split_level j ≡ 3 → node_of_port split_level k ≡ 3 → ComesBefore split_level split_drawn j k → clockwise (side_of_port split_level split_drawn j) (port_offset split_level split_drawn j) ≤ℤ clockwise (side_of_port split_level split_drawn k) (port_offset split_level split_drawn k)

order : (j k : ℕ) → j < 3 → k < 3 → OrderOk j k
unfolding any_below
order j k h l =
    below3 (λ j. OrderOk j k)
    (λ a _ _. absurd (omega (arith, a)))
    (below3 (OrderOk 1) (λ _ b _. absurd (omega (arith, b))) (λ _ _ _. omega (arith, ints)) (λ _ _. ⊎_elim (λ q. absurd (omega (arith, ints, q))) (λ q. let e = q.0 in absurd (omega (arith, ints, e)))) k l)
    (below3 (OrderOk 2) (λ _ b _. absurd (omega (arith, b))) (λ _ _ _. omega (arith, ints)) (λ _ _ _. omega (arith, ints)) k l)
    j h

-- the spots: the end at the second node, and the two ports of the third
data Which : ℕ → Side → Spot → Type 0 where
  the_end : (s : Side) → Which 2 s (an_end 0 false)
  port1 : (s : Side) → Which 3 s (a_port 1)
  port2 : (s : Side) → Which 3 s (a_port 2)

moved_to : (m n : ℕ) (s : Side) (x : Spot) → Which m s x → m ≡ n → Which n s x
moved_to m n s x w i = subst (λ (n : ℕ). Which n s x) i w

is_second : (m : ℕ) (s : Side) → IsTrue ((2 == m) && is_side West s) → 2 ≡ m
is_second m s t = grind (arith, nat_tests)

is_third : (m : ℕ) (s : Side) → IsTrue ((3 == m) && is_side North s) → 3 ≡ m
is_third m s t = grind (arith, nat_tests)

not_first : (m : ℕ) → IsTrue ((1 == m) && false) → ⊥
not_first m t = grind (arith, nat_tests)

which : (m : ℕ) (s : Side) (x : Spot) → IsSpread split_level split_drawn m s x → Which m s x
unfolding any_below
which m s (a_port k) h =
    below3 (λ k. IsTrue (is_spread_port split_level split_drawn m s k) → Which m s (a_port k))
    (λ t. absurd (not_first m t))
    (λ t. moved_to 3 m s (a_port 1) (port1 s) (is_third m s t))
    (λ t. moved_to 3 m s (a_port 2) (port2 s) (is_third m s t))
    k h.0 h.1
which m s (an_end e true) h = below1 (λ e. IsTrue (is_spread_end split_level split_drawn m s true e) → Which m s (an_end e true)) (λ t. absurd (search rules)) e h.0 h.1
which m s (an_end e false) h =
    below1 (λ e. IsTrue (is_spread_end split_level split_drawn m s false e) → Which m s (an_end e false))
    (λ t. moved_to 2 m s (an_end 0 false) (the_end s) (is_second m s t))
    e h.0 h.1

spread_apart : (m : ℕ) (s : Side) (x y : Spot) → Which m s x → Which m s y → x ≢ y → spot_offset split_level split_drawn m s x ≢ spot_offset split_level split_drawn m s y
unfolding any_below
spread_apart _ _ _ _ (the_end s) (the_end _) n = absurd (n refl)
spread_apart _ _ _ _ (port1 s) (port1 _) n = absurd (n refl)
spread_apart _ _ _ _ (port1 s) (port2 _) n = λ e. absurd (omega (arith, ints, e))
spread_apart _ _ _ _ (port2 s) (port1 _) n = λ e. absurd (omega (arith, ints, e))
spread_apart _ _ _ _ (port2 s) (port2 _) n = absurd (n refl)

keeps : (m : ℕ) → ((node_at split_level m).rule ≡ FixedOrder → m ≡ 3) → KeepsPorts split_level split_drawn m
keeps m third =
    record {
      ports = λ k h _. ports_kept k h;
      ends = ends m;
      order = λ r j k h l a b _ c.
          let is : m ≡ 3 = third r in
          order j k h l (a ∙ is) (b ∙ is) c;
      spread = λ s x y _ hx hy n. spread_apart m s x y (which m s x hx) (which m s y hy) n;
    }

-- ---- Route, Clear and Reversed

route : Route split_level split_drawn 0
unfolding any_below
route =
    record {
      from_source = refl;
      to_target = refl;
      one_dock = λ h. absurd (let t = ap (λ (k : Dock). k.node) h in search rules);
      orthogonal = λ _.
          record {
            steps = λ i h. below1 (λ i. IsStep (point_at split_drawn 0 i) (point_at split_drawn 0 (i + 1))) (inr (λ e. absurd (omega (arith, ints)), refl)) i (omega arith);
            turns = λ i h. absurd (omega arith);
            source_outward = (refl, omega (arith, ints));
            target_outward = (refl, omega (arith, ints));
          };
    }

clear : (c : ℕ) → IsChild split_level 0 c → Clear split_level split_drawn 0 c
unfolding outline_to
clear =
    at_children (Clear split_level split_drawn 0)
    (record {
      foreign = λ n _ i h m. n refl;
      own = λ _ i h. below1 (λ i. EntersRect (point_at split_drawn 0 i) (point_at split_drawn 0 (i + 1)) (rect 12 17 30 30) → ⊥)
          (λ m. let s = (EntersRect-spans _ _ _ m).0 in omega (arith, ints, clamps)) i (omega arith);
    })
    (record {
      foreign = λ _ n i h m. n refl;
      own = λ _ i h. below1 (λ i. EntersRect (point_at split_drawn 0 i) (point_at split_drawn 0 (i + 1)) (rect 72 12 30 30) → ⊥)
          (λ m. let s = (EntersRect-spans _ _ _ m).0 in omega (arith, ints, clamps)) i (omega arith);
    })
    (record {
      foreign = λ _ _ i h. below1 (λ i. MeetsRect (point_at split_drawn 0 i) (point_at split_drawn 0 (i + 1)) (rect 12 67 30 40) → ⊥)
          (λ m. let s = (MeetsRect-spans (at_xy 52 27) (at_xy 72 27) (rect 12 67 30 40) m).1 in omega (arith, ints, clamps, s)) i (omega arith);
      own = ⊎_elim (λ e. absurd (omega (arith, e))) (λ e. absurd (omega (arith, e)));
    })

the_step : (a b : ℕ) → UnlistedStep split_level 0 two_parts a b → (a ≡ 1) × (b ≡ 2)
the_step a b s =
    at_edge (λ e. source_node split_level e ≡ a → target_node split_level e ≡ b → (a ≡ 1) × (b ≡ 2)) (λ x y. (omega arith, omega arith)) s.edge s.of_level s.source s.target

no_way_back : (a b : ℕ) → a ≡ 2 → b ≡ 1 → Reaches (UnlistedStep split_level 0 two_parts) a b → ⊥
no_way_back a b x y (stay _) = omega arith
no_way_back a b x y (go _ c _ s r) = let t = the_step a c s in let u = t.0 in omega arith

reversed : Reversed split_level 0 two_parts
reversed =
    record {
      closes = All-nil (λ e. Reaches (UnlistedStep split_level 0 two_parts) (target_node split_level e) (source_node split_level e));
      acyclic = λ a b s r. let t = the_step a b s in no_way_back b a t.1 t.0 r;
    }

layering : Layering split_level split_drawn 0 two_parts
unfolding count_below total_below
layering =
    record {
      layers = λ e h _. at_edge (λ e. (written_layer split_level 0 two_parts (tail_node split_level split_drawn e) +ℤ pos 1) ≤ℤ written_layer split_level 0 two_parts (head_node split_level split_drawn e)) (omega (arith, ints)) e h;
      span = refl;
    }

flow : FlowProof split_level split_drawn 0 two_parts
unfolding count_below sum_below
flow =
    record {
      loops = at_edge (λ e. IsTrue (is_loop split_level e) → flow_in split_level 0 two_parts e ≡ 0) (λ t. absurd (search rules));
      balance = at_children _ refl refl refl;
      sum = refl;
    }

-- ---- Drawn and Fitted

level_drawn : LevelDrawn split_level split_drawn 0 split_options two_parts
level_drawn =
    record {
      apart = apart;
      inside = inside;
      ports_kept =
          record {
            children = at_children (KeepsPorts split_level split_drawn) (keeps 1 (λ h. absurd cc)) (keeps 2 (λ h. absurd cc)) (keeps 3 (λ _. refl));
            root = λ _. keeps 0 (λ h. absurd cc);
          };
      routes = at_edge (Route split_level split_drawn) route;
      clear = λ e a h k. at_edge (λ e. Clear split_level split_drawn e a) (clear a k) e h;
      sharing = λ e f h k n. absurd (at_edge (λ e. e ≢ f → ⊥) (at_edge (λ f. 0 ≢ f → ⊥) (λ n. n refl) f k) e h n);
      reversed = reversed;
      layering = layering;
      flow = flow;
    }

at_level : (P : ℕ → LevelOptions → Certificate → Type 0) → P 0 split_options two_parts → (n : ℕ) (o : LevelOptions) (c : Certificate) → n < 4 → (node_at split_level n).level ≡ Some o → certificate_of split_drawn n ≡ Some c → P n o c
at_level P h n o c k =
    below4 (λ n. (node_at split_level n).level ≡ Some o → certificate_of split_drawn n ≡ Some c → P n o c)
    (λ eo ec.
    let same_options : split_options ≡ o = cc in
    let same_certificate : two_parts ≡ c = cc in
    subst (λ (o : LevelOptions). P 0 o c) same_options (subst (P 0 split_options) same_certificate h))
    (λ eo ec. absurd cc)
    (λ eo ec. absurd cc)
    (λ eo ec. absurd cc)
    n k

-- what follows from every shape follows from some shape
by_shape : (P : Rect → Type 0) (Q : Type 0) → ((r : Rect) → IsIn r → P r → Q) → SomeShape split_level split_drawn 0 P → Q
by_shape P Q h (inl (c, k, s)) = h _ (inside.outlines c k tt) s
by_shape P Q h (inr (e, i, k, l, s)) = h _ (inside.points e i k tt l) s

no_pins : (s t : Side) (k : ℕ) → IsPinnedOn split_level split_drawn 0 s t k → ⊥
no_pins s t k h = below3 (λ k. node_of_port split_level k ≡ 0 → ⊥) (λ e. omega (arith, e)) (λ e. omega (arith, e)) (λ e. omega (arith, e)) k h.port_in h.of_node

level_fitted : LevelFitted split_level split_drawn 0 split_options two_parts
unfolding outline_to count_below
level_fitted =
    record {
      left = λ _. record { itself = inl (1, child1, refl); bound = λ y. by_shape (λ r. y ≡ r.x) (pos 12 ≤ℤ y) (λ r w q. let l = w.left in omega (arith, ints, q, l)) };
      top = λ _. record { itself = inl (2, child2, refl); bound = λ y. by_shape (λ r. y ≡ r.y) (pos 12 ≤ℤ y) (λ r w q. let l = w.top in omega (arith, ints, q, l)) };
      width =
          record {
            itself = inl (inl (2, child2, refl));
            bound = λ y. ⊎_elim
                (by_shape (λ r. y ≡ right_of r +ℤ pos 12) (y ≤ℤ pos 114) (λ r w q. let l = w.right in omega (arith, ints, q, l)))
                (⊎_elim (λ q. absurd (q.0 1 child1)) (λ q. absurd (no_pins _ _ q.0 q.1)));
          };
      height =
          record {
            itself = inl (inl (3, child3, refl));
            bound = λ y. ⊎_elim
                (by_shape (λ r. y ≡ bottom_of r +ℤ pos 12) (y ≤ℤ pos 119) (λ r w q. let l = w.bottom in omega (arith, ints, q, l)))
                (⊎_elim (λ q. absurd (q.0 1 child1)) (λ q. absurd (no_pins _ _ q.0 q.1)));
          };
      layers =
          at_children (λ a. (b : ℕ) × IsChild split_level 0 b × InOnePart split_level 0 a b × (layer_in split_level 0 two_parts b ≡ 0))
          (1, child1, stay 1, refl)
          (1, child1, back, refl)
          (3, child3, stay 3, refl);
    }

pub split_is_drawn : SplitLevelDrawn
split_is_drawn =
    record {
      drawn = record { fits = fits; levels = at_level (LevelDrawn split_level split_drawn) level_drawn };
      fitted = at_level (LevelFitted split_level split_drawn) level_fitted;
    }

-- ---- the spoilt drawings

-- the upper part is neither left of, nor above, a third node that stands one higher
near : Apart split_level (split_with 76 (at_xy 30 5) (above_at 15) (above_at 5)) 0 split_options two_parts → ⊥
unfolding outline_to count_below
near h =
    ⊎_elim
    (⊎_elim (λ q. let l = (q.outlines 1 child1 refl).outlines 3 child3 refl in omega (arith, ints, l)) (λ q. let l = (q.outlines 1 child1 refl).outlines 3 child3 refl in omega (arith, ints, l)))
    (⊎_elim (λ q. let l = (q.outlines 3 child3 refl).outlines 1 child1 refl in omega (arith, ints, l)) (λ q. let l = (q.outlines 3 child3 refl).outlines 1 child1 refl in omega (arith, ints, l)))
    (h.parts (search rules) 1 3 child1 child3 (λ e. omega (arith, e)))

number_left_out : Apart split_level split_drawn 0 split_options (record two_parts { parts = 0 ∷ 0 ∷ 2 ∷ [] }) → ⊥
unfolding count_below
number_left_out h =
    let found = (h.numbered (search rules)).in_order 3 1 child3 (omega arith) in
    at_children (λ b. part_in split_level 0 (record two_parts { parts = 0 ∷ 0 ∷ 2 ∷ [] }) b ≡ 1 → ⊥) (λ e. omega (arith, e)) (λ e. omega (arith, e)) (λ e. omega (arith, e)) found.0 found.1 found.3

moved : PortsKept split_level (split_with 77 (at_xy 30 6) (above_at 15) (above_at 5)) 0 → ⊥
unfolding any_below
moved h = let e = ((h.children 1 child1).ports 0 (omega arith) refl).along_kept (search rules) in omega (arith, ints, e)

exchanged : PortsKept split_level (split_with 77 (at_xy 30 5) (above_at 5) (above_at 15)) 0 → ⊥
unfolding any_below
exchanged h =
    let l = (h.children 3 child3).order refl 2 1 (omega arith) (omega arith) refl refl refl (inl (omega (arith, ints))) in
    omega (arith, ints, l)

weightless : FlowProof split_level split_drawn 0 (record two_parts { flow = 1 ∷ [] }) → ⊥
unfolding count_below sum_below
weightless h = let s = h.sum in omega (arith, s)

pub split_is_spoilt : SplitLevelSpoilt
split_is_spoilt = record { near = near; number_left_out = number_left_out; moved = moved; exchanged = exchanged; weightless = weightless }
