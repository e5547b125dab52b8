-- The round trip, proved by computing.
use Rattle.std.proofs.Common.{◌≡◌, ◌≢◌, ⊎_elim, subst, sym, ◌∙◌, Bool, true, false, Some, refl, ℕ, ◌+◌, ◌<◌, ◌+ℤ◌, ◌≤ℤ◌, pos, inl, inr, [], ◌∷◌, IsTrue, IsFalse, ◌==◌, ◌&&◌, ap, IsNone, arith, rules}
use Rattle.std.specs.Prelude.{Contains}
use Rattle.std.proofs.lemmas.Int.{ints, clamps}
use Rattle.std.proofs.lemmas.List.Elements.{All-nil, All-cons}
use Rattle.drawing_types.specs.declared.shape.Point.{Point}
use Rattle.drawing_types.specs.declared.shape.Rect.{Rect}
use Rattle.drawing_types.specs.declared.shape.Dock.{Dock}
use Rattle.drawing_types.specs.declared.shape.Side.{Side}
use Rattle.drawing_types.specs.declared.shape.Side.TheVariants.{North, East, South, West}
use Rattle.elk_doc.specs.declared.document.Direction.TheVariants.{Right}
use Rattle.elk_doc.specs.declared.document.PortRule.TheVariants.{FixedOrder}
use Rattle.elk_doc.specs.declared.document.End.TheVariants.{Node as AtNode}
use Rattle.elk_doc.specs.declared.document.LevelOptions.{LevelOptions}
use Rattle.elk_doc.specs.declared.drawing.Certificate.{Certificate}
use Rattle.elk_doc.specs.Document.{node_at}
use Rattle.elk_doc.specs.Numbers.{any_below, count_below, sum_below, total_below}
use Rattle.elk_doc.specs.Level.{IsChild, IsEdge, is_child, is_loop, source_node, target_node}
use Rattle.elk_doc.specs.Drawing.{certificate_of, path_of, point_at, point_count, tail_node, head_node, flow_in, layer_in}
use Rattle.elk_doc.specs.Fits.{Fits, FitsBox, FitsLevel, FitsSection, KeepsSize, MayBeListed}
use Rattle.drawing_types.specs.Ranges.{IsNear}
use Rattle.drawing_types.specs.Shapes.{bottom_of, point_rect, right_of}
use Rattle.drawing_types.specs.Segments.{MeetsRect, EntersRect}
use Rattle.elk_doc.specs.Paths.{Reaches, stay, go}
use Rattle.elk_doc.specs.Places.{dock_of, outline_of, outline_to}
use Rattle.elk_doc.specs.Content.{SomeShape}
use Rattle.elk_doc.specs.Fitted.{HasNoChild, IsPinnedOn, LevelFitted}
use Rattle.std.proofs.lemmas.Bool.Decides.{nat_tests}
use Rattle.elk_doc.specs.Apart.{Apart, InOnePart, LayersApart}
use Rattle.elk_doc.specs.Inside.{Inside, IsWithinPadding}
use Rattle.elk_doc.specs.Sides.{end_of}
use Rattle.elk_doc.specs.PortsKept.{KeepsPort, KeepsPorts, KeepsEnd, Spot, a_port, an_end, IsSpread, is_pinned, is_spread_port, is_spread_end, spot_offset}
use Rattle.drawing_types.specs.Shapes.{is_side}
use Rattle.elk_doc.specs.Route.{Route, IsStep, IsTurn}
use Rattle.elk_doc.specs.Clear.{Clear}
use Rattle.elk_doc.specs.Sharing.{PathsShare, Sharing}
use Rattle.elk_doc.specs.Reversed.{Reversed, UnlistedStep}
use Rattle.elk_doc.specs.Layering.{Layering, written_layer}
use Rattle.elk_doc.specs.FlowProof.{FlowProof}
use Rattle.elk_doc.specs.Drawn.{LevelDrawn}
use Rattle.drawing_types.proofs.SegmentBounds.{EntersRect-spans, MeetsRect-spans}
use Rattle.elk_doc.specs.Examples.{dock, options, rect}
use Rattle.layout_check.specs.RoundTrip.{round_trip, round_trip_drawn, one_back, at_xy, rising, straight, falling, staying, RoundTripDrawn, RoundTripSpoilt}
use Rattle.layout_check.proofs.Below.{below4}
use Rattle.drawing_types.proofs.SmallNumbers.{below1, below2, below3}

-- the children are the nodes 1 and 2, and every edge belongs to the root's level
at_children : (P : ℕ → Type 0) → P 1 → P 2 → (c : ℕ) → IsChild round_trip 0 c → P c
at_children P a b c h = below3 (λ k. IsTrue (is_child round_trip 0 k) → P k) (λ t. absurd (search rules)) (λ _. a) (λ _. b) c h.node_in h.child

at_edges : (P : ℕ → Type 0) → P 0 → P 1 → P 2 → P 3 → (e : ℕ) → IsEdge round_trip 0 e → P e
at_edges P a b c d e h = below4 P a b c d e h.edge_in

-- ---- Fits

fits : Fits round_trip round_trip_drawn
unfolding count_below
fits =
    let box0 : FitsBox (rect 0 0 114 54) = omega (arith, ints) in
    let box1 : FitsBox (rect 12 12 30 30) = omega (arith, ints) in
    let box2 : FitsBox (rect 72 12 30 30) = omega (arith, ints) in
    let near0 : IsNear (at_xy 62 27) = omega (arith, ints) in
    let near1 : IsNear (at_xy 62 19) = omega (arith, ints) in
    let near2 : IsNear (at_xy 62 34) = omega (arith, ints) in
    let near3 : IsNear (at_xy 30 10) = omega (arith, ints) in
    let section0 : FitsSection rising = record { start = omega (arith, ints); bends = All-cons IsNear (at_xy 62 27) (at_xy 62 19 ∷ []) near0 (All-cons IsNear (at_xy 62 19) [] near1 (All-nil IsNear)); end = omega (arith, ints) } in
    let section1 : FitsSection straight = record { start = omega (arith, ints); bends = All-nil IsNear; end = omega (arith, ints) } in
    let section2 : FitsSection falling = record { start = omega (arith, ints); bends = All-cons IsNear (at_xy 62 34) (at_xy 62 27 ∷ []) near2 (All-cons IsNear (at_xy 62 27) [] near0 (All-nil IsNear)); end = omega (arith, ints) } in
    let section3 : FitsSection staying = record { start = omega (arith, ints); bends = All-nil IsNear; end = omega (arith, ints) } in
    let listed : MayBeListed round_trip 0 2 = record { edge_in = omega arith; of_level = refl; no_loop = λ e. omega arith } in
    record {
      counts = record { boxes = refl; ports = refl; sections = refl; levels = refl };
      root = record { x = refl; y = refl };
      range =
          record {
            boxes = All-cons FitsBox (rect 0 0 114 54) (rect 12 12 30 30 ∷ rect 72 12 30 30 ∷ []) box0 (All-cons FitsBox (rect 12 12 30 30) (rect 72 12 30 30 ∷ []) box1 (All-cons FitsBox (rect 72 12 30 30) [] box2 (All-nil FitsBox)));
            ports = All-cons IsNear (at_xy 30 10) [] near3 (All-nil IsNear);
            sections = All-cons FitsSection rising (straight ∷ falling ∷ staying ∷ []) section0 (All-cons FitsSection straight (falling ∷ staying ∷ []) section1 (All-cons FitsSection falling (staying ∷ []) section2 (All-cons FitsSection staying [] section3 (All-nil FitsSection))));
          };
      leaves =
          below3 (λ n. IsNone (node_at round_trip n).level → KeepsSize round_trip round_trip_drawn n)
          (λ h. absurd (search rules))
          (λ _. record { width = refl; height = refl })
          (λ _. record { width = refl; height = refl });
      certificates =
          below3 (λ n. FitsLevel round_trip n (node_at round_trip n).level (certificate_of round_trip_drawn n))
          (record { layers = refl; flow = refl; parts = refl; ascending = λ i h. absurd (omega arith); listed = All-cons (MayBeListed round_trip 0) 2 [] listed (All-nil _) })
          tt
          tt;
    }

-- ---- Apart and Inside

apart : Apart round_trip round_trip_drawn 0 (options Right) one_back
unfolding outline_to count_below any_below
apart =
    record {
      numbered = λ h. absurd (search rules);
      layers = λ _ a b ca cb n _.
          at_children (λ a. a ≢ b → LayersApart round_trip round_trip_drawn 0 (options Right) one_back a b)
          (at_children (λ b. 1 ≢ b → LayersApart round_trip round_trip_drawn 0 (options Right) one_back 1 b)
          (λ n. absurd (n refl))
          (λ _. record { same_layer = λ e. absurd (omega arith); earlier_layer = λ _. omega (arith, ints) })
          b cb)
          (at_children (λ b. 2 ≢ b → LayersApart round_trip round_trip_drawn 0 (options Right) one_back 2 b)
          (λ _. record { same_layer = λ e. absurd (omega arith); earlier_layer = λ h. absurd (omega arith) })
          (λ n. absurd (n refl))
          b cb)
          a ca n;
      parts = λ h. absurd (search rules);
      boxes = λ h. absurd (search rules);
    }

inside : Inside round_trip round_trip_drawn 0 (options Right)
unfolding outline_to
inside =
    record {
      outlines = λ c h _. at_children (λ c. IsWithinPadding (rect 0 0 114 54) (options Right).padding (outline_of round_trip round_trip_drawn c)) (omega (arith, ints)) (omega (arith, ints)) c h;
      points = λ e i h _ k.
          at_edges (λ e. (i : ℕ) → i < point_count round_trip_drawn e → IsWithinPadding (rect 0 0 114 54) (options Right).padding (point_rect (point_at round_trip_drawn e i)))
          (below4 (λ i. IsWithinPadding (rect 0 0 114 54) (options Right).padding (point_rect (point_at round_trip_drawn 0 i))) (omega (arith, ints)) (omega (arith, ints)) (omega (arith, ints)) (omega (arith, ints)))
          (below2 (λ i. IsWithinPadding (rect 0 0 114 54) (options Right).padding (point_rect (point_at round_trip_drawn 1 i))) (omega (arith, ints)) (omega (arith, ints)))
          (below4 (λ i. IsWithinPadding (rect 0 0 114 54) (options Right).padding (point_rect (point_at round_trip_drawn 2 i))) (omega (arith, ints)) (omega (arith, ints)) (omega (arith, ints)) (omega (arith, ints)))
          (below2 (λ i. IsWithinPadding (rect 0 0 114 54) (options Right).padding (point_rect (point_at round_trip_drawn 3 i))) (omega (arith, ints)) (omega (arith, ints)))
          e h i k;
    }

-- ---- PortsKept

port_kept : KeepsPort round_trip round_trip_drawn 0
unfolding any_below
port_kept =
    record {
      along_kept = λ h. absurd (search rules);
      across_kept = λ h. absurd (search rules);
      flush_outside = λ _. refl;
      on_side = omega (arith, ints);
    }

-- the edges' ends at nodes are those of the first three edges at the second node
ends : (m e : ℕ) (at_source : Bool) → e < 4 → end_of round_trip e at_source ≡ AtNode m → KeepsEnd round_trip round_trip_drawn m e at_source
ends m e true h =
    below4 (λ e. end_of round_trip e true ≡ AtNode m → KeepsEnd round_trip round_trip_drawn m e true)
    (λ i. absurd cc)
    (λ i. absurd cc)
    (λ i. let same : 2 ≡ m = cc in subst (λ (m : ℕ). KeepsEnd round_trip round_trip_drawn m 2 true) same (record { on_line = refl; on_side = omega (arith, ints) }))
    (λ i. absurd cc)
    e h
ends m e false h =
    below4 (λ e. end_of round_trip e false ≡ AtNode m → KeepsEnd round_trip round_trip_drawn m e false)
    (λ i. let same : 2 ≡ m = cc in subst (λ (m : ℕ). KeepsEnd round_trip round_trip_drawn m 0 false) same (record { on_line = refl; on_side = omega (arith, ints) }))
    (λ i. let same : 2 ≡ m = cc in subst (λ (m : ℕ). KeepsEnd round_trip round_trip_drawn m 1 false) same (record { on_line = refl; on_side = omega (arith, ints) }))
    (λ i. absurd cc)
    (λ i. absurd cc)
    e h

-- the spots: the port at the first node, and three ends on the west side of the second
data Which : ℕ → Side → Spot → Type 0 where
  the_port : (s : Side) → Which 1 s (a_port 0)
  first : Which 2 West (an_end 0 false)
  second : Which 2 West (an_end 1 false)
  third : Which 2 West (an_end 2 true)

at_second : (m : ℕ) (s : Side) (x : Spot) → Which 2 West x → (2 ≡ m) → (West ≡ s) → Which m s x
at_second m s x w i j = subst (λ (n : ℕ). Which n s x) i (subst (λ (t : Side). Which 2 t x) j w)

pub on_west : (m : ℕ) (s : Side) → IsTrue ((2 == m) && is_side West s) → (2 ≡ m) × (West ≡ s)
on_west m North t = absurd (grind (arith, nat_tests))
on_west m East t = absurd (grind (arith, nat_tests))
on_west m South t = absurd (grind (arith, nat_tests))
on_west m West t = (grind (arith, nat_tests), refl)

at_first : (m : ℕ) (s : Side) → IsTrue ((1 == m) && is_side East s) → 1 ≡ m
at_first m s t = grind (arith, nat_tests)

which : (m : ℕ) (s : Side) (x : Spot) → IsSpread round_trip round_trip_drawn m s x → Which m s x
unfolding any_below
which m s (a_port k) h =
    below1 (λ k. IsTrue (is_spread_port round_trip round_trip_drawn m s k) → Which m s (a_port k))
    (λ t. subst (λ (n : ℕ). Which n s (a_port 0)) (at_first m s t) (the_port s)) k h.0 h.1
which m s (an_end e true) h =
    below4 (λ e. IsTrue (is_spread_end round_trip round_trip_drawn m s true e) → Which m s (an_end e true))
    (λ t. absurd (search rules))
    (λ t. absurd (search rules))
    (λ t. let w = on_west m s t in at_second m s (an_end 2 true) third w.0 w.1)
    (λ t. absurd (search rules))
    e h.0 h.1
which m s (an_end e false) h =
    below4 (λ e. IsTrue (is_spread_end round_trip round_trip_drawn m s false e) → Which m s (an_end e false))
    (λ t. let w = on_west m s t in at_second m s (an_end 0 false) first w.0 w.1)
    (λ t. let w = on_west m s t in at_second m s (an_end 1 false) second w.0 w.1)
    (λ t. absurd (search rules))
    (λ t. absurd (search rules))
    e h.0 h.1

spread_apart : (m : ℕ) (s : Side) (x y : Spot) → Which m s x → Which m s y → x ≢ y → spot_offset round_trip round_trip_drawn m s x ≢ spot_offset round_trip round_trip_drawn m s y
spread_apart _ _ _ _ (the_port s) (the_port _) n = absurd (n refl)
spread_apart _ _ _ _ first first n = absurd (n refl)
spread_apart _ _ _ _ first second n = λ e. absurd (omega (arith, ints, e))
spread_apart _ _ _ _ first third n = λ e. absurd (omega (arith, ints, e))
spread_apart _ _ _ _ second first n = λ e. absurd (omega (arith, ints, e))
spread_apart _ _ _ _ second second n = absurd (n refl)
spread_apart _ _ _ _ second third n = λ e. absurd (omega (arith, ints, e))
spread_apart _ _ _ _ third first n = λ e. absurd (omega (arith, ints, e))
spread_apart _ _ _ _ third second n = λ e. absurd (omega (arith, ints, e))
spread_apart _ _ _ _ third third n = absurd (n refl)

keeps : (m : ℕ) → ((node_at round_trip m).rule ≡ FixedOrder → ⊥) → KeepsPorts round_trip round_trip_drawn m
keeps m free =
    record {
      ports = λ k h _. below1 (KeepsPort round_trip round_trip_drawn) port_kept k h;
      ends = ends m;
      order = λ h. absurd (free h);
      spread = λ s x y _ hx hy n. spread_apart m s x y (which m s x hx) (which m s y hy) n;
    }

-- ---- Route, Clear and Sharing

rising_route : Route round_trip round_trip_drawn 0
unfolding any_below
rising_route =
    record {
      from_source = refl;
      to_target = refl;
      one_dock = λ h. absurd (let t = ap (λ (k : Dock). k.node) h in search rules);
      orthogonal = λ _.
          record {
            steps = λ i h. below3 (λ i. IsStep (point_at round_trip_drawn 0 i) (point_at round_trip_drawn 0 (i + 1))) (inr (λ e. absurd (omega (arith, ints)), refl)) (inl (refl, λ e. absurd (omega (arith, ints)))) (inr (λ e. absurd (omega (arith, ints)), refl)) i (omega arith);
            turns = λ i h. below2 (λ i. IsTurn (point_at round_trip_drawn 0 i) (point_at round_trip_drawn 0 (i + 1)) (point_at round_trip_drawn 0 (i + 2))) (record { from_upright = λ e. absurd (omega (arith, ints)); from_level = λ _. refl }) (record { from_upright = λ _. refl; from_level = λ e. absurd (omega (arith, ints)) }) i (omega arith);
            source_outward = (refl, omega (arith, ints));
            target_outward = (refl, omega (arith, ints));
          };
    }

straight_route : Route round_trip round_trip_drawn 1
unfolding any_below
straight_route =
    record {
      from_source = refl;
      to_target = refl;
      one_dock = λ h. absurd (let t = ap (λ (k : Dock). k.node) h in search rules);
      orthogonal = λ _.
          record {
            steps = λ i h. below1 (λ i. IsStep (point_at round_trip_drawn 1 i) (point_at round_trip_drawn 1 (i + 1))) (inr (λ e. absurd (omega (arith, ints)), refl)) i (omega arith);
            turns = λ i h. absurd (omega arith);
            source_outward = (refl, omega (arith, ints));
            target_outward = (refl, omega (arith, ints));
          };
    }

falling_route : Route round_trip round_trip_drawn 2
unfolding any_below
falling_route =
    record {
      from_source = refl;
      to_target = refl;
      one_dock = λ h. absurd (let t = ap (λ (k : Dock). k.node) h in search rules);
      orthogonal = λ _.
          record {
            steps = λ i h. below3 (λ i. IsStep (point_at round_trip_drawn 2 i) (point_at round_trip_drawn 2 (i + 1))) (inr (λ e. absurd (omega (arith, ints)), refl)) (inl (refl, λ e. absurd (omega (arith, ints)))) (inr (λ e. absurd (omega (arith, ints)), refl)) i (omega arith);
            turns = λ i h. below2 (λ i. IsTurn (point_at round_trip_drawn 2 i) (point_at round_trip_drawn 2 (i + 1)) (point_at round_trip_drawn 2 (i + 2))) (record { from_upright = λ e. absurd (omega (arith, ints)); from_level = λ _. refl }) (record { from_upright = λ _. refl; from_level = λ e. absurd (omega (arith, ints)) }) i (omega arith);
            source_outward = (refl, omega (arith, ints));
            target_outward = (refl, omega (arith, ints));
          };
    }

staying_route : Route round_trip round_trip_drawn 3
unfolding any_below
staying_route =
    record {
      from_source = refl;
      to_target = refl;
      one_dock = λ _. refl;
      orthogonal = λ h. absurd (h refl);
    }

-- a segment enters neither box, and the point of the loop doesn't meet the second node
abbrev IsFree : ℕ → ℕ → Type 0
IsFree e i =
    (EntersRect (point_at round_trip_drawn e i) (point_at round_trip_drawn e (i + 1)) (rect 12 12 30 30) → ⊥) × (EntersRect (point_at round_trip_drawn e i) (point_at round_trip_drawn e (i + 1)) (rect 72 12 30 30) → ⊥)

between_boxes : (a b : Point) → pos 42 ≤ℤ a.x → pos 42 ≤ℤ b.x → a.x ≤ℤ pos 72 → b.x ≤ℤ pos 72 → (EntersRect a b (rect 12 12 30 30) → ⊥) × (EntersRect a b (rect 72 12 30 30) → ⊥)
between_boxes a b la lb ra rb = (
  λ m. let s = (EntersRect-spans a b (rect 12 12 30 30) m).0 in omega (arith, ints, clamps, la, lb, s),
  λ m. let s = (EntersRect-spans a b (rect 72 12 30 30) m).0 in omega (arith, ints, clamps, ra, rb, s),
)

-- the points of every route stand between the two boxes
between : (e : ℕ) → IsEdge round_trip 0 e → (i : ℕ) → i < point_count round_trip_drawn e → (pos 42 ≤ℤ (point_at round_trip_drawn e i).x) × ((point_at round_trip_drawn e i).x ≤ℤ pos 72)
between e h i k =
    at_edges (λ e. (i : ℕ) → i < point_count round_trip_drawn e → (pos 42 ≤ℤ (point_at round_trip_drawn e i).x) × ((point_at round_trip_drawn e i).x ≤ℤ pos 72))
    (below4 (λ i. (pos 42 ≤ℤ (point_at round_trip_drawn 0 i).x) × ((point_at round_trip_drawn 0 i).x ≤ℤ pos 72)) (omega (arith, ints)) (omega (arith, ints)) (omega (arith, ints)) (omega (arith, ints)))
    (below2 (λ i. (pos 42 ≤ℤ (point_at round_trip_drawn 1 i).x) × ((point_at round_trip_drawn 1 i).x ≤ℤ pos 72)) (omega (arith, ints)) (omega (arith, ints)))
    (below4 (λ i. (pos 42 ≤ℤ (point_at round_trip_drawn 2 i).x) × ((point_at round_trip_drawn 2 i).x ≤ℤ pos 72)) (omega (arith, ints)) (omega (arith, ints)) (omega (arith, ints)) (omega (arith, ints)))
    (below2 (λ i. (pos 42 ≤ℤ (point_at round_trip_drawn 3 i).x) × ((point_at round_trip_drawn 3 i).x ≤ℤ pos 72)) (omega (arith, ints)) (omega (arith, ints)))
    e h i k

free : (e : ℕ) → IsEdge round_trip 0 e → (i : ℕ) → i + 1 < point_count round_trip_drawn e → IsFree e i
free e h i k =
    let a = between e h i (omega (arith, k)) in
    let b = between e h (i + 1) k in
    between_boxes (point_at round_trip_drawn e i) (point_at round_trip_drawn e (i + 1)) a.0 b.0 a.1 b.1

-- the loop is the only edge that doesn't end at the second node
loop_clear : (i : ℕ) → i + 1 < 2 → MeetsRect (point_at round_trip_drawn 3 i) (point_at round_trip_drawn 3 (i + 1)) (rect 72 12 30 30) → ⊥
loop_clear i k =
    below1 (λ i. MeetsRect (point_at round_trip_drawn 3 i) (point_at round_trip_drawn 3 (i + 1)) (rect 72 12 30 30) → ⊥)
    (λ m. let s = (MeetsRect-spans (at_xy 52 27) (at_xy 52 27) (rect 72 12 30 30) m).0 in omega (arith, ints, clamps, s)) i (omega (arith, k))

clear : (e c : ℕ) → IsEdge round_trip 0 e → IsChild round_trip 0 c → Clear round_trip round_trip_drawn e c
unfolding outline_to
clear e c h k =
    at_edges (λ e. IsEdge round_trip 0 e → Clear round_trip round_trip_drawn e c)
    (λ h. at_children (Clear round_trip round_trip_drawn 0) (record { foreign = λ n _ i l m. n refl; own = λ _ i l. (free 0 h i l).0 }) (record { foreign = λ _ n i l m. n refl; own = λ _ i l. (free 0 h i l).1 }) c k)
    (λ h. at_children (Clear round_trip round_trip_drawn 1) (record { foreign = λ n _ i l m. n refl; own = λ _ i l. (free 1 h i l).0 }) (record { foreign = λ _ n i l m. n refl; own = λ _ i l. (free 1 h i l).1 }) c k)
    (λ h. at_children (Clear round_trip round_trip_drawn 2) (record { foreign = λ _ n i l m. n refl; own = λ _ i l. (free 2 h i l).0 }) (record { foreign = λ n _ i l m. n refl; own = λ _ i l. (free 2 h i l).1 }) c k)
    (λ h. at_children (Clear round_trip round_trip_drawn 3) (record { foreign = λ n _ i l m. n refl; own = λ _ i l. (free 3 h i l).0 }) (record { foreign = λ _ _ i l. loop_clear i l; own = λ _ i l. (free 3 h i l).1 }) c k)
    e h h

-- every edge has an end at the port
docked : (e : ℕ) → IsEdge round_trip 0 e → (s : Bool) × (dock_of round_trip round_trip_drawn e s ≡ dock 1 East 15)
unfolding any_below
docked = at_edges (λ e. (s : Bool) × (dock_of round_trip round_trip_drawn e s ≡ dock 1 East 15)) (true, refl) (true, refl) (false, refl) (true, refl)

sharing : (e f : ℕ) → IsEdge round_trip 0 e → IsEdge round_trip 0 f → Sharing round_trip round_trip_drawn e f
sharing e f h k _ =
    let a = docked e h in
    let b = docked f k in
    (a.0, b.0, a.1 ∙ sym b.1)

shared : PathsShare (path_of round_trip_drawn 0) (path_of round_trip_drawn 1)
shared =
    record {
      i = 0;
      j = 0;
      i_in = omega arith;
      j_in = omega arith;
      piece = record { one = at_xy 52 27; other = at_xy 62 27; differ = λ e. let x : pos 52 ≡ pos 62 = ap (λ (q : Point). q.x) e in omega (arith, ints, x); one_on_first = omega (arith, ints, clamps); one_on_second = omega (arith, ints, clamps); other_on_first = omega (arith, ints, clamps); other_on_second = omega (arith, ints, clamps) };
    }

-- ---- Reversed, Layering and FlowProof

child1 : IsChild round_trip 0 1
child1 = record { node_in = omega arith; child = search rules }

child2 : IsChild round_trip 0 2
child2 = record { node_in = omega arith; child = search rules }

edge_of : (e : ℕ) → e < 4 → IsEdge round_trip 0 e
edge_of e h = below4 (λ e. e < 4 → IsEdge round_trip 0 e) (λ l. record { edge_in = l; edge = search rules }) (λ l. record { edge_in = l; edge = search rules }) (λ l. record { edge_in = l; edge = search rules }) (λ l. record { edge_in = l; edge = search rules }) e h h

step_there : (c : Certificate) → (Contains c.reversed 0 → ⊥) → UnlistedStep round_trip 0 c 1 2
step_there c n = record { edge = 0; of_level = edge_of 0 (omega arith); unlisted = n; source = refl; target = refl; no_loop = λ e. omega arith }

-- unlisted edges lead from the first node to the second
the_step : (a b : ℕ) → UnlistedStep round_trip 0 one_back a b → (a ≡ 1) × (b ≡ 2)
the_step a b s =
    at_edges (λ e. (Contains (2 ∷ []) e → ⊥) → source_node round_trip e ≡ a → target_node round_trip e ≡ b → (a ≡ 1) × (b ≡ 2))
    (λ _ x y. (omega arith, omega arith))
    (λ _ x y. (omega arith, omega arith))
    (λ n x y. absurd (n (search rules)))
    (λ _ x y. absurd (s.no_loop (sym x ∙ y)))
    s.edge s.of_level s.unlisted s.source s.target

no_way_back : (a b : ℕ) → a ≡ 2 → b ≡ 1 → Reaches (UnlistedStep round_trip 0 one_back) a b → ⊥
no_way_back a b x y (stay _) = omega arith
no_way_back a b x y (go _ c _ s r) = let t = the_step a c s in let u = t.0 in omega arith

-- unlisted edges lead back along an edge
abbrev Closes : ℕ → Type 0
Closes e = Reaches (UnlistedStep round_trip 0 one_back) (target_node round_trip e) (source_node round_trip e)

reversed : Reversed round_trip 0 one_back
reversed =
    record {
      closes = All-cons Closes 2 [] (go 1 2 2 (step_there one_back (λ n. absurd (search rules))) (stay 2)) (All-nil Closes);
      acyclic = λ a b s r. let t = the_step a b s in no_way_back b a t.1 t.0 r;
    }

layering : Layering round_trip round_trip_drawn 0 one_back
unfolding count_below total_below
layering =
    record {
      layers = at_edges (λ e. IsFalse (is_loop round_trip e) → (written_layer round_trip 0 one_back (tail_node round_trip round_trip_drawn e) +ℤ pos 1) ≤ℤ written_layer round_trip 0 one_back (head_node round_trip round_trip_drawn e)) (λ _. omega (arith, ints)) (λ _. omega (arith, ints)) (λ _. omega (arith, ints)) (λ h. absurd (search rules));
      span = refl;
    }

flow : FlowProof round_trip round_trip_drawn 0 one_back
unfolding count_below sum_below
flow =
    record {
      loops = at_edges (λ e. IsTrue (is_loop round_trip e) → flow_in round_trip 0 one_back e ≡ 0) (λ t. absurd (search rules)) (λ t. absurd (search rules)) (λ t. absurd (search rules)) (λ _. refl);
      balance = at_children _ refl refl;
      sum = refl;
    }

-- ---- Drawn and Fitted

level_drawn : LevelDrawn round_trip round_trip_drawn 0 (options Right) one_back
level_drawn =
    record {
      apart = apart;
      inside = inside;
      ports_kept =
          record {
            children = at_children (KeepsPorts round_trip round_trip_drawn) (keeps 1 (λ h. cc)) (keeps 2 (λ h. cc));
            root = λ _. keeps 0 (λ h. cc);
          };
      routes = at_edges (Route round_trip round_trip_drawn) rising_route straight_route falling_route staying_route;
      clear = clear;
      sharing = λ e f h k _. sharing e f h k;
      reversed = reversed;
      layering = layering;
      flow = flow;
    }

-- what holds of the root's level holds of every level
at_level : (P : ℕ → LevelOptions → Certificate → Type 0) → P 0 (options Right) one_back → (n : ℕ) (o : LevelOptions) (c : Certificate) → n < 3 → (node_at round_trip n).level ≡ Some o → certificate_of round_trip_drawn n ≡ Some c → P n o c
at_level P h n o c k =
    below3 (λ n. (node_at round_trip n).level ≡ Some o → certificate_of round_trip_drawn n ≡ Some c → P n o c)
    (λ eo ec.
    let same_options : options Right ≡ o = cc in
    let same_certificate : one_back ≡ c = cc in
    subst (λ (o : LevelOptions). P 0 o c) same_options (subst (P 0 (options Right)) same_certificate h))
    (λ eo ec. absurd cc)
    (λ eo ec. absurd cc)
    n k

-- what holds of every outline and every point holds wherever some shape has it
by_shape : (P : Rect → Type 0) (Q : Type 0)
    → (P (outline_of round_trip round_trip_drawn 1) → Q) → (P (outline_of round_trip round_trip_drawn 2) → Q)
    → ((e i : ℕ) → IsEdge round_trip 0 e → i < point_count round_trip_drawn e → P (point_rect (point_at round_trip_drawn e i)) → Q)
    → SomeShape round_trip round_trip_drawn 0 P → Q
by_shape P Q a b points (inl (c, h, s)) = at_children (λ c. P (outline_of round_trip round_trip_drawn c) → Q) a b c h s
by_shape P Q a b points (inr (e, i, h, k, s)) = points e i h k s

no_children : HasNoChild round_trip 0 → ⊥
no_children h = h 1 child1

no_pins : (s t : Side) (k : ℕ) → IsPinnedOn round_trip round_trip_drawn 0 s t k → ⊥
no_pins s t k h = below1 (λ k. IsTrue (is_pinned round_trip k) → ⊥) (λ t. search rules) k h.port_in h.pinned

level_fitted : LevelFitted round_trip round_trip_drawn 0 (options Right) one_back
unfolding outline_to count_below
level_fitted =
    let shapes = inside in
    record {
      left = λ _.
          record {
            itself = inl (1, child1, refl);
            bound = λ y. by_shape (λ r. y ≡ r.x) (pos 12 ≤ℤ y) (λ q. omega (arith, ints, q)) (λ q. omega (arith, ints, q)) (λ e i h k q. let w = (shapes.points e i h tt k).left in omega (arith, ints, q, w));
          };
      top = λ _.
          record {
            itself = inl (1, child1, refl);
            bound = λ y. by_shape (λ r. y ≡ r.y) (pos 12 ≤ℤ y) (λ q. omega (arith, ints, q)) (λ q. omega (arith, ints, q)) (λ e i h k q. let w = (shapes.points e i h tt k).top in omega (arith, ints, q, w));
          };
      width =
          record {
            itself = inl (inl (2, child2, refl));
            bound = λ y. ⊎_elim
                (by_shape (λ r. y ≡ right_of r +ℤ pos 12) (y ≤ℤ pos 114) (λ q. omega (arith, ints, q)) (λ q. omega (arith, ints, q)) (λ e i h k q. let w = (shapes.points e i h tt k).right in omega (arith, ints, q, w)))
                (⊎_elim (λ q. absurd (no_children q.0)) (λ q. absurd (no_pins _ _ q.0 q.1)));
          };
      height =
          record {
            itself = inl (inl (1, child1, refl));
            bound = λ y. ⊎_elim
                (by_shape (λ r. y ≡ bottom_of r +ℤ pos 12) (y ≤ℤ pos 54) (λ q. omega (arith, ints, q)) (λ q. omega (arith, ints, q)) (λ e i h k q. let w = (shapes.points e i h tt k).bottom in omega (arith, ints, q, w)))
                (⊎_elim (λ q. absurd (no_children q.0)) (λ q. absurd (no_pins _ _ q.0 q.1)));
          };
      layers =
          at_children (λ a. (b : ℕ) × IsChild round_trip 0 b × InOnePart round_trip 0 a b × (layer_in round_trip 0 one_back b ≡ 0))
          (1, child1, stay 1, refl)
          (1, child1, go 2 1 1 (0, edge_of 0 (omega arith), inr (refl, refl)) (stay 1), refl);
    }

pub round_trip_is_drawn : RoundTripDrawn
round_trip_is_drawn =
    record {
      drawn = record { fits = fits; levels = at_level (LevelDrawn round_trip round_trip_drawn) level_drawn };
      fitted = at_level (LevelFitted round_trip round_trip_drawn) level_fitted;
      shared = shared;
    }

-- ---- the spoilt drawings

pub round_trip_is_spoilt : RoundTripSpoilt
unfolding outline_to any_below count_below sum_below total_below
round_trip_is_spoilt =
    record {
      narrow = λ h. let w = (h.outlines 2 child2 tt).right in omega (arith, ints, w);
      standing_off = λ h. let k = ((h.children 1 child1).ports 0 (omega arith) refl).flush_outside (search rules) in omega (arith, ints, k);
      slanting = λ h. ⊎_elim (λ q. omega (arith, ints, q.0)) (λ q. omega (arith, ints, q.1)) ((h.orthogonal (λ l. let t = ap (λ (k : Dock). k.node) l in search rules)).steps 0 (omega arith));
      entering = λ h. h.own (inr refl) 0 (omega arith) (record { k = 1; k_above = omega arith; point = at_xy 77 27; on_segment = omega (arith, ints, clamps); inside = omega (arith, ints) });
      unlisted = λ h.
          h.acyclic 1 2 (step_there (record one_back { reversed = [] }) (λ n. absurd (search rules)))
          (go 2 1 1 (record { edge = 2; of_level = edge_of 2 (omega arith); unlisted = λ n. absurd (search rules); source = refl; target = refl; no_loop = λ e. omega arith }) (stay 1));
      one_layer = λ h. let l = h.layers 0 (edge_of 0 (omega arith)) (search rules) in omega (arith, ints, l);
      small_span = λ h. let s = h.span in omega (arith, ints, s);
      missing_flow = λ h. let s = h.sum in omega (arith, s);
    }
