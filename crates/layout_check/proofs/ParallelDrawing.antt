-- The parallel edges, proved by computing.
use Rattle.std.proofs.Common.{◌≡◌, ◌≢◌, subst, Bool, true, false, Some, refl, ℕ, ◌+◌, ◌<◌, ℤ, ◌+ℤ◌, ◌≤ℤ◌, pos, inr, [], ◌∷◌, IsTrue, ◌==◌, ◌&&◌, ap, IsNone, arith, rules}
use Rattle.std.proofs.lemmas.Int.{ints, clamps}
use Rattle.std.proofs.lemmas.List.Elements.{All-nil, All-cons}
use Rattle.drawing_types.specs.declared.shape.Point.{Point}
use Rattle.drawing_types.specs.declared.shape.Dock.{Dock}
use Rattle.drawing_types.specs.declared.shape.Rect.{Rect}
use Rattle.drawing_types.specs.declared.shape.Side.{Side}
use Rattle.drawing_types.specs.declared.shape.Side.TheVariants.{North, East, South, West}
use Rattle.elk_doc.specs.declared.document.Direction.TheVariants.{Right}
use Rattle.elk_doc.specs.declared.document.PortRule.TheVariants.{FixedOrder}
use Rattle.elk_doc.specs.declared.document.End.TheVariants.{Node as AtNode}
use Rattle.elk_doc.specs.declared.document.LevelOptions.{LevelOptions}
use Rattle.elk_doc.specs.declared.drawing.Certificate.{Certificate}
use Rattle.elk_doc.specs.Document.{node_at}
use Rattle.elk_doc.specs.Numbers.{count_below, sum_below, total_below}
use Rattle.elk_doc.specs.Level.{IsChild, IsEdge, is_child, is_loop, source_node, target_node}
use Rattle.elk_doc.specs.Drawing.{certificate_of, path_of, point_at, point_count, tail_node, head_node, flow_in}
use Rattle.elk_doc.specs.Fits.{Fits, FitsBox, FitsLevel, FitsSection, KeepsSize, MayBeListed}
use Rattle.drawing_types.specs.Ranges.{IsNear}
use Rattle.drawing_types.specs.Shapes.{point_rect}
use Rattle.drawing_types.specs.Segments.{EntersRect, IsOnSegment}
use Rattle.elk_doc.specs.Paths.{Reaches, stay, go}
use Rattle.elk_doc.specs.Places.{dock_of, outline_of, outline_to}
use Rattle.std.proofs.lemmas.Bool.Decides.{nat_tests}
use Rattle.elk_doc.specs.Apart.{Apart, LayersApart}
use Rattle.elk_doc.specs.Inside.{Inside, IsWithinPadding}
use Rattle.elk_doc.specs.Sides.{end_of}
use Rattle.elk_doc.specs.PortsKept.{KeepsPorts, KeepsEnd, Spot, a_port, an_end, IsSpread, is_spread_end, spot_offset}
use Rattle.drawing_types.specs.Shapes.{is_side}
use Rattle.elk_doc.specs.Route.{Route, IsStep}
use Rattle.elk_doc.specs.Clear.{Clear}
use Rattle.elk_doc.specs.Sharing.{PathsShare, Sharing}
use Rattle.elk_doc.specs.Reversed.{Reversed, UnlistedStep}
use Rattle.elk_doc.specs.Layering.{Layering, written_layer}
use Rattle.elk_doc.specs.FlowProof.{FlowProof}
use Rattle.elk_doc.specs.Drawn.{LevelDrawn}
use Rattle.drawing_types.proofs.SegmentBounds.{EntersRect-spans}
use Rattle.elk_doc.specs.Examples.{options, rect}
use Rattle.layout_check.specs.RoundTrip.{at_xy}
use Rattle.layout_check.specs.ParallelEdges.{parallel, parallel_drawn, parallel_with, two_edges, lower, joining, ParallelEdges}
use Rattle.drawing_types.proofs.SmallNumbers.{below1, below2, below3}
use Rattle.layout_check.proofs.RoundTripDrawing.{on_west}

at_children : (P : ℕ → Type 0) → P 1 → P 2 → (c : ℕ) → IsChild parallel 0 c → P c
at_children P a b c h = below3 (λ k. IsTrue (is_child parallel 0 k) → P k) (λ t. absurd (search rules)) (λ _. a) (λ _. b) c h.node_in h.child

at_edges : (P : ℕ → Type 0) → P 0 → P 1 → (e : ℕ) → IsEdge parallel 0 e → P e
at_edges P a b e h = below2 P a b e h.edge_in

child1 : IsChild parallel 0 1
child1 = record { node_in = omega arith; child = search rules }

child2 : IsChild parallel 0 2
child2 = record { node_in = omega arith; child = search rules }

-- ---- Fits, Apart and Inside

fits : Fits parallel parallel_drawn
unfolding count_below
fits =
    let box0 : FitsBox (rect 0 0 104 54) = omega (arith, ints) in
    let box1 : FitsBox (rect 12 12 30 30) = omega (arith, ints) in
    let box2 : FitsBox (rect 62 12 30 30) = omega (arith, ints) in
    let section0 : FitsSection (record { start = at_xy 42 22; bends = []; end = at_xy 62 22 }) = record { start = omega (arith, ints); bends = All-nil IsNear; end = omega (arith, ints) } in
    let section1 : FitsSection lower = record { start = omega (arith, ints); bends = All-nil IsNear; end = omega (arith, ints) } in
    record {
      counts = record { boxes = refl; ports = refl; sections = refl; levels = refl };
      root = record { x = refl; y = refl };
      range =
          record {
            boxes = All-cons FitsBox (rect 0 0 104 54) (rect 12 12 30 30 ∷ rect 62 12 30 30 ∷ []) box0 (All-cons FitsBox (rect 12 12 30 30) (rect 62 12 30 30 ∷ []) box1 (All-cons FitsBox (rect 62 12 30 30) [] box2 (All-nil FitsBox)));
            ports = All-nil IsNear;
            sections = All-cons FitsSection (record { start = at_xy 42 22; bends = []; end = at_xy 62 22 }) (lower ∷ []) section0 (All-cons FitsSection lower [] section1 (All-nil FitsSection));
          };
      leaves =
          below3 (λ n. IsNone (node_at parallel n).level → KeepsSize parallel parallel_drawn n)
          (λ h. absurd (search rules))
          (λ _. record { width = refl; height = refl })
          (λ _. record { width = refl; height = refl });
      certificates =
          below3 (λ n. FitsLevel parallel n (node_at parallel n).level (certificate_of parallel_drawn n))
          (record { layers = refl; flow = refl; parts = refl; ascending = λ i h. absurd (omega arith); listed = All-nil (MayBeListed parallel 0) })
          tt
          tt;
    }

apart : Apart parallel parallel_drawn 0 (options Right) two_edges
unfolding outline_to count_below
apart =
    record {
      numbered = λ h. absurd (search rules);
      layers = λ _ a b ca cb n _.
          at_children (λ a. a ≢ b → LayersApart parallel parallel_drawn 0 (options Right) two_edges a b)
          (at_children (λ b. 1 ≢ b → LayersApart parallel parallel_drawn 0 (options Right) two_edges 1 b)
          (λ n. absurd (n refl))
          (λ _. record { same_layer = λ e. absurd (omega arith); earlier_layer = λ _. omega (arith, ints) })
          b cb)
          (at_children (λ b. 2 ≢ b → LayersApart parallel parallel_drawn 0 (options Right) two_edges 2 b)
          (λ _. record { same_layer = λ e. absurd (omega arith); earlier_layer = λ h. absurd (omega arith) })
          (λ n. absurd (n refl))
          b cb)
          a ca n;
      parts = λ h. absurd (search rules);
      boxes = λ h. absurd (search rules);
    }

abbrev IsIn : Rect → Type 0
IsIn = IsWithinPadding (rect 0 0 104 54) (options Right).padding

inside : Inside parallel parallel_drawn 0 (options Right)
unfolding outline_to
inside =
    record {
      outlines = λ c h _. at_children (λ c. IsIn (outline_of parallel parallel_drawn c)) (omega (arith, ints)) (omega (arith, ints)) c h;
      points = λ e i h _ k.
          at_edges (λ e. (i : ℕ) → i < point_count parallel_drawn e → IsIn (point_rect (point_at parallel_drawn e i)))
          (below2 (λ i. IsIn (point_rect (point_at parallel_drawn 0 i))) (omega (arith, ints)) (omega (arith, ints)))
          (below2 (λ i. IsIn (point_rect (point_at parallel_drawn 1 i))) (omega (arith, ints)) (omega (arith, ints)))
          e h i k;
    }

-- ---- PortsKept

ends : (m e : ℕ) (at_source : Bool) → e < 2 → end_of parallel e at_source ≡ AtNode m → KeepsEnd parallel parallel_drawn m e at_source
ends m e true h =
    below2 (λ e. end_of parallel e true ≡ AtNode m → KeepsEnd parallel parallel_drawn m e true)
    (λ i. let same : 1 ≡ m = cc in subst (λ (m : ℕ). KeepsEnd parallel parallel_drawn m 0 true) same (record { on_line = refl; on_side = omega (arith, ints) }))
    (λ i. let same : 1 ≡ m = cc in subst (λ (m : ℕ). KeepsEnd parallel parallel_drawn m 1 true) same (record { on_line = refl; on_side = omega (arith, ints) }))
    e h
ends m e false h =
    below2 (λ e. end_of parallel e false ≡ AtNode m → KeepsEnd parallel parallel_drawn m e false)
    (λ i. let same : 2 ≡ m = cc in subst (λ (m : ℕ). KeepsEnd parallel parallel_drawn m 0 false) same (record { on_line = refl; on_side = omega (arith, ints) }))
    (λ i. let same : 2 ≡ m = cc in subst (λ (m : ℕ). KeepsEnd parallel parallel_drawn m 1 false) same (record { on_line = refl; on_side = omega (arith, ints) }))
    e h

-- the spots: two ends on the east side of the first node, and two on the west side of the second
data Which : ℕ → Side → Spot → Type 0 where
  source0 : Which 1 East (an_end 0 true)
  source1 : Which 1 East (an_end 1 true)
  target0 : Which 2 West (an_end 0 false)
  target1 : Which 2 West (an_end 1 false)

moved_to : (m n : ℕ) (s t : Side) (x : Spot) → Which m s x → m ≡ n → s ≡ t → Which n t x
moved_to m n s t x w i j = subst (λ (n : ℕ). Which n t x) i (subst (λ (t : Side). Which m t x) j w)

on_east : (m : ℕ) (s : Side) → IsTrue ((1 == m) && is_side East s) → (1 ≡ m) × (East ≡ s)
on_east m North t = absurd (grind (arith, nat_tests))
on_east m East t = (grind (arith, nat_tests), refl)
on_east m South t = absurd (grind (arith, nat_tests))
on_east m West t = absurd (grind (arith, nat_tests))

which : (m : ℕ) (s : Side) (x : Spot) → IsSpread parallel parallel_drawn m s x → Which m s x
which m s (a_port k) h = absurd (let t = h.0 in omega arith)
which m s (an_end e true) h =
    below2 (λ e. IsTrue (is_spread_end parallel parallel_drawn m s true e) → Which m s (an_end e true))
    (λ t. let w = on_east m s t in moved_to 1 m East s (an_end 0 true) source0 w.0 w.1)
    (λ t. let w = on_east m s t in moved_to 1 m East s (an_end 1 true) source1 w.0 w.1)
    e h.0 h.1
which m s (an_end e false) h =
    below2 (λ e. IsTrue (is_spread_end parallel parallel_drawn m s false e) → Which m s (an_end e false))
    (λ t. let w = on_west m s t in moved_to 2 m West s (an_end 0 false) target0 w.0 w.1)
    (λ t. let w = on_west m s t in moved_to 2 m West s (an_end 1 false) target1 w.0 w.1)
    e h.0 h.1

spread_apart : (m : ℕ) (s : Side) (x y : Spot) → Which m s x → Which m s y → x ≢ y → spot_offset parallel parallel_drawn m s x ≢ spot_offset parallel parallel_drawn m s y
spread_apart _ _ _ _ source0 source0 n = absurd (n refl)
spread_apart _ _ _ _ source0 source1 n = λ e. absurd (omega (arith, ints, e))
spread_apart _ _ _ _ source1 source0 n = λ e. absurd (omega (arith, ints, e))
spread_apart _ _ _ _ source1 source1 n = absurd (n refl)
spread_apart _ _ _ _ target0 target0 n = absurd (n refl)
spread_apart _ _ _ _ target0 target1 n = λ e. absurd (omega (arith, ints, e))
spread_apart _ _ _ _ target1 target0 n = λ e. absurd (omega (arith, ints, e))
spread_apart _ _ _ _ target1 target1 n = absurd (n refl)

keeps : (m : ℕ) → ((node_at parallel m).rule ≡ FixedOrder → ⊥) → KeepsPorts parallel parallel_drawn m
keeps m free =
    record {
      ports = λ k h _. absurd (omega (arith, h));
      ends = ends m;
      order = λ h. absurd (free h);
      spread = λ s x y _ hx hy n. spread_apart m s x y (which m s x hx) (which m s y hy) n;
    }

-- ---- Route, Clear and Sharing

routes : (e : ℕ) → IsEdge parallel 0 e → Route parallel parallel_drawn e
routes =
    at_edges (Route parallel parallel_drawn)
    (record {
      from_source = refl;
      to_target = refl;
      one_dock = λ h. absurd (let t = ap (λ (k : Dock). k.node) h in search rules);
      orthogonal = λ _.
          record {
            steps = λ i h. below1 (λ i. IsStep (point_at parallel_drawn 0 i) (point_at parallel_drawn 0 (i + 1))) (inr (λ e. absurd (omega (arith, ints)), refl)) i (omega arith);
            turns = λ i h. absurd (omega arith);
            source_outward = (refl, omega (arith, ints));
            target_outward = (refl, omega (arith, ints));
          };
    })
    (record {
      from_source = refl;
      to_target = refl;
      one_dock = λ h. absurd (let t = ap (λ (k : Dock). k.node) h in search rules);
      orthogonal = λ _.
          record {
            steps = λ i h. below1 (λ i. IsStep (point_at parallel_drawn 1 i) (point_at parallel_drawn 1 (i + 1))) (inr (λ e. absurd (omega (arith, ints)), refl)) i (omega arith);
            turns = λ i h. absurd (omega arith);
            source_outward = (refl, omega (arith, ints));
            target_outward = (refl, omega (arith, ints));
          };
    })

between_boxes : (a b : Point) → pos 42 ≤ℤ a.x → pos 42 ≤ℤ b.x → a.x ≤ℤ pos 62 → b.x ≤ℤ pos 62 → (EntersRect a b (rect 12 12 30 30) → ⊥) × (EntersRect a b (rect 62 12 30 30) → ⊥)
between_boxes a b la lb ra rb = (
  λ m. let s = (EntersRect-spans a b (rect 12 12 30 30) m).0 in omega (arith, ints, clamps, la, lb, s),
  λ m. let s = (EntersRect-spans a b (rect 62 12 30 30) m).0 in omega (arith, ints, clamps, ra, rb, s),
)

-- where the points of the two routes stand
first_at : (i : ℕ) → i < 2 → ((point_at parallel_drawn 0 i).y ≡ pos 22) × (pos 42 ≤ℤ (point_at parallel_drawn 0 i).x) × ((point_at parallel_drawn 0 i).x ≤ℤ pos 62)
first_at = below2 (λ i. ((point_at parallel_drawn 0 i).y ≡ pos 22) × (pos 42 ≤ℤ (point_at parallel_drawn 0 i).x) × ((point_at parallel_drawn 0 i).x ≤ℤ pos 62)) (refl, omega (arith, ints), omega (arith, ints)) (refl, omega (arith, ints), omega (arith, ints))

second_at : (i : ℕ) → i < 2 → ((point_at parallel_drawn 1 i).y ≡ pos 32) × (pos 42 ≤ℤ (point_at parallel_drawn 1 i).x) × ((point_at parallel_drawn 1 i).x ≤ℤ pos 62)
second_at = below2 (λ i. ((point_at parallel_drawn 1 i).y ≡ pos 32) × (pos 42 ≤ℤ (point_at parallel_drawn 1 i).x) × ((point_at parallel_drawn 1 i).x ≤ℤ pos 62)) (refl, omega (arith, ints), omega (arith, ints)) (refl, omega (arith, ints), omega (arith, ints))

first_free : (i : ℕ) → i + 1 < 2 → (EntersRect (point_at parallel_drawn 0 i) (point_at parallel_drawn 0 (i + 1)) (rect 12 12 30 30) → ⊥) × (EntersRect (point_at parallel_drawn 0 i) (point_at parallel_drawn 0 (i + 1)) (rect 62 12 30 30) → ⊥)
first_free i k =
    let a = first_at i (omega (arith, k)) in
    let b = first_at (i + 1) k in
    between_boxes (point_at parallel_drawn 0 i) (point_at parallel_drawn 0 (i + 1)) a.1 b.1 a.2 b.2

second_free : (i : ℕ) → i + 1 < 2 → (EntersRect (point_at parallel_drawn 1 i) (point_at parallel_drawn 1 (i + 1)) (rect 12 12 30 30) → ⊥) × (EntersRect (point_at parallel_drawn 1 i) (point_at parallel_drawn 1 (i + 1)) (rect 62 12 30 30) → ⊥)
second_free i k =
    let a = second_at i (omega (arith, k)) in
    let b = second_at (i + 1) k in
    between_boxes (point_at parallel_drawn 1 i) (point_at parallel_drawn 1 (i + 1)) a.1 b.1 a.2 b.2

clear : (e c : ℕ) → IsEdge parallel 0 e → IsChild parallel 0 c → Clear parallel parallel_drawn e c
unfolding outline_to
clear e c h k =
    at_edges (λ e. Clear parallel parallel_drawn e c)
    (at_children (Clear parallel parallel_drawn 0) (record { foreign = λ n _ i l m. n refl; own = λ _ i l. (first_free i l).0 }) (record { foreign = λ _ n i l m. n refl; own = λ _ i l. (first_free i l).1 }) c k)
    (at_children (Clear parallel parallel_drawn 1) (record { foreign = λ n _ i l m. n refl; own = λ _ i l. (second_free i l).0 }) (record { foreign = λ _ n i l m. n refl; own = λ _ i l. (second_free i l).1 }) c k)
    e h

-- a point on a segment at one height has that height
level_at : (y : ℤ) (a b q : Point) → a.y ≡ y → b.y ≡ y → IsOnSegment a b q → q.y ≡ y
level_at y a b q ea eb h = let s = h.along in omega (arith, ints, clamps, ea, eb, s)

apart_routes : PathsShare (path_of parallel_drawn 0) (path_of parallel_drawn 1) → ⊥
apart_routes s =
    let p = s.piece in
    let high = level_at (pos 22) _ _ p.one (first_at s.i (omega (arith, s.i_in))).0 (first_at (s.i + 1) s.i_in).0 p.one_on_first in
    let low = level_at (pos 32) _ _ p.one (second_at s.j (omega (arith, s.j_in))).0 (second_at (s.j + 1) s.j_in).0 p.one_on_second in
    omega (arith, ints, high, low)

apart_back : PathsShare (path_of parallel_drawn 1) (path_of parallel_drawn 0) → ⊥
apart_back s =
    let p = s.piece in
    let low = level_at (pos 32) _ _ p.one (second_at s.i (omega (arith, s.i_in))).0 (second_at (s.i + 1) s.i_in).0 p.one_on_first in
    let high = level_at (pos 22) _ _ p.one (first_at s.j (omega (arith, s.j_in))).0 (first_at (s.j + 1) s.j_in).0 p.one_on_second in
    omega (arith, ints, high, low)

sharing : (e f : ℕ) → IsEdge parallel 0 e → IsEdge parallel 0 f → e ≢ f → Sharing parallel parallel_drawn e f
sharing e f h k n =
    at_edges (λ e. e ≢ f → Sharing parallel parallel_drawn e f)
    (at_edges (λ f. 0 ≢ f → Sharing parallel parallel_drawn 0 f) (λ n. absurd (n refl)) (λ _ s. absurd (apart_routes s)) f k)
    (at_edges (λ f. 1 ≢ f → Sharing parallel parallel_drawn 1 f) (λ _ s. absurd (apart_back s)) (λ n. absurd (n refl)) f k)
    e h n

-- ---- Reversed, Layering and FlowProof

the_step : (a b : ℕ) → UnlistedStep parallel 0 two_edges a b → (a ≡ 1) × (b ≡ 2)
the_step a b s =
    at_edges (λ e. source_node parallel e ≡ a → target_node parallel e ≡ b → (a ≡ 1) × (b ≡ 2)) (λ x y. (omega arith, omega arith)) (λ x y. (omega arith, omega arith)) s.edge s.of_level s.source s.target

no_way_back : (a b : ℕ) → a ≡ 2 → b ≡ 1 → Reaches (UnlistedStep parallel 0 two_edges) a b → ⊥
no_way_back a b x y (stay _) = omega arith
no_way_back a b x y (go _ c _ s r) = let t = the_step a c s in let u = t.0 in omega arith

reversed : Reversed parallel 0 two_edges
reversed =
    record {
      closes = All-nil (λ e. Reaches (UnlistedStep parallel 0 two_edges) (target_node parallel e) (source_node parallel e));
      acyclic = λ a b s r. let t = the_step a b s in no_way_back b a t.1 t.0 r;
    }

layering : Layering parallel parallel_drawn 0 two_edges
unfolding count_below total_below
layering =
    record {
      layers = λ e h _. at_edges (λ e. (written_layer parallel 0 two_edges (tail_node parallel parallel_drawn e) +ℤ pos 1) ≤ℤ written_layer parallel 0 two_edges (head_node parallel parallel_drawn e)) (omega (arith, ints)) (omega (arith, ints)) e h;
      span = refl;
    }

flow : FlowProof parallel parallel_drawn 0 two_edges
unfolding count_below sum_below
flow =
    record {
      loops = at_edges (λ e. IsTrue (is_loop parallel e) → flow_in parallel 0 two_edges e ≡ 0) (λ t. absurd (search rules)) (λ t. absurd (search rules));
      balance = at_children _ refl refl;
      sum = refl;
    }

level_drawn : LevelDrawn parallel parallel_drawn 0 (options Right) two_edges
level_drawn =
    record {
      apart = apart;
      inside = inside;
      ports_kept =
          record {
            children = at_children (KeepsPorts parallel parallel_drawn) (keeps 1 (λ h. cc)) (keeps 2 (λ h. cc));
            root = λ _. keeps 0 (λ h. cc);
          };
      routes = routes;
      clear = clear;
      sharing = sharing;
      reversed = reversed;
      layering = layering;
      flow = flow;
    }

drawn : (n : ℕ) (o : LevelOptions) (c : Certificate) → n < 3 → (node_at parallel n).level ≡ Some o → certificate_of parallel_drawn n ≡ Some c → LevelDrawn parallel parallel_drawn n o c
drawn n o c k =
    below3 (λ n. (node_at parallel n).level ≡ Some o → certificate_of parallel_drawn n ≡ Some c → LevelDrawn parallel parallel_drawn n o c)
    (λ eo ec.
    let same_options : options Right ≡ o = cc in
    let same_certificate : two_edges ≡ c = cc in
    subst (λ (o : LevelOptions). LevelDrawn parallel parallel_drawn 0 o c) same_options (subst (LevelDrawn parallel parallel_drawn 0 (options Right)) same_certificate level_drawn))
    (λ eo ec. absurd cc)
    (λ eo ec. absurd cc)
    n k

-- ---- one change

abbrev joined_drawn : Rattle.elk_doc.specs.declared.drawing.Placed.Placed
joined_drawn = parallel_with (rect 62 12 30 30) joining

joined_share : PathsShare (path_of joined_drawn 0) (path_of joined_drawn 1)
joined_share =
    record {
      i = 0;
      j = 2;
      i_in = omega arith;
      j_in = omega arith;
      piece = record { one = at_xy 47 22; other = at_xy 57 22; differ = λ e. let x : pos 47 ≡ pos 57 = ap (λ (q : Point). q.x) e in omega (arith, ints, x); one_on_first = omega (arith, ints, clamps); one_on_second = omega (arith, ints, clamps); other_on_first = omega (arith, ints, clamps); other_on_second = omega (arith, ints, clamps) };
    }

no_common_dock : (s t : Bool) → dock_of parallel joined_drawn 0 s ≡ dock_of parallel joined_drawn 1 t → ⊥
no_common_dock true true e = let z : pos 10 ≡ pos 20 = ap (λ (k : Dock). k.offset) e in omega (arith, ints, z)
no_common_dock true false e = let z : 1 ≡ 2 = ap (λ (k : Dock). k.node) e in omega (arith, z)
no_common_dock false true e = let z : 2 ≡ 1 = ap (λ (k : Dock). k.node) e in omega (arith, z)
no_common_dock false false e = let z : pos 10 ≡ pos 20 = ap (λ (k : Dock). k.offset) e in omega (arith, ints, z)

near : Apart parallel (parallel_with (rect 61 12 30 30) lower) 0 (options Right) two_edges → ⊥
unfolding outline_to count_below
near h = let l = (h.layers (search rules) 1 2 child1 child2 (λ e. omega arith) (λ t. absurd (search rules))).earlier_layer (omega arith) in omega (arith, ints, l)

pub parallel_edges : ParallelEdges
parallel_edges =
    record {
      drawn = record { fits = fits; levels = drawn };
      near = near;
      joined = λ h. let q = h joined_share in no_common_dock q.0 q.1 q.2;
    }
