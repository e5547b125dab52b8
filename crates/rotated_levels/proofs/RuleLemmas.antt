-- Ports and routes of the whole keep the rules, since those of the parts do.
use Rattle.std.proofs.Common.{◌≡◌, ◌≢◌, ◌⊎◌, inl, inr, ℕ, ◌+◌, ◌<◌, Bool, true, false, List, length, map, slice_index, ℤ, pos, ◌≤ℤ◌, ◌<ℤ◌, None, refl, sym, ap, ap₂, ◌∙◌, subst, subst₂, arith}
use Rattle.std.proofs.lemmas.Bool.{cases_eq}
use Rattle.drawing_types.specs.declared.shape.Point.{Point}
use Rattle.drawing_types.specs.declared.shape.Rect.{Rect}
use Rattle.drawing_types.specs.declared.shape.Dock.{Dock}
use Rattle.drawing_types.specs.declared.shape.Side.{Side}
use Rattle.elk_doc.specs.declared.document.PortRule.TheVariants.{FixedOrder}
use Rattle.drawing_types.specs.Clearance.{StandsClear}
use Rattle.elk_doc.specs.Places.{offset_on}
use Rattle.elk_doc.specs.PortsKept.{IsOnSide, Spot as Place, a_port, an_end, size_along, counted}
use Rattle.elk_doc.specs.Route.{IsOrthogonal}
use Rattle.elk_doc.specs.Clear.{IsClear}
use Rattle.elk_doc.specs.Sharing.{PathsShare}
use Rattle.drawing_types.specs.Shapes.{Holds, moved_by, point_rect}
use Rattle.drawing_types.specs.Ranges.{IsWithin}
use Rattle.elk_doc.proofs.PathLemmas.{clear_numbered, some_points}
use Rattle.port_order.specs.declared.children.Child.{Child}
use Rattle.port_order.specs.Child.{is_pinned}
use Rattle.port_order.specs.Order.{ClockwiseFirst}
use Rattle.port_order.specs.Sides.{is_forward}
use Rattle.level_model.proofs.SpotLemmas.{spoke_there}
use Rattle.level_model.proofs.SameLines.{same_dock}
use Rattle.level_model.specs.FromPlan.{LevelDrawing, IsDrawnFrom, anchor, box_place, point_or, section_at}
use Rattle.level_model.specs.Level.{Orders, PlainLevel, PlainPlan, anchor_of_spot, child_at, dock_of, end_at, holds, port_place, spoke, spot_of}
use Rattle.plan_laws.specs.Routes.{KeepsClear, KeepsRoute, KeepsSharing, RoutesKept, end_child, end_dock, route_count, route_path, route_point}
use Rattle.level_model.specs.Apart.{drawn_box, drawn_outline, drawn_port}
use Rattle.level_model.specs.PortsKept.{ArePortsPlaced, IsSpreadAt, KeepsEnd, KeepsOrder, KeepsPort, KeepsPorts, SpreadsApart, drawn_offset, port_offset, port_side}
use Rattle.network_parts.specs.Divided.{place_of}
use Rattle.network_parts.proofs.PlaceLemmas.{node_place, place_less}
use Rattle.level_parts.specs.Divided.{child_number, edge_keys, edge_number, members}
use Rattle.level_parts.specs.Laws.{AreAlike, IsSameChild, IsSameEnd, SaysTheSame, numbered_dock}
use Rattle.level_parts.proofs.LevelLemmas.{edge_part}
use Rattle.level_parts.proofs.PartLemmas.{one_part}
use Rattle.level_parts.proofs.SameLemmas.{says_the_same}
use Rattle.level_parts.proofs.SplitLemmas.{keys_below}
use Rattle.rotated_levels.specs.Outlines.{shifted}
use Rattle.working_frame.specs.Drawing.{plus}
use Rattle.rotated_levels.proofs.MoveLemmas.{clear_moved, orthogonal_moved, sharing_unmoved}
use Rattle.rotated_levels.specs.Joined.{AreDrawn, IsJoinedDrawing}
use Rattle.rotated_levels.proofs.JoinedMoveLemmas.{anchor_moved, clear_enters, clear_meets, clear_shares, offset_moved, side_moved}
use Rattle.rotated_levels.proofs.PartLemmas as parts

-- What lies in the places of the parts, which stand clear of one another.
pub record LiesInParts (l : PlainLevel) (numbers : List ℕ) (count : ℕ) (own : ℕ → LevelDrawing) (v : LevelDrawing) (gap : ℤ) (rect : ℕ → Rect) : Type 0 where
  pub gap_above : pos 1 ≤ℤ gap
  pub clear : (j k : ℕ) → j < count → k < count → j ≢ k → StandsClear gap (rect j) (rect k) ⊎ StandsClear gap (rect k) (rect j)
  pub outlines : (k i : ℕ) → k < count → i < length (members numbers k) → Holds (rect k) (drawn_outline l v (child_number numbers k i))
  pub boxes : (k i : ℕ) → k < count → i < length (members numbers k) → Holds (rect k) (drawn_box l v (child_number numbers k i))
  pub points : (k j x : ℕ) → k < count → j < length (members (edge_keys l numbers) k) → x < route_count (own k) j → Holds (rect k) (point_rect (route_point v (edge_number l numbers k j) x))

-- A plan and orders that turn the listed edges round, order sides as the parts do, and place the boxes where they are drawn.
pub record Places (l : PlainLevel) (numbers : List ℕ) (count : ℕ) (orders : ℕ → Orders) (listed : List ℕ) (v : LevelDrawing) (p : PlainPlan) (o : Orders) : Type 0 where
  pub reversed_are : p.reversed ≡ listed
  pub orders_are : (k i : ℕ) (side : Side) → i < length (members numbers k) → orders k i side ≡ o (child_number numbers k i) side
  pub boxes_are : (c : ℕ) → c < length l.children → box_place l p o v c ≡ point_or v.boxes c

module _ (l : PlainLevel) (numbers : List ℕ) (count : ℕ) (plans : ℕ → PlainPlan) (orders : ℕ → Orders) (layers : ℕ → List ℕ) (own : ℕ → LevelDrawing) (listed : List ℕ) (at : ℕ → Point) (v : LevelDrawing)
    (are : AreDrawn l numbers count plans orders layers own listed) (joined : IsJoinedDrawing l numbers at own v) (p : PlainPlan) (o : Orders) (places : Places l numbers count orders listed v p o)
    (gap : ℤ) (rect : ℕ → Rect) (lies : LiesInParts l numbers count own v gap rect) where
  abbrev keys : List ℕ
  keys = edge_keys l numbers

  abbrev part : ℕ → PlainLevel
  part k = parts.part l numbers at own v are.level are.numbered joined k

  abbrev some : ℕ → ℕ
  some k = parts.some l numbers at own v are.level are.numbered joined k

  abbrev many : ℕ → ℕ
  many k = parts.many l numbers at own v are.level are.numbered joined k

  abbrev child_of : ℕ → ℕ → ℕ
  child_of k i = parts.child_of l numbers at own v are.level are.numbered joined k i

  abbrev edge_of : ℕ → ℕ → ℕ
  edge_of k j = parts.edge_of l numbers at own v are.level are.numbered joined k j

  part_below : (k i : ℕ) → k ≡ slice_index numbers (child_of k i) → i < some k → k < count
  part_below k i is h =
      let there = parts.there l numbers at own v are.level are.numbered joined k i h in
      subst (λ n. n < count) (sym is) (are.counted.below (child_of k i) (subst (λ n. child_of k i < n) (sym are.numbered.as_many) there))

  key_below : (k j : ℕ) → k ≡ slice_index keys (edge_of k j) → j < many k → k < count
  key_below k j is h =
      let there = parts.edge_there l numbers at own v are.level are.numbered joined k j h in
      subst (λ n. n < count) (sym is) (keys_below l numbers count are.level are.numbered are.counted (edge_of k j) (parts.in_keys l numbers at own v are.level are.numbered joined (edge_of k j) there))

  -- ---- what a part says is what the whole says

  alike : (k : ℕ) → k < count → AreAlike l numbers k (plans k) p (orders k) o
  alike k h =
      record { is_reversed = λ j less. are.is_reversed k j h less ∙ ap (λ (r : List ℕ). holds r (edge_of k j)) (sym places.reversed_are); orders = λ i side less. places.orders_are k i side less }

  says : (k : ℕ) → k < count → SaysTheSame l numbers k (plans k) p (orders k) o
  says k h = says_the_same l numbers k (plans k) p (orders k) o are.level are.numbered (alike k h)

  drawn : (k : ℕ) → k < count → IsDrawnFrom (part k) (plans k) (orders k) (own k)
  drawn k h = (are.drawing k h).from_plan (orders k) (are.ready k h)

  rules : (k : ℕ) → k < count → RoutesKept (part k) (plans k) (orders k) (own k)
  rules k h = (are.drawing k h).routes (orders k) (are.ready k h)

  kept : (k i : ℕ) → k < count → i < some k → KeepsPorts (part k) (plans k) (orders k) (own k) i
  kept k i h less = (are.drawing k h).ports (orders k) (are.ready k h) i (parts.in_part l numbers at own v are.level are.numbered joined k i less)

  same_child : (k i : ℕ) → k < count → i < some k → IsSameChild l numbers k (plans k) p (orders k) o i
  same_child k i h less = (says k h).children i less

  same_end : (k j : ℕ) (t : Bool) → k < count → j < many k → IsSameEnd l numbers k (plans k) p (orders k) o j t
  same_end k j t h less = (says k h).ends j t less

  -- ---- ports

  abbrev PortsAt : ℕ → Type 0
  PortsAt c = (q : ℕ) → q < length (child_at l c).ports → drawn_port v c q ≡ port_place l p o c q

  ports_at : (k i : ℕ) → k < count → i < some k → PortsAt (child_of k i)
  ports_at k i h less q there =
      let same = same_child k i h less in
      let inside = parts.in_part l numbers at own v are.level are.numbered joined k i less in
      parts.port_at_is l numbers at own v are.level are.numbered joined k i less q
      ∙ ((drawn k h).children i inside).ports q (subst (λ (c : Child). q < length c.ports) (sym same.child) there)
      ∙ same.port q

  pub ports_placed : ArePortsPlaced l p o v
  ports_placed =
      record {
        ports = λ c q hc there. parts.by_child l numbers at own v are.level are.numbered joined PortsAt (λ k i is less. ports_at k i (part_below k i is less) less) c hc q there;
        boxes = λ e t h. sym (places.boxes_are (spoke l (end_at e t)).child (spoke_there l e t are.level h).child);
      }

  -- ---- ends

  abbrev inner_child : ℕ → ℕ → Bool → ℕ
  inner_child k j t = (spoke (part k) (end_at j t)).child

  abbrev outer_child : ℕ → ℕ → Bool → ℕ
  outer_child k j t = (spoke l (end_at (edge_of k j) t)).child

  child_up : (k j : ℕ) (t : Bool) → k < count → j < many k → child_of k (inner_child k j t) ≡ outer_child k j t
  child_up k j t h less = (same_end k j t h less).child

  box_up : (k j : ℕ) (t : Bool) → k < count → j < many k → drawn_box l v (outer_child k j t) ≡ shifted (at k) (drawn_box (part k) (own k) (inner_child k j t))
  box_up k j t h less =
      let same = same_end k j t h less in
      ap (drawn_box l v) (sym same.child) ∙ parts.drawn_box_at l numbers at own v are.level are.numbered joined k (inner_child k j t) same.child_in

  anchor_up : (k j : ℕ) (t : Bool) → k < count → j < many k → anchor l p o v (end_at (edge_of k j) t) ≡ plus (at k) (anchor (part k) (plans k) (orders k) (own k) (end_at j t))
  anchor_up k j t h less =
      let same = same_end k j t h less in
      let i = inner_child k j t in
      let inside = parts.in_part l numbers at own v are.level are.numbered joined k i same.child_in in
      let box : box_place l p o v (outer_child k j t) ≡ plus (at k) (box_place (part k) (plans k) (orders k) (own k) i) =
      places.boxes_are (outer_child k j t) (spoke_there l (edge_of k j) t are.level (parts.edge_there l numbers at own v are.level are.numbered joined k j less)).child
      ∙ ap (point_or v.boxes) (sym same.child)
      ∙ parts.box_at l numbers at own v are.level are.numbered joined k i same.child_in
      ∙ ap (plus (at k)) ((drawn k h).children i inside).box
      in
      ap₂ (λ b a. moved_by (point_rect b) a) box (sym same.anchor)
      ∙ anchor_moved (at k) (box_place (part k) (plans k) (orders k) (own k) i) (anchor_of_spot (part k) (orders k) i (spot_of (part k) (plans k) (end_at j t)))

  side_up : (k j : ℕ) (t : Bool) → k < count → j < many k → (dock_of (part k) (plans k) (orders k) (end_at j t)).side ≡ (dock_of l p o (end_at (edge_of k j) t)).side
  side_up k j t h less = ap (λ (d : Dock). d.side) (same_end k j t h less).dock

  same_number : (k a b : ℕ) → a < some k → b < some k → child_of k a ≡ child_of k b → a ≡ b
  same_number k a b ha hb e =
      sym (parts.place_is l numbers at own v are.level are.numbered joined k a ha) ∙ ap (place_of numbers) e ∙ parts.place_is l numbers at own v are.level are.numbered joined k b hb

  -- docks of one part are the same in the part exactly where they are in the whole
  docks_down : (k i j : ℕ) (s t : Bool) → k < count → i < many k → j < many k → dock_of l p o (end_at (edge_of k i) s) ≡ dock_of l p o (end_at (edge_of k j) t)
      → dock_of (part k) (plans k) (orders k) (end_at i s) ≡ dock_of (part k) (plans k) (orders k) (end_at j t)
  docks_down k i j s t h hi hj e =
      let a = same_end k i s h hi in
      let b = same_end k j t h hj in
      let both = a.dock ∙ e ∙ sym b.dock in
      same_dock (dock_of (part k) (plans k) (orders k) (end_at i s)) (dock_of (part k) (plans k) (orders k) (end_at j t))
      (same_number k (inner_child k i s) (inner_child k j t) a.child_in b.child_in (ap (λ (d : Dock). d.node) both)) (ap (λ (d : Dock). d.side) both) (ap (λ (d : Dock). d.offset) both)

  docks_up : (k i j : ℕ) (s t : Bool) → k < count → i < many k → j < many k → dock_of (part k) (plans k) (orders k) (end_at i s) ≡ dock_of (part k) (plans k) (orders k) (end_at j t)
      → dock_of l p o (end_at (edge_of k i) s) ≡ dock_of l p o (end_at (edge_of k j) t)
  docks_up k i j s t h hi hj e = sym (same_end k i s h hi).dock ∙ ap (numbered_dock numbers k) e ∙ (same_end k j t h hj).dock

  -- ---- routes

  abbrev inner_count : ℕ → ℕ → ℕ
  inner_count k j = route_count (own k) j

  count_is : (k j : ℕ) → j < many k → route_count v (edge_of k j) ≡ inner_count k j
  count_is k j less = parts.count_is l numbers at own v are.level are.numbered joined k j less

  path_is : (k j : ℕ) → j < many k → route_path v (edge_of k j) ≡ map (plus (at k)) (route_path (own k) j)
  path_is k j less = parts.path_is l numbers at own v are.level are.numbered joined k j less

  orthogonal : (k j : ℕ) → k < count → j < many k → IsOrthogonal (route_path (own k) j) (end_dock (part k) (plans k) (orders k) j true).side (end_dock (part k) (plans k) (orders k) j false).side
      → IsOrthogonal (route_path v (edge_of k j)) (end_dock l p o (edge_of k j) true).side (end_dock l p o (edge_of k j) false).side
  orthogonal k j h less q =
      let path = route_path (own k) j in
      let source = (end_dock (part k) (plans k) (orders k) j true).side in
      let target = (end_dock (part k) (plans k) (orders k) j false).side in
      subst₂ (IsOrthogonal (route_path v (edge_of k j))) (side_up k j true h less) (side_up k j false h less)
      (subst (λ ps. IsOrthogonal ps source target) (sym (path_is k j less)) (orthogonal_moved (at k) path source target (some_points (section_at (own k) j)) q))

  routed_at : (k j : ℕ) → k < count → j < many k → KeepsRoute l p o v (edge_of k j)
  routed_at k j h less =
      let inner = (rules k h).routes j (parts.edge_in_part l numbers at own v are.level are.numbered joined k j less) in
      let section = parts.section_is l numbers at own v are.level are.numbered joined k j less in
      record {
        from_source = ap (λ s. s.start) section ∙ ap (plus (at k)) inner.from_source ∙ sym (anchor_up k j true h less);
        to_target = ap (λ s. s.end) section ∙ ap (plus (at k)) inner.to_target ∙ sym (anchor_up k j false h less);
        one_dock = λ one. ap (λ s. s.bends) section ∙ ap (map (plus (at k))) (inner.one_dock (docks_down k j j true false h less less one));
        orthogonal = λ other. orthogonal k j h less (inner.orthogonal (λ one. other (docks_up k j j true false h less less one)));
      }

  -- ---- clearance

  held : (k j x : ℕ) → k < count → j < many k → x < inner_count k j → Holds (rect k) (point_rect (route_point v (edge_of k j) x))
  held k j x h less there = lies.points k j x h less there

  abbrev ClearOf : ℕ → ℕ → Type 0
  ClearOf e c = KeepsClear l v e c

  clear_same : (k j i : ℕ) → k < count → j < many k → i < some k → ClearOf (edge_of k j) (child_of k i)
  clear_same k j i h less there =
      let inner = (rules k h).clear j i (parts.edge_in_part l numbers at own v are.level are.numbered joined k j less) (parts.in_part l numbers at own v are.level are.numbered joined k i there) in
      let e = edge_of k j in
      let c = child_of k i in
      let path = route_path (own k) j in
      let outline = drawn_outline (part k) (own k) i in
      let box = drawn_box (part k) (own k) i in
      let not_at : (t : Bool) → end_child l e t ≢ c → end_child (part k) j t ≢ i = λ t other same. other (sym (child_up k j t h less) ∙ ap (child_of k) same) in
      let is_at : (t : Bool) → end_child l e t ≡ c → end_child (part k) j t ≡ i = λ t same. same_number k (end_child (part k) j t) i (same_end k j t h less).child_in there (child_up k j t h less ∙ same) in
      subst₂ (IsClear (route_path v e) (end_child l e true) (end_child l e false) c) (sym (parts.outline_at l numbers at own v are.level are.numbered joined k i there))
      (sym (parts.drawn_box_at l numbers at own v are.level are.numbered joined k i there))
      (subst (λ ps. IsClear ps (end_child l e true) (end_child l e false) c (shifted (at k) outline) (shifted (at k) box)) (sym (path_is k j less))
      (clear_numbered (map (plus (at k)) path) (end_child (part k) j true) (end_child (part k) j false) i (end_child l e true) (end_child l e false) c (shifted (at k) outline) (shifted (at k) box) (not_at true) (not_at false)
      (is_at true) (is_at false) (clear_moved (at k) path (end_child (part k) j true) (end_child (part k) j false) i outline box inner)))

  clear_other : (k m j i : ℕ) → k < count → m < count → k ≢ m → j < many k → i < some m → ClearOf (edge_of k j) (child_of m i)
  clear_other k m j i h hm differ less there =
      let count_same = count_is k j less in
      let apart = lies.clear k m h hm differ in
      record {
        foreign = λ source target x inside meets. let within : x + 1 < inner_count k j = omega (arith, inside, count_same) in
            clear_meets gap (rect k) (rect m) (route_point v (edge_of k j) x) (route_point v (edge_of k j) (x + 1)) (drawn_outline l v (child_of m i)) lies.gap_above apart
            (held k j x h less (omega (arith, within))) (held k j (x + 1) h less within) (lies.outlines m i hm there) meets;
        own = λ _ x inside enters. let within : x + 1 < inner_count k j = omega (arith, inside, count_same) in
            clear_enters gap (rect k) (rect m) (route_point v (edge_of k j) x) (route_point v (edge_of k j) (x + 1)) (drawn_box l v (child_of m i)) lies.gap_above apart
            (held k j x h less (omega (arith, within))) (held k j (x + 1) h less within) (lies.boxes m i hm there) enters;
      }

  clear_at : (k m j i : ℕ) → k < count → m < count → j < many k → i < some m → ClearOf (edge_of k j) (child_of m i)
  clear_at k m j i h hm less there =
      elim (cases_eq k m) [
        | inl same ↦
            subst (λ n. ClearOf (edge_of k j) (child_of n i)) same (clear_same k j i h less (subst (λ n. i < some n) (sym same) there))
        | inr differ ↦ clear_other k m j i h hm differ less there
      ]

  -- ---- sharing

  abbrev Shares : ℕ → ℕ → Type 0
  Shares e f = KeepsSharing l p o v e f

  shares_same : (k i j : ℕ) → k < count → i < many k → j < many k → i ≢ j → Shares (edge_of k i) (edge_of k j)
  shares_same k i j h hi hj differ share =
      let docks =
      (rules k h).sharing i j (parts.edge_in_part l numbers at own v are.level are.numbered joined k i hi) (parts.edge_in_part l numbers at own v are.level are.numbered joined k j hj) differ
      (sharing_unmoved (at k) (route_path (own k) i) (route_path (own k) j) (subst₂ PathsShare (path_is k i hi) (path_is k j hj) share))
      in
      (docks.0, docks.1, docks_up k i j docks.0 docks.1 h hi hj docks.2)

  shares_other : (k m i j : ℕ) → k < count → m < count → k ≢ m → i < many k → j < many m → Shares (edge_of k i) (edge_of m j)
  shares_other k m i j h hm differ hi hj share =
      let ci = count_is k i hi in
      let cj = count_is m j hj in
      let first = share.i_in in
      let second = share.j_in in
      let x : share.i + 1 < inner_count k i = omega (arith, first, ci) in
      let y : share.j + 1 < inner_count m j = omega (arith, second, cj) in
      absurd
      (clear_shares gap (rect k) (rect m) (route_point v (edge_of k i) share.i) (route_point v (edge_of k i) (share.i + 1)) (route_point v (edge_of m j) share.j) (route_point v (edge_of m j) (share.j + 1)) lies.gap_above
      (lies.clear k m h hm differ) (held k i share.i h hi (omega (arith, x))) (held k i (share.i + 1) h hi x) (held m j share.j hm hj (omega (arith, y))) (held m j (share.j + 1) hm hj y) share.piece)

  shares_at : (k m i j : ℕ) → k < count → m < count → i < many k → j < many m → edge_of k i ≢ edge_of m j → Shares (edge_of k i) (edge_of m j)
  shares_at k m i j h hm hi hj differ =
      elim (cases_eq k m) [
        | inl same ↦
            (let there : j < many k = subst (λ n. j < many n) (sym same) hj in
            subst (λ n. Shares (edge_of k i) (edge_of n j)) same (shares_same k i j h hi there (λ e. differ (ap (edge_of k) e ∙ ap (λ n. edge_of n j) same))))
        | inr other ↦ shares_other k m i j h hm other hi hj
      ]

  pub routes_kept : RoutesKept l p o v
  routes_kept =
      record {
        routes = parts.by_edge l numbers at own v are.level are.numbered joined (KeepsRoute l p o v) (λ k j is less. routed_at k j (key_below k j is less) less);
        clear = λ e c he hc. parts.by_edge l numbers at own v are.level are.numbered joined (λ e. ClearOf e c)
            (λ k j is less. parts.by_child l numbers at own v are.level are.numbered joined (ClearOf (edge_of k j))
            (λ m i part_is there. clear_at k m j i (key_below k j is less) (part_below m i part_is there) less there) c hc) e he;
        sharing = λ e f he hf. parts.by_edge l numbers at own v are.level are.numbered joined (λ e. e ≢ f → Shares e f)
            (λ k i is less. parts.by_edge l numbers at own v are.level are.numbered joined (λ f. edge_of k i ≢ f → Shares (edge_of k i) f)
            (λ m j key_is there. shares_at k m i j (key_below k i is less) (key_below m j key_is there) less there) f hf) e he;
      }

  -- ---- the ports of a child

  port_kept : (k i q : ℕ) → k < count → i < some k → q < length (child_at l (child_of k i)).ports → KeepsPort (child_at l (child_of k i)) (port_side l p (child_of k i) q) q (drawn_port v (child_of k i) q)
  port_kept k i q h less there =
      let same = same_child k i h less in
      subst (λ (c : Child). KeepsPort c (port_side l p (child_of k i) q) q (drawn_port v (child_of k i) q)) same.child
      (subst (λ s. KeepsPort (child_at (part k) i) s q (drawn_port v (child_of k i) q)) (same.side q)
      (subst (λ z. KeepsPort (child_at (part k) i) (port_side (part k) (plans k) i q) q z) (sym (parts.port_at_is l numbers at own v are.level are.numbered joined k i less q))
      ((kept k i h less).ports q (subst (λ (c : Child). q < length c.ports) (sym same.child) there))))

  end_kept : (k j : ℕ) (t : Bool) → k < count → j < many k → (spoke l (end_at (edge_of k j) t)).port ≡ None → KeepsEnd l p o v (end_at (edge_of k j) t)
  end_kept k j t h less none =
      let same = same_end k j t h less in
      let i = inner_child k j t in
      let side = (dock_of (part k) (plans k) (orders k) (end_at j t)).side in
      let box = drawn_box (part k) (own k) i in
      let stands = anchor (part k) (plans k) (orders k) (own k) (end_at j t) in
      let inner = (kept k i h same.child_in).ends j t (parts.edge_in_part l numbers at own v are.level are.numbered joined k j less) refl (same.port ∙ none) in
      let child = parts.same_child l numbers at own v are.level are.numbered joined k i same.child_in ∙ ap (child_at l) same.child in
      let offset = ap₂ (offset_on side) (box_up k j t h less) (anchor_up k j t h less) ∙ offset_moved side (at k) box stands in
      record {
        on_line = subst (λ s. IsOnSide s (drawn_box l v (outer_child k j t)) (anchor l p o v (end_at (edge_of k j) t))) (side_up k j t h less)
            (subst₂ (λ r q. IsOnSide side r q) (sym (box_up k j t h less)) (sym (anchor_up k j t h less)) (side_moved side (at k) box stands inner.on_line));
        on_side = subst (λ s. IsWithin (pos 0) (size_along s (child_at l (outer_child k j t)).size) (offset_on s (drawn_box l v (outer_child k j t)) (anchor l p o v (end_at (edge_of k j) t)))) (side_up k j t h less)
            (subst₂ (λ (c : Child) z. IsWithin (pos 0) (size_along side c.size) z) child (sym offset) inner.on_side);
      }

  order_kept : (k i : ℕ) → k < count → i < some k → KeepsOrder l p v (child_of k i)
  order_kept k i h less a b rule ha hb sides first =
      let same = same_child k i h less in
      let c = child_of k i in
      let back : child_at l c ≡ child_at (part k) i = sym same.child in
      let inner =
      (kept k i h less).order a b (subst (λ (x : Child). x.rule ≡ FixedOrder) back rule) (subst (λ (x : Child). a < length x.ports) back ha) (subst (λ (x : Child). b < length x.ports) back hb)
      (same.side a ∙ sides ∙ sym (same.side b))
      (subst₂ (λ (x : Child) s. ClockwiseFirst x s a a b b) back (sym (same.side b)) first)
      in
      subst (λ (x : Child). counted (is_forward x.direction (port_side l p c b)) (port_offset x (port_side l p c a) a (drawn_port v c a)) ≤ℤ counted (is_forward x.direction (port_side l p c b)) (port_offset x (port_side l p c b) b (drawn_port v c b))) same.child
      (subst₂ (λ s t. counted (is_forward (child_at (part k) i).direction t) (port_offset (child_at (part k) i) s a (drawn_port v c a)) ≤ℤ counted (is_forward (child_at (part k) i).direction t) (port_offset (child_at (part k) i) t b (drawn_port v c b))) (same.side a) (same.side b)
      (subst₂ (λ x y. counted (is_forward (child_at (part k) i).direction (port_side (part k) (plans k) i b)) (port_offset (child_at (part k) i) (port_side (part k) (plans k) i a) a x) ≤ℤ counted (is_forward (child_at (part k) i).direction (port_side (part k) (plans k) i b)) (port_offset (child_at (part k) i) (port_side (part k) (plans k) i b) b y))
      (sym (parts.port_at_is l numbers at own v are.level are.numbered joined k i less a)) (sym (parts.port_at_is l numbers at own v are.level are.numbered joined k i less b)) inner))

  -- a spot of the whole at its part, and back
  abbrev down : Place → Place
  down (a_port q) = a_port q
  down (an_end e t) = an_end (place_of keys e) t

  abbrev upward : ℕ → Place → Place
  upward k (a_port q) = a_port q
  upward k (an_end j t) = an_end (edge_of k j) t

  part_of_end : (e : ℕ) (t : Bool) (c k : ℕ) → e < length l.edges → (spoke l (end_at e t)).child ≡ c → slice_index numbers c ≡ k → slice_index keys e ≡ k
  part_of_end e true c k h is of = edge_part l numbers k are.level are.numbered e h ∙ ap (slice_index numbers) is ∙ of
  part_of_end e false c k h is of = edge_part l numbers k are.level are.numbered e h ∙ one_part l numbers are.level are.numbered e h ∙ ap (slice_index numbers) is ∙ of

  abbrev InPart : ℕ → ℕ → Side → Place → Type 0
  InPart k i side x =
      IsSpreadAt (part k) (plans k) (orders k) i side (down x) × (upward k (down x) ≡ x)
      × (drawn_offset l p o v (child_of k i) side x ≡ drawn_offset (part k) (plans k) (orders k) (own k) i side (down x))

  spread_down : (k i : ℕ) (side : Side) (x : Place) → k < count → i < some k → IsSpreadAt l p o (child_of k i) side x → InPart k i side x
  spread_down k i side (a_port q) h less (there, free, at_side) =
      let same = same_child k i h less in
      let back : child_at l (child_of k i) ≡ child_at (part k) i = sym same.child in (
        (subst (λ (x : Child). q < length x.ports) back there, subst (λ (x : Child). is_pinned x q ≡ false) back free, same.side q ∙ at_side),
        refl,
        ap₂ (λ (x : Child) z. port_offset x side q z) back (parts.port_at_is l numbers at own v are.level are.numbered joined k i less q),
      )
  spread_down k i side (an_end e t) h less (there, is, none, at_side) =
      let key = part_of_end e t (child_of k i) k there is (parts.part_is l numbers at own v are.level are.numbered joined k i less) in
      let j = place_of keys e in
      let listed_there = parts.in_keys l numbers at own v are.level are.numbered joined e there in
      let inside : j < many k = place_less keys k e listed_there key in
      let back : edge_of k j ≡ e = node_place keys k e listed_there key in
      let same = same_end k j t h inside in
      let child = same.child ∙ ap (λ x. (spoke l (end_at x t)).child) back ∙ is in (
        (
          parts.edge_in_part l numbers at own v are.level are.numbered joined k j inside,
          same_number k (inner_child k j t) i same.child_in less child,
          same.port ∙ ap (λ x. (spoke l (end_at x t)).port) back ∙ none,
          side_up k j t h inside ∙ ap (λ x. (dock_of l p o (end_at x t)).side) back ∙ at_side,
        ),
        ap (λ x. an_end x t) back,
        ap₂ (offset_on side) (parts.drawn_box_at l numbers at own v are.level are.numbered joined k i less) (ap (λ x. anchor l p o v (end_at x t)) (sym back) ∙ anchor_up k j t h inside)
            ∙ offset_moved side (at k) (drawn_box (part k) (own k) i) (anchor (part k) (plans k) (orders k) (own k) (end_at j t)),
      )

  spread_kept : (k i : ℕ) → k < count → i < some k → SpreadsApart l p o v (child_of k i)
  spread_kept k i h less side x y room sx sy differ same_offset =
      let same = same_child k i h less in
      let dx = spread_down k i side x h less sx in
      let dy = spread_down k i side y h less sy in
      (kept k i h less).spread side (down x) (down y)
      (subst₂ (λ n (c : Child). pos n <ℤ size_along side c.size) (sym (same.spread side)) (sym same.child) room) dx.0 dy.0
      (λ e. differ (sym dx.1 ∙ ap (upward k) e ∙ dy.1)) (sym dx.2 ∙ same_offset ∙ dy.2)

  keeps_ports : (k i : ℕ) → k < count → i < some k → KeepsPorts l p o v (child_of k i)
  keeps_ports k i h less =
      record {
        ports = λ q there. port_kept k i q h less there;
        ends = λ e t he is none. parts.by_edge l numbers at own v are.level are.numbered joined (λ e. (spoke l (end_at e t)).port ≡ None → KeepsEnd l p o v (end_at e t))
            (λ m j key there free. end_kept m j t (key_below m j key there) there free) e he none;
        order = order_kept k i h less;
        spread = spread_kept k i h less;
      }

  pub ports_kept : (c : ℕ) → c < length l.children → KeepsPorts l p o v c
  ports_kept = parts.by_child l numbers at own v are.level are.numbered joined (KeepsPorts l p o v) (λ k i is less. keeps_ports k i (part_below k i is less) less)
