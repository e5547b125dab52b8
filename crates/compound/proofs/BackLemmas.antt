-- Ports of the root are kept where those of the child are that it is in a document below another root.
use Rattle.std.proofs.Common.{◌≡◌, ◌≢◌, ◌⊎◌, ⊎_elim, ℕ, zero, suc, ◌<◌, cond, not, ◌&&◌, ◌==◌, Bool, true, false, [], ◌∷◌, length, Some, None, IsNone, IsTrue, IsFalse, unwrap_or, ℤ, pos, ◌+ℤ◌, ◌≤ℤ◌, ◌<ℤ◌, refl, sym, ap, ap₂, subst, subst₂, ◌∙◌, arith, rules, eq-eqb, ne_eqb, eqb-true}
use Rattle.std.proofs.lemmas.Bool.{cases_eq}
use Rattle.std.specs.Prelude.{Option, is_some}
use Rattle.drawing_types.specs.declared.shape.Point.{Point}
use Rattle.drawing_types.specs.declared.shape.Rect.{Rect}
use Rattle.drawing_types.specs.declared.shape.Side.{Side}
use Rattle.drawing_types.specs.declared.shape.Size.{Size}
use Rattle.elk_doc.specs.declared.document.End.{End}
use Rattle.elk_doc.specs.declared.document.End.TheVariants.{Node as AtNode, Port as AtPort}
use Rattle.elk_doc.specs.declared.document.Port.{Port}
use Rattle.elk_doc.specs.declared.drawing.Certificate.{Certificate}
use Rattle.elk_doc.specs.declared.drawing.Placed.{Placed}
use Rattle.elk_doc.specs.Document.{Document, direction_of, edge_at, frame_of, node_at, node_of_port, port_at}
use Rattle.elk_doc.specs.Drawing.{box_of, head_end, is_listed, no_rect, port_place}
use Rattle.elk_doc.specs.Level.{is_loop, node_of_end}
use Rattle.elk_doc.specs.Numbers.{any_below, count_below}
use Rattle.elk_doc.specs.Places.{middle_of, offset_on}
use Rattle.elk_doc.specs.PortsKept.{ComesBefore, GoesFirst, KeepsOrder, KeepsPort, KeepsPorts, IsSpread, Spot, SpreadsApart, a_port, across, an_end, clockwise, flush, given_clockwise, is_at_node, is_pinned, is_spread_end, is_spread_port, pins, port_offset, side_length, size_along, spot_offset, spread_count}
use Rattle.drawing_types.specs.Shapes.{is_side}
use Rattle.drawing_types.specs.Shapes.{half_of, moved_by, rect_at}
use Rattle.elk_doc.specs.Sides.{end_of, enters_port, given_side, is_at_port, is_entered, is_leaf, is_left, side_by_place, side_from, side_of_end, side_of_port, side_or}
use Rattle.elk_doc.specs.Sound.{IsSound, along}
use Rattle.drawing_types.specs.Ranges.{IsWithin}
use Rattle.elk_doc.proofs.NumberLaws.{any_below-zero, count_below-zero, is_true}
use Rattle.compound.proofs.LoweredLemmas.{lowered, other_port_at, port_count, root_port_at}

-- a drawing of the lowered document, with the box and the ports of the other's root
abbrev pub lowered_drawing : Placed → Certificate → Placed
lowered_drawing p c =
    record { boxes = no_rect ∷ box_of p 0 ∷ no_rect ∷ []; ports = p.ports; sections = []; levels = Some c ∷ None ∷ None ∷ [] }

-- ---- tests of numbers

none_pass : (test : ℕ → Bool) (n : ℕ) → ((m : ℕ) → m < n → test m ≡ false) → any_below test n ≡ false
unfolding any_below
none_pass test zero h = refl
none_pass test (suc n) h = rw (none_pass test n (λ m less. h m (omega (arith, less))), h n (omega arith)) refl

none_count : (test : ℕ → Bool) (n : ℕ) → ((m : ℕ) → m < n → test m ≡ false) → count_below test n ≡ 0
unfolding count_below
none_count test zero h = refl
none_count test (suc n) h = rw (none_count test n (λ m less. h m (omega (arith, less))), h n (omega arith)) refl

same_count : (test other : ℕ → Bool) (n : ℕ) → ((m : ℕ) → m < n → test m ≡ other m) → count_below test n ≡ count_below other n
unfolding count_below
same_count test other zero h = refl
same_count test other (suc n) h = rw (same_count test other n (λ m less. h m (omega (arith, less))), h n (omega arith)) refl

either : {X : Type 0} (P : X → Type 0) (b : Bool) (x y : X) → P x → P y → P (cond b x y)
either P true x y h k = h
either P false x y h k = k

and_first : (a b : Bool) → (a && b) ≡ true → a ≡ true
and_first true b h = refl
and_first false b h = h

-- the side that a document gives a port of the root stays
abbrev given_by : Document → Port → ℕ → Option Side
given_by e x n = side_from (node_at e n).rule x.side (is_leaf e n) (side_by_place (node_at e n).size x.place x.size)

pub given_is : (d : Document) (k : ℕ) → k < length d.ports → node_of_port d k ≡ 0 → given_side (lowered d) k ≡ given_side d k
given_is d k h own = ap (λ (x : Port). given_by (lowered d) x x.node) (root_port_at d k h own) ∙ ap (given_by d (port_at d k)) (sym own)

-- what is asked of one port, by its parts
record PartsKept (pinned leaf : Bool) (s : Side) (q g : Point) (z : Size) (r : Rect) : Type 0 where
  along_kept : IsTrue pinned → along s q ≡ along s g
  across_kept : IsTrue (pinned && leaf) → across s q ≡ across s g
  flush_outside : IsFalse (pinned && leaf) → across s q ≡ flush s r z
  on_side : IsFalse pinned → IsWithin (pos 0) (side_length s r) (offset_on s r (middle_of s (rect_at (moved_by r q) z)))

abbrev AtKept : Document → Placed → ℕ → Port → Side → Point → Type 0
AtKept d p n q s place =
    PartsKept (pins (node_at d n).rule (is_leaf d n) (is_some q.side)) (is_leaf d n) s place q.place q.size (box_of p n)

module _ (d : Document) (p : Placed) (c : Certificate) (sound : IsSound d) where
  abbrev w : Document
  w = lowered d

  abbrev q : Placed
  q = lowered_drawing p c

  -- ---- no edge ends at the root

  above : (e : ℕ) (t : Bool) → e < length d.edges → 0 < node_of_end d (end_of d e t)
  above e true h = (sound.edges e h).source_below
  above e false h = (sound.edges e h).target_below

  not_at_port : (k : ℕ) (x : End) → node_of_port d k ≡ 0 → 0 < node_of_end d x → is_at_port x k ≡ false
  not_at_port k (AtNode n) own less = refl
  not_at_port k (AtPort j) own less = ne_eqb j k (λ e. let same = ap (node_of_port d) e in omega (arith, same, own, less))

  not_at_root : (x : End) → 0 < node_of_end d x → is_at_node x 0 ≡ false
  not_at_root (AtNode n) less = ne_eqb n 0 (λ e. omega (arith, e, less))
  not_at_root (AtPort j) less = refl

  head_above : (e : ℕ) → e < length d.edges → 0 < node_of_end d (head_end d p e)
  head_above e h =
      either (λ x. 0 < node_of_end d x) (is_listed d p e) (edge_at d e).source (edge_at d e).target (above e true h) (above e false h)

  not_entered : (k : ℕ) → node_of_port d k ≡ 0 → is_entered d p k ≡ false
  not_entered k own =
      none_pass (enters_port d p k) (length d.edges) (λ e h. ap (λ b. b && not (is_loop d e)) (not_at_port k (head_end d p e) own (head_above e h)))

  -- ---- sides

  nothing_there : (o : Option ℕ) → IsNone o → unwrap_or o 0 ≡ 0
  nothing_there None h = refl
  nothing_there (Some x) h = absurd (search rules)

  frame_is : (k : ℕ) → k < length d.ports → node_of_port d k ≡ 0 → frame_of w (node_of_port w k) ≡ frame_of d (node_of_port d k)
  frame_is k h own =
      ap (λ (x : Port). frame_of w x.node) (root_port_at d k h own)
      ∙ ap (λ n. direction_of (node_at d n).level) (sym (nothing_there (node_at d 0).parent sound.tree.root_alone))
      ∙ ap (frame_of d) (sym own)

  side_is : (k : ℕ) → k < length d.ports → node_of_port d k ≡ 0 → side_of_port w q k ≡ side_of_port d p k
  side_is k h own =
      ap₂ (λ o f. side_or o (is_entered w q k && not (is_left w q k)) f) (given_is d k h own) (frame_is k h own)
      ∙ ap (λ b. side_or (given_side d k) (b && not (is_left w q k)) (frame_of d (node_of_port d k))) (any_below-zero (enters_port w q k))
      ∙ ap (λ b. side_or (given_side d k) (b && not (is_left d p k)) (frame_of d (node_of_port d k))) (sym (not_entered k own))

  -- ---- single ports

  at_kept : (k : ℕ) → KeepsPort w q k → AtKept w q (node_of_port w k) (port_at w k) (side_of_port w q k) (port_place q k)
  at_kept k h =
      record { along_kept = h.along_kept; across_kept = h.across_kept; flush_outside = h.flush_outside; on_side = h.on_side }

  port_kept : (k : ℕ) → k < length d.ports → node_of_port d k ≡ 0 → KeepsPort w q k → KeepsPort d p k
  port_kept k h own kept =
      let here : AtKept d p 0 (port_at d k) (side_of_port w q k) (port_place p k) =
      subst (λ (x : Port). AtKept w q x.node x (side_of_port w q k) (port_place p k)) (root_port_at d k h own) (at_kept k kept)
      in
      let there : AtKept d p (node_of_port d k) (port_at d k) (side_of_port d p k) (port_place p k) =
      subst₂ (λ n s. AtKept d p n (port_at d k) s (port_place p k)) (sym own) (side_is k h own) here
      in
      record { along_kept = there.along_kept; across_kept = there.across_kept; flush_outside = there.flush_outside; on_side = there.on_side }

  -- ---- orders

  node_is : (k : ℕ) → k < length d.ports → node_of_port d k ≡ 0 → node_of_port w k ≡ 1
  node_is k h own = ap (λ (x : Port). x.node) (root_port_at d k h own)

  many : (k : ℕ) → k < length d.ports → k < length w.ports
  many k h = omega (arith, h, port_count d)

  abbrev offset_at : Placed → Side → ℕ → Point → Size → ℤ
  offset_at r s n place size = offset_on s (box_of r n) (middle_of s (rect_at (moved_by (box_of r n) place) size))

  offset_is : (k : ℕ) → k < length d.ports → node_of_port d k ≡ 0 → port_offset w q k ≡ port_offset d p k
  offset_is k h own =
      ap (λ (x : Port). offset_at q (side_of_port w q k) x.node (port_place p k) x.size) (root_port_at d k h own)
      ∙ ap₂ (λ n s. offset_at p s n (port_place p k) (port_at d k).size) (sym own) (side_is k h own)

  given_place : (k : ℕ) → k < length d.ports → node_of_port d k ≡ 0 → given_clockwise w q k ≡ given_clockwise d p k
  given_place k h own =
      ap₂ (λ (x : Port) s. clockwise s (along s x.place +ℤ half_of (size_along s x.size))) (root_port_at d k h own) (side_is k h own)

  index_is : (k : ℕ) → k < length d.ports → node_of_port d k ≡ 0 → (port_at w k).index ≡ (port_at d k).index
  index_is k h own = ap (λ (x : Port). x.index) (root_port_at d k h own)

  comes_before : (j k : ℕ) → j < length d.ports → k < length d.ports → node_of_port d j ≡ 0 → node_of_port d k ≡ 0 → ComesBefore d p j k → ComesBefore w q j k
  comes_before j k hj hk own_j own_k before =
      subst₂ (λ a b. GoesFirst a b (given_clockwise w q j) (given_clockwise w q k) j k) (sym (index_is j hj own_j)) (sym (index_is k hk own_k))
      (subst₂ (λ a b. GoesFirst (port_at d j).index (port_at d k).index a b j k) (sym (given_place j hj own_j)) (sym (given_place k hk own_k)) before)

  order_kept : KeepsOrder w q 1 → KeepsOrder d p 0
  order_kept kept j k hj hk own_j own_k same before =
      let there = kept j k (many j hj) (many k hk) (node_is j hj own_j) (node_is k hk own_k) (side_is j hj own_j ∙ same ∙ sym (side_is k hk own_k)) (comes_before j k hj hk own_j own_k before) in
      subst₂ (λ a b. a ≤ℤ b) (ap₂ clockwise (side_is j hj own_j) (offset_is j hj own_j)) (ap₂ clockwise (side_is k hk own_k) (offset_is k hk own_k)) there

  -- ---- spread spots

  free_is : (k : ℕ) → k < length d.ports → node_of_port d k ≡ 0 → is_pinned w k ≡ is_pinned d k
  free_is k h own =
      ap (λ (x : Port). pins (node_at w x.node).rule (is_leaf w x.node) (is_some x.side)) (root_port_at d k h own)
      ∙ ap (λ n. pins (node_at d n).rule (is_leaf d n) (is_some (port_at d k).side)) (sym own)

  spread_is : (s : Side) (k : ℕ) → k < length d.ports → is_spread_port w q 1 s k ≡ is_spread_port d p 0 s k
  spread_is s k h =
      ⊎_elim
      (λ own.
      ap₂ (λ a b. a && (not b && is_side (side_of_port w q k) s)) (eq-eqb (node_of_port w k) 1 (node_is k h own) ∙ sym (eq-eqb (node_of_port d k) 0 own)) (free_is k h own)
      ∙ ap (λ x. (node_of_port d k == 0) && (not (is_pinned d k) && is_side x s)) (side_is k h own))
      (λ other.
      ap (λ (x : Port). (x.node == 1) && (not (is_pinned w k) && is_side (side_of_port w q k) s)) (other_port_at d k h other)
      ∙ ap (λ b. b && (not (is_pinned d k) && is_side (side_of_port d p k) s)) (sym (ne_eqb (node_of_port d k) 0 other)))
      (cases_eq (node_of_port d k) 0)

  no_spread_end : (s : Side) (t : Bool) (e : ℕ) → e < length d.edges → is_spread_end d p 0 s t e ≡ false
  no_spread_end s t e h = ap (λ b. b && is_side (side_of_end d p e t) s) (not_at_root (end_of d e t) (above e t h))

  count_is : (s : Side) → spread_count w q 1 s ≡ spread_count d p 0 s
  count_is s =
      let ports = same_count (is_spread_port w q 1 s) (is_spread_port d p 0 s) (length d.ports) (spread_is s) in
      let long = ap (count_below (is_spread_port w q 1 s)) (port_count d) in
      let sources = none_count (is_spread_end d p 0 s true) (length d.edges) (no_spread_end s true) in
      let targets = none_count (is_spread_end d p 0 s false) (length d.edges) (no_spread_end s false) in
      let no_sources = count_below-zero (is_spread_end w q 1 s true) in
      let no_targets = count_below-zero (is_spread_end w q 1 s false) in
      omega (arith, ports, long, sources, targets, no_sources, no_targets)

  true_from : (b : Bool) → b ≡ true → IsTrue b
  true_from true h = search rules
  true_from false h = absurd cc

  -- a spread spot of the root is a port of it
  record IsRootPort (s : Side) (x : Spot) (k : ℕ) : Type 0 where
    is : x ≡ a_port k
    inside : k < length d.ports
    own : node_of_port d k ≡ 0
    spread : IsTrue (is_spread_port w q 1 s k)

  spot_is : (s : Side) (x : Spot) → IsSpread d p 0 s x → (k : ℕ) × IsRootPort s x k
  spot_is s (a_port k) h =
      let passes = is_true (is_spread_port d p 0 s k) h.1 in (
        k,
        record {
          is = refl;
          inside = h.0;
          own = eqb-true (node_of_port d k) 0 (and_first (node_of_port d k == 0) (not (is_pinned d k) && is_side (side_of_port d p k) s) passes);
          spread = true_from _ (spread_is s k h.0 ∙ passes);
        },
      )
  spot_is s (an_end e t) h = absurd (let e_is = is_true _ h.1 in let bad : false ≡ true = sym (no_spread_end s t e h.0) ∙ e_is in cc)

  spread_apart : SpreadsApart w q 1 → SpreadsApart d p 0
  spread_apart kept s x y long hx hy differ same =
      let a = spot_is s x hx in
      let b = spot_is s y hy in
      let apart : a_port a.0 ≢ a_port b.0 = λ e. differ (a.1.is ∙ e ∙ sym b.1.is) in
      kept s (a_port a.0) (a_port b.0) (subst (λ n. pos n <ℤ side_length s (box_of p 0)) (sym (count_is s)) long)
      (many a.0 a.1.inside, a.1.spread) (many b.0 b.1.inside, b.1.spread) apart
      (offset_is a.0 a.1.inside a.1.own ∙ ap (spot_offset d p 0 s) (sym a.1.is) ∙ same ∙ ap (spot_offset d p 0 s) b.1.is ∙ sym (offset_is b.0 b.1.inside b.1.own))

  pub root_keeps : KeepsPorts w q 1 → KeepsPorts d p 0
  root_keeps kept =
      record {
        ports = λ k h own. port_kept k h own (kept.ports k (many k h) (node_is k h own));
        ends = λ e t h at. absurd (let up = above e t h in let zero_is = ap (node_of_end d) at in omega (arith, up, zero_is));
        order = λ rule. order_kept (kept.order rule);
        spread = spread_apart kept.spread;
      }
